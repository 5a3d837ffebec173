-- What changes one after another leave.
use Rattle.std.proofs.Common.{◌≡◌, ◌≢◌, ℕ, ◌+◌, ◌%◌, ◌<◌, ◌≤◌, true, false, List, length, refl, sym, ◌∙◌, subst, inl, inr, arith, ap}
use Rattle.std.proofs.lemmas.Bool.{cases_lt, cases_eq}
use Rattle.refusals.specs.declared.limits.TheConstants.{MOST_BINS_BYTES}
use Rattle.hive_cells.specs.Tiles.{u32_at, IsBin, bin_size, is_allocated, cell_size, IsAllocatedCell, IsFreeCell}
use Rattle.hive_cells.specs.Marks.{IsWholeCell}
use Rattle.hive_cells.specs.Starts.{HasStartBits, SameCell}
use Rattle.hive_cells.specs.Changes.{StaysAt, StaysFree, RewritesWithin, RewritesSizes, IsOutside, Turns, Splits, JoinsBehind, JoinsBefore, Frees, IsCutToSize, Takes, LeavesRest, IsRoomFor, HasRoom, HasNoRoomFor, Allocates, least_size}
use Rattle.hive_cells.proofs.CellChanges.{cell_within}
use Rattle.hive_cells.proofs.Lookups.{begins_apart}
use Rattle.hive_cells.proofs.Region.{words_same}
use Rattle.hive_cells.proofs.Bounds.{same_cell}
use Rattle.hive_cells.proofs.Region.{free_is, free_was}

-- what stays if nothing changes
stays_same : (bytes : List ℕ) (at : ℕ) → StaysAt bytes bytes at
stays_same bytes at = record { same = ((λ found. found), (λ found. found)); size = λ found. refl; kept = λ found. refl }

-- what stays over two changes
pub stays_on : (old mid new : List ℕ) (at : ℕ) → StaysAt old mid at → StaysAt mid new at → StaysAt old new at
stays_on old mid new at a b =
    record {
      same = (λ found. a.same.0 (b.same.0 found), λ found. b.same.1 (a.same.1 found));
      size = λ found. b.size (a.same.1 found) ∙ a.size found;
      kept = λ found. b.kept (a.same.1 found) ∙ a.kept found;
    }

-- what a cell that is the same was
pub same_on : (old mid new : List ℕ) (at : ℕ) → SameCell old mid at → SameCell mid new at → SameCell old new at
same_on old mid new at a b =
    record {
      begins = λ found. b.begins (a.begins found);
      began = λ found. a.began (b.began found);
      word = λ found. b.word (a.begins found) ∙ a.word found;
    }

-- a free cell that is the same stays
pub same_free : (old new : List ℕ) (at : ℕ) → SameCell old new at → StaysFree old new at
same_free old new at s =
    record {
      same = ((λ found. (free_was old new at s found).0), (λ found. (free_is old new at s found).0));
      size = λ found. (free_is old new at s found).1;
    }

-- ---- freeing

-- a cell that turned free and was joined with its neighbours
pub freed : (old free joined new words : List ℕ) (at from : ℕ) → HasStartBits old words → IsAllocatedCell old at → length old ≤ MOST_BINS_BYTES
    → Turns old free at false → JoinsBehind free joined at → JoinsBefore joined new at from → Frees old new at from
freed old free joined new words at from k was limit turned behind before =
    let long : 8 ≤ cell_size old at = (cell_within old words at k was.0).least in
    let more : cell_size free at ≤ cell_size joined at = behind.least in
    let size : cell_size free at ≡ cell_size old at = turned.size in
    let end : from + cell_size new from ≡ at + cell_size joined at = before.end in
    record {
      was = was;
      limit = limit;
      gone = λ found. (
          let yes : is_allocated free at ≡ true = ((behind.stay at).same.0 ((before.stay at).same.0 found)).1 in
          let kind : is_allocated free at ≡ false = turned.kind in
          let no : ⊥ = cc in no
          );
      others = λ other apart. stays_on old joined new other (stays_on old free joined other (turned.stay other apart) (behind.stay other)) (before.stay other);
      len = before.written.len ∙ behind.written.len ∙ turned.written.len;
      merges = record {
        free = before.free;
        before = before.before;
        behind = omega arith;
        free_before = λ b found ends.
            let whole : 8 ≤ cell_size old b = (cell_within old words b k found.0).least in
            let low : b < at = omega arith in
            let first = free_is old free b (turned.cells b (omega arith) (omega arith)) found in
            let second = free_is free joined b (behind.before b low) first.0 in
            before.joined b second.0 (omega (arith, second.1, first.1));
        none_before = λ none. before.alone (λ b found ends. elim (cases_lt b at) [
          | inl low ↦
              let second = free_was free joined b (behind.before b low) found in
              let first = free_was old free b (turned.cells b (omega arith) (omega arith)) second.0 in
              none b first.0 (omega (arith, second.1, first.1))
          | inr high ↦
              let here : b ≡ at = omega arith in
              let same : cell_size joined b ≡ cell_size joined at = ap (cell_size joined) here in
              omega arith
        ]);
        free_behind = λ b found starts.
            let first = free_is old free b (turned.cells b (omega arith) (omega arith)) found in
            omega (arith, behind.joined b first.0 (omega arith), first.1);
      };
      written = λ i here there. before.written.others i there ∙ behind.written.others i here ∙ turned.written.others i here;
    }

-- none is there
pub none_behind : (bytes : List ℕ) (at next : ℕ) → IsFreeCell bytes at → next ≡ at + cell_size bytes at → (¬ IsFreeCell bytes next) → JoinsBehind bytes bytes at
none_behind bytes at next free next_is none =
    record {
      free = free;
      least = omega arith;
      joined = λ other found is. absurd (none (subst (λ (x : ℕ). IsFreeCell bytes x) (is ∙ sym next_is) found));
      stay = λ other. stays_same bytes other;
      before = λ other low. same_cell bytes other;
      written = record { len = refl; others = λ i out. refl };
    }

-- none is there
pub none_before : (bytes : List ℕ) (at : ℕ) → IsFreeCell bytes at → ((from : ℕ) → IsFreeCell bytes from → from + cell_size bytes from ≢ at) → JoinsBefore bytes bytes at at
none_before bytes at free none =
    record {
      before = omega arith;
      free = free;
      end = refl;
      joined = λ first found ends. absurd (none first found ends);
      alone = λ nothing. refl;
      stay = λ other. stays_same bytes other;
      written = record { len = refl; others = λ i out. refl };
    }

-- ---- allocating

-- a free cell that was split
pub was_fitted : (old new : List ℕ) (at size : ℕ) → size + 8 ≤ cell_size old at → Splits old new at size → IsCutToSize old new at size
was_fitted old new at size more s =
    let first : cell_size new at ≡ size = s.first_size in
    let whole : size + cell_size new (at + size) ≡ cell_size old at = s.second_size in
    let place : at + cell_size new at ≡ at + size = omega arith in
    record {
      free = s.first;
      least = omega arith;
      most = omega arith;
      exact = λ less. first;
      within = omega arith;
      rest = λ less. subst (λ (x : ℕ). IsFreeCell new x) (sym place) s.second;
      rest_size = λ less. omega (arith, ap (cell_size new) place);
      stay = s.stay;
      cells = λ other apart beside. s.cells other apart (λ e. beside (omega arith) (e ∙ sym place));
      written = record { len = s.written.len; others = λ i here rest. s.written.others i here (λ less. subst (λ n. IsOutside i (at + n)) first (rest (omega arith))) };
    }

-- one that fits as it is
pub fits_already : (bytes : List ℕ) (at size : ℕ) → IsFreeCell bytes at → size ≤ cell_size bytes at → cell_size bytes at ≤ size + 8 → IsCutToSize bytes bytes at size
fits_already bytes at size free least most =
    record {
      free = free;
      least = least;
      most = most;
      exact = λ less. absurd (omega arith);
      within = omega arith;
      rest = λ less. absurd (omega arith);
      rest_size = λ less. absurd (omega arith);
      stay = λ other. stays_same bytes other;
      cells = λ other apart beside. same_cell bytes other;
      written = record { len = refl; others = λ i here rest. refl };
    }

-- a free cell that was fitted and turned allocated
pub taken : (old fitted new words : List ℕ) (at size : ℕ) → HasStartBits old words → 8 ≤ size → IsFreeCell old at → IsCutToSize old fitted at size → Turns fitted new at true → Takes old new at size
taken old fitted new words at size k wide free fit turn =
    let same_size : cell_size new at ≡ cell_size fitted at = turn.size in
    let least : size ≤ cell_size fitted at = fit.least in
    let most : cell_size fitted at ≤ size + 8 = fit.most in
    let within : cell_size fitted at ≤ cell_size old at = fit.within in
    let place : at + cell_size new at ≡ at + cell_size fitted at = omega arith in
    let same : (other : ℕ) → other ≢ at → (cell_size fitted at < cell_size old at → other ≢ at + cell_size fitted at) → SameCell old new other =
    (λ other apart beside. same_on old fitted new other (fit.cells other apart beside) (turn.cells other apart apart)) in
    let rest : cell_size new at < cell_size old at → IsFreeCell new (at + cell_size fitted at) × (cell_size new (at + cell_size fitted at) ≡ cell_size fitted (at + cell_size fitted at)) =
    (λ less.
    let whole : 8 ≤ cell_size old at = (cell_within old words at k free.0).least in
    free_is fitted new (at + cell_size fitted at) (turn.cells (at + cell_size fitted at) (omega arith) (omega arith)) (fit.rest (omega arith))) in
    record {
      fresh = λ was. (let yes : is_allocated old at ≡ true = was.1 in let kind : is_allocated old at ≡ false = free.1 in let no : ⊥ = cc in no);
      begins = (turn.begins, turn.kind);
      least = omega arith;
      most = omega arith;
      exact = λ less. same_size ∙ fit.exact less;
      others = λ other apart. stays_on old fitted new other (fit.stay other) (turn.stay other apart);
      leaves = record {
        within = omega arith;
        rest = λ less. subst (λ (x : ℕ). IsFreeCell new x) (sym place) (rest less).0;
        rest_size = λ less. omega (arith, ap (cell_size new) place, (rest less).1, fit.rest_size (omega arith));
        alone = λ other found after before. elim (cases_eq other at) [
          | inl here ↦ absurd (
              let kind : is_allocated new at ≡ true = turn.kind in
              let yes : is_allocated new at ≡ false = ap (is_allocated new) (sym here) ∙ found.1 in
              let no : ⊥ = cc in no
              )
          | inr apart ↦ elim (cases_eq other (at + cell_size new at)) [
            | inl there ↦ there
            | inr beside ↦ absurd (begins_apart old words k at other free.0 ((same other apart (λ less e. beside (e ∙ sym place))).began found.0) (omega arith) before)
          ]
        ];
        others = λ other out. same_free old new other (same other (elim out [ inl low ↦ (λ e. omega arith) | inr high ↦ (λ e. (let whole : 8 ≤ cell_size old at = (cell_within old words at k free.0).least in let no : ⊥ = omega arith in no)) ])
            (λ less e. elim out [ inl low ↦ omega arith | inr high ↦ omega arith ]));
      };
      written = record {
        len = turn.written.len ∙ fit.written.len;
        others = λ i here rest. turn.written.others i here ∙ fit.written.others i here (λ less. subst (λ n. IsOutside i (at + n)) same_size (rest (omega arith)));
      };
    }

-- a bin stays one if only bytes after its header are written
bin_stays : (mid new : List ℕ) (bin from to : ℕ) → IsBin mid bin → bin + 32 ≤ from → RewritesWithin mid new from to → IsBin new bin × (bin_size new bin ≡ bin_size mid bin)
bin_stays mid new bin from to b behind r =
    let word : (at : ℕ) → at + 4 ≤ from → u32_at new at ≡ u32_at mid at = (λ at low. words_same mid new at (λ i after before. r.others i (inl (omega arith)))) in
    let size : bin_size new bin ≡ bin_size mid bin = word (bin + 8) (omega arith) in (
      record {
        signature = word bin (omega arith) ∙ b.signature;
        own_offset = word (bin + 4) (omega arith) ∙ b.own_offset;
        pages = ap (λ (x : ℕ). x % 4096) size ∙ b.pages;
        not_empty = λ none. b.not_empty (sym size ∙ none);
        within = omega (arith, b.within, r.len);
      },
      size,
    )

-- what is written lies in the cell and in the four bytes after it
sizes_within : (old new : List ℕ) (at size room : ℕ) → RewritesSizes old new at size room → RewritesWithin old new at (at + size + 4)
sizes_within old new at size room r = record {
  len = r.len;
  others = λ i out. elim out [
    | inl low ↦ r.others i (inl low) (λ less. inl (omega arith))
    | inr high ↦ r.others i (inr (omega arith)) (λ less. inr high)
  ];
}

-- the room that a cell is taken from, once it is taken
room_of : (old mid new : List ℕ) (size at room : ℕ) → IsRoomFor old mid size at room → RewritesWithin mid new at (at + cell_size new at + 4) → IsRoomFor old new size at room
room_of old mid new size at room (inl found) r = inl (found.0, found.1, r.len ∙ found.2)
room_of old mid new size at room (inr added) r =
    let bin = bin_stays mid new (length old) at (at + cell_size new at + 4) added.1.bin (omega (arith, added.2)) r in
    inr (
      added.0,
      record {
        longer = r.len ∙ added.1.longer;
        bin = bin.0;
        size_is = bin.1 ∙ added.1.size_is;
        zeros = λ i after before. r.others i (inl (omega (arith, added.2))) ∙ added.1.zeros i after before;
      },
      added.2,
      added.3,
    )

-- a cell that was allocated where there was room
pub allocated : (old mid new : List ℕ) (len size at : ℕ) → size ≡ least_size len → HasRoom old mid at size → Takes mid new at size → Allocates old new len at
allocated old mid new len size at size_is room took =
    let least : size ≤ cell_size new at = took.least in
    let most : cell_size new at ≤ size + 8 = took.most in
    let longer : length old ≤ length mid = room.longer in
    let all : ℕ = cell_size mid at in
    let leaves : LeavesRest mid new at (cell_size mid at) = took.leaves in
    let some : 0 < cell_size mid at = omega (arith, room.fits) in
    record {
      room = cell_size mid at;
      has_place = subst (λ (x : ℕ). ¬ HasNoRoomFor old x) size_is room.has_place;
      fresh = λ found. took.fresh ((room.stay at).same.1 found);
      begins = took.begins;
      least = omega arith;
      most = omega arith;
      exact = λ less. took.exact (subst (λ (x : ℕ). x + 8 < cell_size mid at) (sym size_is) less) ∙ size_is;
      others = λ other apart. stays_on old mid new other (room.stay other) (took.others other apart);
      source = subst (λ (x : ℕ). IsRoomFor old new x at (cell_size mid at)) size_is (room_of old mid new size at (cell_size mid at) room.source (sizes_within mid new at (cell_size new at) (cell_size mid at) took.written));
      leaves = record {
        within = leaves.within;
        rest = leaves.rest;
        rest_size = leaves.rest_size;
        alone = leaves.alone;
        others = λ other out.
            let before : StaysFree old mid other = same_free old mid other (room.cells other (elim out [ inl low ↦ (λ e. omega arith) | inr high ↦ (λ e. omega arith) ])) in
            let after : StaysFree mid new other = leaves.others other out in
            record {
              same = ((λ found. before.same.0 (after.same.0 found)), (λ found. after.same.1 (before.same.1 found)));
              size = λ found. after.size (before.same.1 found) ∙ before.size found;
            };
      };
      written = record {
        longer = omega (arith, took.written.len);
        others = λ i before here rest. took.written.others i here rest ∙ room.same i before;
      };
    }

-- the free cell before one that is merged into it
pub room_found : (bytes words : List ℕ) (at size : ℕ) → HasStartBits bytes words → length bytes ≤ MOST_BINS_BYTES → IsFreeCell bytes at → size ≤ cell_size bytes at → HasRoom bytes bytes at size
room_found bytes words at size k limit free fits =
    record {
      limit = limit;
      cell = free;
      fits = fits;
      within = (cell_within bytes words at k free.0).within;
      stay = λ other. stays_same bytes other;
      cells = λ other apart. same_cell bytes other;
      longer = omega arith;
      same = λ i before. refl;
      source = inl (free, refl, refl);
      has_place = λ no. elim no [ inl over ↦ omega arith | inr needs ↦ needs.0 (at, free, fits) ];
    }

-- no cell that is longer than the limit has room
pub no_place : (bytes words : List ℕ) (len : ℕ) → HasStartBits bytes words → MOST_BINS_BYTES < len → HasNoRoomFor bytes (least_size len)
no_place bytes words len k over = elim (cases_lt MOST_BINS_BYTES (length bytes)) [
  | inl long ↦ inl long
  | inr within ↦ inr (
    (
        λ found.
        let w : IsWholeCell bytes found.0 = cell_within bytes words found.0 k found.1.0 in
        omega (arith, w.within, found.2)
        ),
    omega arith,
  )
]
