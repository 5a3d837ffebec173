-- What each change of an image's bytes leaves of the image.
use Rattle.std.proofs.Common.{◌≡◌, ℕ, ◌+◌, ◌-◌, ◌/◌, ◌%◌, ◌<◌, ◌≤◌, Bool, true, false, List, ◌++◌, length, refl, sym, ◌∙◌, subst, inl, inr, arith, ap, ◌⊎◌}
use Rattle.std.specs.Prelude.{Option, Some, None, MatchOption, replicate}
use Rattle.std.proofs.lemmas.Bool.{cases_eq, cases_Bool}
use Rattle.std.proofs.lemmas.List.{length-append, length-replicate}
use Rattle.refusals.specs.declared.limits.TheConstants.{MOST_BINS_BYTES}
use Rattle.hive_cells.proofs.NewBin.{bin_added}
use Rattle.hive_cells.specs.Bins.{Cells, Shows}
use Rattle.hive_cells.specs.Tiles.{is_allocated, cell_size, cell_data, BeginsCell, IsAllocatedCell, IsFreeCell}
use Rattle.hive_cells.specs.Starts.{HasStartBits, IsImage, AreBounds, SetsStartBit, Raises, is_start}
use Rattle.hive_cells.specs.Changes.{PutsSize, RewritesWithin, Turns, Splits, Joins, LaysBin, AddsFreeBin, Writes}
use Rattle.hive_cells.proofs.CellChanges.{turned, was_split, were_joined, written, puts_beside}
use Rattle.hive_cells.proofs.Region.{size_same}
use Rattle.hive_cells.proofs.Lookups.{cell_of_bit, bit_of_cell}
use Rattle.hive_cells.proofs.Bounds.{bounds_on, bounds_noted, bounds_all}

-- an image of other bytes of the same length
image_again : (old new words words' bounds bounds' : List ℕ) (spare room words_room : ℕ) → IsImage old words bounds spare room words_room
    → length new ≡ length old → length words' ≡ length words → HasStartBits new words' → AreBounds new bounds' → length bounds' ≡ length bounds → IsImage new words' bounds' spare room words_room
image_again old new words words' bounds bounds' spare room words_room i len words_len kept free bounds_len =
    record {
      indexed = record { cells = kept; free = free; most_pages = omega (arith, i.indexed.most_pages) };
      room_left = omega (arith, i.room_left);
      words_left = omega (arith, i.words_left);
    }

-- a cell that turned, whose size was noted
pub image_turned : (old new words bounds bounds' : List ℕ) (spare room words_room at size : ℕ) (kind : Bool) → IsImage old words bounds spare room words_room
    → BeginsCell old at → size ≡ cell_size old at → PutsSize old new at size kind → Raises bounds bounds' (at / 4096) size → IsImage new words bounds' spare room words_room × Turns old new at kind
image_turned old new words bounds bounds' spare room words_room at size kind i found size_is p r =
    let c = turned old new words at size kind i.indexed.cells found size_is p in
    let same : cell_size new at ≡ size = p.size_is in (
      image_again old new words words bounds bounds' spare room words_room i p.len refl c.kept
          (bounds_noted new bounds bounds' at (bounds_on old new bounds at at i.indexed.free c.cells p.len (λ apart free. absurd (apart refl))) (subst (λ (x : ℕ). Raises bounds bounds' (at / 4096) x) (sym same) r))
          r.len,
      record { begins = c.begins; kind = p.kind_is; size = same ∙ size_is; stay = c.stay; cells = c.cells; written = record { len = p.len; others = p.others } },
    )

-- a free cell that was split, whose second part was noted
pub image_split : (old half new words words' bounds bounds' : List ℕ) (spare room words_room at size rest : ℕ) → IsImage old words bounds spare room words_room
    → IsFreeCell old at → cell_size old at ≡ size + rest → size % 8 ≡ 0 → 8 ≤ size → 8 ≤ rest
    → PutsSize old half (at + size) rest false → PutsSize half new at size false → SetsStartBit words words' ((at + size) / 8) true → Raises bounds bounds' ((at + size) / 4096) rest
    → IsImage new words' bounds' spare room words_room × Splits old new at size
image_split old half new words words' bounds bounds' spare room words_room at size rest i free whole eights least more p q put r =
    let both = was_split old half new words words' at size rest i.indexed.cells free whole eights least more p q put in
    let c = both.0 in
    let second : cell_size new (at + size) ≡ rest = size_same half new (at + size) (puts_beside half new at size false q (at + size) (inr (omega arith))) ∙ p.size_is in
    let first : cell_size new at ≡ size = q.size_is in
    let len : length new ≡ length old = q.len ∙ p.len in (
      image_again old new words words' bounds bounds' spare room words_room i len put.len c.kept
          (bounds_noted new bounds bounds' (at + size)
          (bounds_on old new bounds at (at + size) i.indexed.free c.cells len (λ apart _. omega (arith, i.indexed.free.most at free)))
          (subst (λ (x : ℕ). Raises bounds bounds' ((at + size) / 4096) x) (sym second) r))
          r.len,
      record {
        first = (c.begins, q.kind_is);
        first_size = first;
        second = both.1;
        second_size = omega arith;
        stay = c.stay;
        cells = c.cells;
        written = record { len = len; others = λ j here rest. q.others j here ∙ p.others j (rest (omega arith)) };
      },
    )

-- two free cells that were joined, and noted
pub image_joined : (old new words words' bounds bounds' : List ℕ) (spare room words_room at next size : ℕ) → IsImage old words bounds spare room words_room
    → IsFreeCell old at → IsFreeCell old next → next ≡ at + cell_size old at → size ≡ cell_size old at + cell_size old next
    → PutsSize old new at size false → SetsStartBit words words' (next / 8) false → Raises bounds bounds' (at / 4096) size
    → IsImage new words' bounds' spare room words_room × Joins old new at next
image_joined old new words words' bounds bounds' spare room words_room at next size i free next_free behind size_is q put r =
    let both = were_joined old new words words' at next size i.indexed.cells free next_free behind size_is q put in
    let c = both.0 in
    let same : cell_size new at ≡ size = q.size_is in (
      image_again old new words words' bounds bounds' spare room words_room i q.len put.len c.kept
          (bounds_noted new bounds bounds' at
          (bounds_on old new bounds next at i.indexed.free (λ other not_next not_at. c.cells other not_at not_next) q.len (λ apart found. absurd (both.1 found.0)))
          (subst (λ (x : ℕ). Raises bounds bounds' (at / 4096) x) (sym same) r))
          r.len,
      record {
        joined = (c.begins, q.kind_is);
        size = same ∙ size_is;
        gone = both.1;
        stay = c.stay;
        cells = c.cells;
        written = record { len = q.len; others = q.others };
      },
    )

-- a cell whose data were written
pub image_written : (old new words bounds : List ℕ) (spare room words_room at from len : ℕ) → IsImage old words bounds spare room words_room
    → IsAllocatedCell old at → at + 4 ≤ from → from + len ≤ at + cell_size old at → RewritesWithin old new from (from + len)
    → IsImage new words bounds spare room words_room × Writes old new at from (from + len)
image_written old new words bounds spare room words_room at from len i found low high r =
    let c = written old new words at from len i.indexed.cells found low high r in (
      image_again old new words words bounds bounds spare room words_room i r.len refl c.kept
          (bounds_all new bounds at
          (bounds_on old new bounds at at i.indexed.free c.cells r.len (λ apart free. absurd (apart refl)))
          (λ free. let kind : is_allocated new at ≡ true = c.stay.begins.1 in let is : is_allocated new at ≡ false = free.1 in let no : ⊥ = cc in no))
          refl,
      c.stay,
    )

-- ---- the same, as methods know them: an image's bytes are those that contracts see, and what is written over is
-- theirs

pub turn_all : (items now given new words bounds bounds' : List ℕ) (spare room words_room at size : ℕ) (kind : Bool) → items ≡ now → given ≡ items → IsImage items words bounds spare room words_room
    → BeginsCell now at → size ≡ cell_size now at → PutsSize given new at size kind → Raises bounds bounds' (at / 4096) size → IsImage new words bounds' spare room words_room × Turns now new at kind
turn_all items now given new words bounds bounds' spare room words_room at size kind seen same i found size_is p r =
    image_turned now new words bounds bounds' spare room words_room at size kind (subst (λ (x : List ℕ). IsImage x words bounds spare room words_room) seen i)
    found size_is (subst (λ (x : List ℕ). PutsSize x new at size kind) (same ∙ seen) p) r

pub split_all : (items now given new words given_words words' bounds bounds' : List ℕ) (spare room words_room at size rest : ℕ) → items ≡ now → given ≡ items → given_words ≡ words → IsImage items words bounds spare room words_room
    → IsFreeCell now at → cell_size now at ≡ size + rest → size % 8 ≡ 0 → 8 ≤ size → 8 ≤ rest
    → ((half : List ℕ) × PutsSize given half (at + size) rest false × PutsSize half new at size false) → SetsStartBit given_words words' ((at + size) / 8) true → Raises bounds bounds' ((at + size) / 4096) rest
    → IsImage new words' bounds' spare room words_room × Splits now new at size
split_all items now given new words given_words words' bounds bounds' spare room words_room at size rest seen same same_words i free whole eights least more puts put r =
    image_split now puts.0 new words words' bounds bounds' spare room words_room at size rest (subst (λ (x : List ℕ). IsImage x words bounds spare room words_room) seen i)
    free whole eights least more (subst (λ (x : List ℕ). PutsSize x puts.0 (at + size) rest false) (same ∙ seen) puts.1) puts.2
    (subst (λ (x : List ℕ). SetsStartBit x words' ((at + size) / 8) true) same_words put) r

pub join_all : (items now given new words given_words words' bounds bounds' : List ℕ) (spare room words_room at next size : ℕ) → items ≡ now → given ≡ items → given_words ≡ words → IsImage items words bounds spare room words_room
    → IsFreeCell now at → IsFreeCell now next → next ≡ at + cell_size now at → size ≡ cell_size now at + cell_size now next
    → PutsSize given new at size false → SetsStartBit given_words words' (next / 8) false → Raises bounds bounds' (at / 4096) size
    → IsImage new words' bounds' spare room words_room × Joins now new at next
join_all items now given new words given_words words' bounds bounds' spare room words_room at next size seen same same_words i free next_free behind size_is p put r =
    image_joined now new words words' bounds bounds' spare room words_room at next size (subst (λ (x : List ℕ). IsImage x words bounds spare room words_room) seen i)
    free next_free behind size_is (subst (λ (x : List ℕ). PutsSize x new at size false) (same ∙ seen) p) (subst (λ (x : List ℕ). SetsStartBit x words' (next / 8) false) same_words put) r

pub write_all : (items now given new words bounds : List ℕ) (spare room words_room at from len : ℕ) → items ≡ now → given ≡ items → IsImage items words bounds spare room words_room
    → IsAllocatedCell now at → at + 4 ≤ from → from + len ≤ at + cell_size now at → RewritesWithin given new from (from + len)
    → IsImage new words bounds spare room words_room × Writes now new at from (from + len)
write_all items now given new words bounds spare room words_room at from len seen same i found low high r =
    image_written now new words bounds spare room words_room at from len (subst (λ (x : List ℕ). IsImage x words bounds spare room words_room) seen i)
    found low high (subst (λ (x : List ℕ). RewritesWithin x new from (from + len)) (same ∙ seen) r)

-- a bin that was added, with what is spare then
pub bin_all : (items now given new words given_words words' bounds bounds' : List ℕ) (spare spare' room words_room room' words_room' more at : ℕ) → items ≡ now → at ≡ length items → IsImage items words bounds spare room words_room
    → more % 4096 ≡ 0 → 0 < more → at + more ≤ MOST_BINS_BYTES → given ≡ items ++ replicate more 0 → given_words ≡ words ++ replicate (more / 512) 0
    → SetsStartBit given_words words' ((at + 32) / 8) true → LaysBin given new at → Raises bounds bounds' ((at + 32) / 4096) (more - 32)
    → spare' ≡ spare - more → room ≤ room' → words_room ≤ words_room' → length new ≤ room' → length words' ≤ words_room'
    → IsImage new words' bounds' spare' room' words_room' × AddsFreeBin now new more
bin_all items now given new words given_words words' bounds bounds' spare spare' room words_room room' words_room' more at seen at_is i pages some limit given_is words_are put l r spare_is wider words_wider fits words_fit =
    let most : MOST_BINS_BYTES / 4096 ≤ length bounds = i.indexed.most_pages in
    let whole : length items % 4096 ≡ 0 = i.indexed.cells.all.pages in
    let added = bin_added items given new words words' bounds bounds' more at at_is i.indexed.cells i.indexed.free pages some given_is
    (subst (λ (x : List ℕ). SetsStartBit x words' ((at + 32) / 8) true) words_are put) l (omega arith) r in
    let longer : length new ≡ length items + more = added.0.adds.longer in
    let words_longer : length words' ≡ length words + more / 512 = put.len ∙ ap length words_are ∙ length-append words (replicate (more / 512) 0) ∙ ap (λ (x : ℕ). length words + x) (length-replicate {A = ℕ} (more / 512) 0) in (
      record {
        indexed = record { cells = added.1; free = added.2; most_pages = omega (arith, r.len) };
        room_left = omega (arith, i.room_left);
        words_left = omega (arith, i.words_left);
      },
      subst (λ (x : List ℕ). AddsFreeBin x new more) seen added.0,
    )

-- ---- the allocated cells as a function of offsets

module _ (bytes words : List ℕ) (k : HasStartBits bytes words) where
  -- whether a cell begins, by the bits
  starts_here : (at : ℕ) → (BeginsCell bytes at) ⊎ (¬ BeginsCell bytes at)
  starts_here at = elim (cases_eq (at % 8) 0) [
    | inl eights ↦ elim (cases_Bool (is_start words (at / 8))) [
      | inl set ↦ inl (cell_of_bit bytes words k at eights set)
      | inr clear ↦ inr (λ found. let set : is_start words (at / 8) ≡ true = (bit_of_cell bytes words k at found).1 in let no : ⊥ = cc in no)
    ]
    | inr apart ↦ inr (λ found. apart (bit_of_cell bytes words k at found).0)
  ]

  -- whether an allocated cell begins
  is_there : (at : ℕ) → (IsAllocatedCell bytes at) ⊎ (¬ IsAllocatedCell bytes at)
  is_there at = elim (starts_here at) [
    | inl found ↦ elim (cases_Bool (is_allocated bytes at)) [
      | inl set ↦ inl (found, set)
      | inr clear ↦ inr (λ there. let set : is_allocated bytes at ≡ true = there.1 in let no : ⊥ = cc in no)
    ]
    | inr none ↦ inr (λ there. none there.0)
  ]

  its_data : (at : ℕ) → (IsAllocatedCell bytes at) ⊎ (¬ IsAllocatedCell bytes at) → Option (List ℕ)
  its_data at (inl found) = Some (cell_data bytes at)
  its_data at (inr none) = None

  shows_if : (at : ℕ) (which : (IsAllocatedCell bytes at) ⊎ (¬ IsAllocatedCell bytes at)) → MatchOption (its_data at which) (¬ IsAllocatedCell bytes at) (λ its. IsAllocatedCell bytes at × (its ≡ cell_data bytes at))
  unfolding its_data
  shows_if at (inl found) = (found, refl)
  shows_if at (inr none) = none

  pub shown : (cells : Cells) × Shows bytes cells
  shown = ((λ at. its_data at (is_there at)), (λ at. shows_if at (is_there at)))
