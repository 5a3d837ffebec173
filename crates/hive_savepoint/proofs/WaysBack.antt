-- Data and a log lead back to a savepoint.
use Rattle.std.proofs.Common.{◌≡◌, inl, inr, ◌⊎◌, ℕ, ◌/◌, ◌%◌, ◌*◌, ◌+◌, ◌<◌, ◌≤◌, true, false, List, length, take, drop, get_or, slice_index, sym, ◌∙◌, ap, subst, arith}
use Rattle.std.specs.Prelude.{IsTrue, ◌↔◌}
use Rattle.std.proofs.lemmas.List.{get_or-take, get_or-drop}
use Rattle.std.proofs.lemmas.Bool.{and_from, and_parts, eqb-true, leb-true, eq-eqb, le-leb, cases_lt, cases_Bool}
use Rattle.refusals.specs.declared.limits.TheConstants.{MOST_BINS_BYTES}
use Rattle.dirty_vector.specs.Pages.{Pages, is_bins_size, is_dirty, Touches}
use Rattle.dirty_vector.specs.Changes.{ChangesAreMarked}
use Rattle.hive_cells.specs.Tiles.{HasFree, cell_size}
use Rattle.hive_cells.specs.Restores.{HasPage, IsSaved, Keeps}
use Rattle.hive_cells.specs.Changes.{Writes, Allocates, Frees, IsOutside, WritesSizes, least_size, least_bin}
use Rattle.hive_savepoint.specs.SavedPages.{SavedPages, Extends, LeadsBack}

-- ---- sizes of bins data

pub size_pages : (size : ℕ) → is_bins_size size ≡ true → size % 4096 ≡ 0
size_pages size good = eqb-true _ _ (and_parts _ _ (and_parts _ _ good).0).0

pub size_least : (size : ℕ) → is_bins_size size ≡ true → 4096 ≤ size
size_least size good = leb-true _ _ (and_parts _ _ (and_parts _ _ good).0).1

pub good_size : (size : ℕ) → size % 4096 ≡ 0 → 4096 ≤ size → size ≤ MOST_BINS_BYTES → is_bins_size size ≡ true
good_size size pages least most = and_from _ _ (and_from _ _ (eq-eqb (size % 4096) 0 pages) (le-leb 4096 size least)) (le-leb size MOST_BINS_BYTES most)

-- ---- the way back

-- a byte is as it was, or its page is saved
abbrev pub IsSafe : List ℕ → List ℕ → List ℕ → ℕ → Type 0
IsSafe old new order i = (slice_index new i ≡ slice_index old i) ⊎ HasPage order (i / 512)

written_through : (old now new order saved : List ℕ) → IsSaved old now order saved → length now ≤ length new → ((i : ℕ) → i < length old → IsSafe now new order i) → IsSaved old new order saved
written_through old now new order saved s more safe = record {
  longer = let longer : length old ≤ length now = s.longer in omega arith;
  whole = s.whole;
  sizes = s.sizes;
  kept = s.kept;
  same = λ i less. elim (safe i less) [
    | inr h ↦ inr h
    | inl e ↦ elim (s.same i less) [ inl f ↦ inl (e ∙ f) | inr h ↦ inr h ]
  ];
}

-- more pages were saved, and bytes were written of which each has its page saved
pub still_back : (saved old new : List ℕ) (log log' : SavedPages) (limit : ℕ) → LeadsBack saved old log limit
    → ((any : List ℕ) → length any ≡ limit → IsSaved any old log.order log.bytes → IsSaved any old log'.order log'.bytes)
    → length old ≤ length new → is_bins_size (length new) ≡ true → ((i : ℕ) → i < limit → IsSafe old new log'.order i) → LeadsBack saved new log' limit
still_back saved old new log log' limit b sound more good safe =
    let len : length saved ≡ limit = b.restores.len in
    record {
      restores = record {
        tiles = b.restores.tiles;
        len = len;
        is_saved = written_through saved old new log'.order log'.bytes (sound saved len b.restores.is_saved) more (λ i less. safe i (omega arith));
      };
      saved_size = b.saved_size;
      size = good;
    }

-- what was saved of data
abbrev pub Sound : List ℕ → SavedPages → SavedPages → ℕ → Type 0
Sound bytes log log' limit = (any : List ℕ) → length any ≡ limit → IsSaved any bytes log.order log.bytes → IsSaved any bytes log'.order log'.bytes

-- the pages of a range are saved
abbrev pub Covers : SavedPages → ℕ → ℕ → ℕ → Type 0
Covers log limit from to = (i : ℕ) → from ≤ i → i < to → i < limit → HasPage log.order (i / 512)

in_range : (old new : List ℕ) (log : SavedPages) (limit from to : ℕ) → Covers log limit from to → ((i : ℕ) → ((i < from) ⊎ (to ≤ i)) → slice_index new i ≡ slice_index old i) → (i : ℕ) → i < limit → IsSafe old new log.order i
in_range old new log limit from to cover others i less = elim (cases_lt i from) [
  | inl low ↦ inl (others i (inl low))
  | inr after ↦ elim (cases_lt i to) [ inl before ↦ inr (cover i after before less) | inr high ↦ inl (others i (inr high)) ]
]

-- bytes of a cell were written, once their pages were saved of the same data
pub wrote_back : (saved old given mid new : List ℕ) (log log' : SavedPages) (limit at from to : ℕ) → given ≡ old → mid ≡ old → Sound given log log' limit → Covers log' limit from to → Writes mid new at from to
    → LeadsBack saved old log limit → LeadsBack saved new log' limit
wrote_back saved old given mid new log log' limit at from to same kept sound cover w b =
    let len : length new ≡ length old = w.within.len ∙ ap length kept in
    still_back saved old new log log' limit b (subst (λ (x : List ℕ). Sound x log log' limit) same sound) (omega (arith, len)) (ap is_bins_size len ∙ b.size)
    (in_range old new log' limit from to cover (λ i out. w.within.others i out ∙ ap (λ (x : List ℕ). slice_index x i) kept))

-- a cell was freed, once the pages of its size and of the size of the free cell were saved
pub freed_back : (saved old given given' mid new : List ℕ) (log mid_log log' : SavedPages) (limit at from : ℕ) → given ≡ old → given' ≡ old → mid ≡ old → Sound given log mid_log limit → Sound given' mid_log log' limit
    → ((page : ℕ) → HasPage mid_log.order page → HasPage log'.order page) → Covers mid_log limit at (at + 4) → Covers log' limit from (from + 4) → Frees mid new at from → LeadsBack saved old log limit → LeadsBack saved new log' limit
freed_back saved old given given' mid new log mid_log log' limit at from same same' kept sound sound' more cover cover' f b =
    let len : length new ≡ length old = f.len ∙ ap length kept in
    still_back saved old new log log' limit b (λ any size s. subst (λ (x : List ℕ). Sound x mid_log log' limit) same' sound' any size (subst (λ (x : List ℕ). Sound x log mid_log limit) same sound any size s))
    (omega (arith, len)) (ap is_bins_size len ∙ b.size) safe
  where
    apart : (i : ℕ) → IsOutside i at → IsOutside i from → slice_index new i ≡ slice_index old i
    apart i here there = f.written i here there ∙ ap (λ (x : List ℕ). slice_index x i) kept

    beside : (i : ℕ) → i < limit → IsOutside i at → IsSafe old new log'.order i
    beside i less here = elim (cases_lt i from) [
      | inl low ↦ inl (apart i here (inl low))
      | inr after ↦ elim (cases_lt i (from + 4)) [ inl before ↦ inr (cover' i after before less) | inr high ↦ inl (apart i here (inr high)) ]
    ]

    safe : (i : ℕ) → i < limit → IsSafe old new log'.order i
    safe i less = elim (cases_lt i at) [
      | inl low ↦ beside i less (inl low)
      | inr after ↦ elim (cases_lt i (at + 4)) [ inl before ↦ inr (more (i / 512) (cover i after before less)) | inr high ↦ beside i less (inr high) ]
    ]

-- a cell was allocated, once the pages that it may lie in were saved
pub took_back : (saved old given mid new : List ℕ) (log log' : SavedPages) (limit len at : ℕ) → given ≡ old → mid ≡ old → Sound given log log' limit → Covers log' limit at (at + len + 24) → Allocates mid new len at → length new ≡ length mid
    → limit ≤ length old → LeadsBack saved old log limit → LeadsBack saved new log' limit
took_back saved old given mid new log log' limit len at same kept sound cover a size within b =
    let long : length new ≡ length old = size ∙ ap length kept in
    still_back saved old new log log' limit b (subst (λ (x : List ℕ). Sound x log log' limit) same sound) (omega (arith, long)) (ap is_bins_size long ∙ b.size) safe
  where
    most : cell_size new at ≤ least_size len + 8
    most = a.most

    sizes : WritesSizes mid new at (cell_size new at) a.room
    sizes = a.written

    apart : (i : ℕ) → i < limit → ((i < at) ⊎ (at + len + 24 ≤ i)) → slice_index new i ≡ slice_index old i
    apart i less (inl low) = sizes.others i (omega (arith, less, within, ap length kept)) (inl low) (λ rest. inl (omega (arith, low))) ∙ ap (λ (x : List ℕ). slice_index x i) kept
    apart i less (inr high) = sizes.others i (omega (arith, less, within, ap length kept)) (inr (omega (arith, high))) (λ rest. inr (omega (arith, high, most))) ∙ ap (λ (x : List ℕ). slice_index x i) kept

    safe : (i : ℕ) → i < limit → IsSafe old new log'.order i
    safe i less = elim (cases_lt i at) [
      | inl low ↦ inl (apart i less (inl low))
      | inr after ↦ elim (cases_lt i (at + len + 24)) [ inl before ↦ inr (cover i after before less) | inr high ↦ inl (apart i less (inr high)) ]
    ]

-- a cell was allocated, and no free cell was long enough
pub extends : (old new : List ℕ) (len at : ℕ) → (¬ HasFree old (least_size len)) → Allocates old new len at → Extends old new
extends old new len at none a = elim a.source [
  | inl found ↦ absurd (none (at, found.0, (let least : least_size len ≤ cell_size new at = a.least in let within : cell_size new at ≤ a.room = a.leaves.within in omega (arith, least, within, found.1))))
  | inr added ↦
      let after : length old ≤ at = omega (arith, added.2) in
      record {
        longer = a.written.longer;
        same = λ i less. a.written.others i less (inl (omega (arith, less, after))) (λ rest. inl (omega (arith, less, after)));
        size = λ good.
            let longer : length new ≡ length old + least_bin (least_size len) = added.1.longer in
            let pages : length old % 4096 ≡ 0 = size_pages (length old) good in
            let least : 4096 ≤ length old = size_least (length old) good in
            good_size (length new) (omega (arith, longer, pages)) (omega (arith, longer, least))
            (elim (cases_lt MOST_BINS_BYTES (length old + least_bin (least_size len))) [ inl over ↦ absurd (a.has_place (inr (added.0, over))) | inr within ↦ omega (arith, longer, within) ]);
      }
]

-- ---- marks

-- a page that is not dirty wasn't dirty before
still_clean : (old new : Pages) (page : ℕ) → (IsTrue (is_dirty old page) → IsTrue (is_dirty new page)) → is_dirty new page ≡ false → is_dirty old page ≡ false
still_clean old new page more clean = elim (cases_Bool (is_dirty old page)) [
  | inl was ↦ absurd (let is : is_dirty new page ≡ true = more was in let bad : ⊥ = cc in bad)
  | inr none ↦ none
]

-- a byte of a saved page that has the saved bytes
same_byte : (saved now order bytes : List ℕ) (k i : ℕ) → slice_index order k ≡ i / 512 → k < length order → Keeps saved order bytes
    → take 512 (drop (512 * slice_index order k) now) ≡ take 512 (drop (512 * k) bytes) → slice_index now i ≡ slice_index saved i
same_byte saved now order bytes k i here less keeps alike =
    let page = slice_index order k in
    let j = i % 512 in
    let below : j < 512 = omega arith in
    let place : i ≡ 512 * page + j = omega (arith, here) in
    let of : (l : List ℕ) (p : ℕ) → get_or (take 512 (drop (512 * p) l)) j 0 ≡ get_or l (512 * p + j) 0 = λ l p. get_or-take 512 (drop (512 * p) l) j 0 below ∙ get_or-drop (512 * p) l j 0 in
    ap (λ (n : ℕ). get_or now n 0) place ∙ sym (of now page) ∙ ap (λ (l : List ℕ). get_or l j 0) alike ∙ of bytes k ∙ keeps k j less below ∙ ap (λ (n : ℕ). get_or saved n 0) (sym place)

-- a dirty vector that grew, and in which the saved pages with other bytes were marked
pub marked_all : (saved now : List ℕ) (log : SavedPages) (limit : ℕ) (old grown new : Pages) → LeadsBack saved now log limit → old.bins_size ≡ length saved → grown.bins_size ≡ length now → new.bins_size ≡ grown.bins_size
    → ((page : ℕ) → IsTrue (is_dirty grown page) ↔ (IsTrue (is_dirty old page) ⊎ Touches old.bins_size (length now) page))
    → ((page : ℕ) → is_dirty new page ≡ false → is_dirty grown page ≡ false)
    → ((k : ℕ) → k < length log.order → is_dirty new (slice_index log.order k) ≡ false → take 512 (drop (512 * slice_index log.order k) now) ≡ take 512 (drop (512 * k) log.bytes))
    → ChangesAreMarked saved old now new
marked_all saved now log limit old grown new b size longer same grew kept alike = record {
  whole = let pages : length now % 4096 ≡ 0 = size_pages (length now) b.size in omega (arith, pages, longer, same);
  within = within;
  kept = λ page clean. still_clean old grown page (λ was. (grew page).1 (inl was)) (kept page clean);
  same = λ i less clean. elim (b.restores.is_saved.same i (let low : i / 512 < old.bins_size / 512 = within (i / 512) (omega (arith, less, new_pages)) clean in omega (arith, low, size, old_pages))) [
    | inl e ↦ e
    | inr h ↦ same_byte saved now log.order log.bytes h.0 i h.1.1 h.1.0 b.restores.is_saved.kept (alike h.0 h.1.0 (subst (λ (p : ℕ). is_dirty new p ≡ false) (sym h.1.1) clean))
  ];
}
  where
    new_pages : new.bins_size % 512 ≡ 0
    new_pages = let pages : length now % 4096 ≡ 0 = size_pages (length now) b.size in omega (arith, pages, longer, same)

    old_pages : length saved % 512 ≡ 0
    old_pages = let pages : length saved % 4096 ≡ 0 = size_pages (length saved) b.saved_size in omega (arith, pages)

    within : (page : ℕ) → page < new.bins_size / 512 → is_dirty new page ≡ false → page < old.bins_size / 512
    within page less clean = elim (cases_lt page (old.bins_size / 512)) [
      | inl low ↦ low
      | inr past ↦ absurd (
          let touched : Touches old.bins_size (length now) page = (512 * page, omega (arith, past, size, old_pages), omega (arith, less, longer, same), omega arith) in
          let is : is_dirty grown page ≡ true = (grew page).1 (inr touched) in
          let not : is_dirty grown page ≡ false = kept page clean in
          let bad : ⊥ = cc in bad
          )
    ]
