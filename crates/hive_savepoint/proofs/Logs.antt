-- A log of saved pages that gets longer.
use Rattle.std.proofs.Common.{◌≡◌, ◌≢◌, inl, inr, ◌⊎◌, ℕ, ◌+◌, ◌-◌, ◌*◌, ◌/◌, ◌<◌, ◌≤◌, [], ◌∷◌, ◌++◌, true, false, List, length, drop, slice_index, slice_range, refl, sym, ◌∙◌, ap, subst, arith, length-take, length-drop}
use Rattle.std.specs.Prelude.{replicate}
use Rattle.std.proofs.Math.ListN.{get_or-append}
use Rattle.std.proofs.Math.Seq.{get_or-append_seam}
use Rattle.std.proofs.lemmas.Bool.{cases_eq, cases_lt}
use Rattle.std.proofs.lemmas.List.{length-replicate, length-append, get_or-append-add, get_or-drop, get_or-take}
use Rattle.refusals.specs.declared.limits.TheConstants.{MOST_BINS_BYTES}
use Rattle.dirty_vector.specs.Marks.{is_marked}
use Rattle.hive_cells.specs.Restores.{HasPage, IsSaved}
use Rattle.hive_cells.proofs.Walk.{no_start}
use Rattle.hive_savepoint.specs.SavedPages.{SavedPages, IsLog}

-- no page is in an empty list
none_saved : (page : ℕ) → HasPage [] page → ⊥
none_saved page h = let low : h.0 < 0 = h.1.0 in omega (arith, low)

-- without a mark nothing is saved
pub empty_log : (marks : List ℕ) → length marks ≡ MOST_BINS_BYTES / 512 / 64 → ((page : ℕ) → is_marked marks page ≡ false) → IsLog marks [] []
empty_log marks len clear = record {
  len = len;
  marked = λ page. ((λ set. absurd (let no : is_marked marks page ≡ false = clear page in let bad : ⊥ = cc in bad)), (λ h. absurd (none_saved page h)));
  within = λ k less. absurd (omega (arith, less));
  sizes = refl;
}

pub blank_log : (marks order bytes : List ℕ) → marks ≡ replicate (MOST_BINS_BYTES / 512 / 64) 0 → order ≡ [] → bytes ≡ [] → IsLog marks order bytes
blank_log marks order bytes is none empty =
    subst (λ (x : List ℕ). IsLog x order bytes) (sym is)
    (subst (λ (x : List ℕ). IsLog (replicate (MOST_BINS_BYTES / 512 / 64) 0) x bytes) (sym none)
    (subst (λ (x : List ℕ). IsLog (replicate (MOST_BINS_BYTES / 512 / 64) 0) [] x) (sym empty)
    (empty_log (replicate (MOST_BINS_BYTES / 512 / 64) 0) (length-replicate {A = ℕ} (MOST_BINS_BYTES / 512 / 64) 0) (λ page. no_start (MOST_BINS_BYTES / 512 / 64) page))))

-- ---- one page more

one_longer : (order : List ℕ) (page : ℕ) → length (order ++ page ∷ []) ≡ length order + 1
one_longer order page = length-append order (page ∷ [])

-- what was saved still is
pub has_more : (order : List ℕ) (page other : ℕ) → HasPage order other → HasPage (order ++ page ∷ []) other
has_more order page other h =
    let low : h.0 < length order = h.1.0 in
    (h.0, (omega (arith, one_longer order page, low), get_or-append order (page ∷ []) 0 h.0 low ∙ h.1.1))

-- the page is the last one
pub has_last : (order : List ℕ) (page : ℕ) → HasPage (order ++ page ∷ []) page
has_last order page = (length order, (omega (arith, one_longer order page), get_or-append_seam order page [] 0))

-- an index is one of the old ones or the last
which : (order : List ℕ) (page k : ℕ) → k < length (order ++ page ∷ []) → (k < length order) ⊎ (k ≡ length order)
which order page k less = elim (cases_lt k (length order)) [ inl low ↦ inl low | inr past ↦ inr (omega (arith, one_longer order page, less, past)) ]

has_one_of : (order : List ℕ) (page other : ℕ) → HasPage (order ++ page ∷ []) other → HasPage order other ⊎ (other ≡ page)
has_one_of order page other h = elim (which order page h.0 h.1.0) [
  | inl low ↦ inl (h.0, (low, sym (get_or-append order (page ∷ []) 0 h.0 low) ∙ h.1.1))
  | inr last ↦ inr (sym h.1.1 ∙ ap (slice_index (order ++ page ∷ [])) last ∙ get_or-append_seam order page [] 0)
]

-- the log is one still
pub pushed : (marks marks' order bytes part : List ℕ) (page : ℕ) → IsLog marks order bytes → page < MOST_BINS_BYTES / 512 → length marks' ≡ length marks → is_marked marks' page ≡ true
    → ((other : ℕ) → other ≢ page → is_marked marks' other ≡ is_marked marks other) → length part ≡ 512 → IsLog marks' (order ++ page ∷ []) (bytes ++ part)
pushed marks marks' order bytes part page log low len here others whole = record {
  len = len ∙ log.len;
  marked = λ other. (
    (λ set. elim (cases_eq other page) [
      | inl e ↦ subst (HasPage (order ++ page ∷ [])) (sym e) (has_last order page)
      | inr apart ↦ has_more order page other ((log.marked other).0 (sym (others other apart) ∙ set))
    ]),
    (λ h. elim (cases_eq other page) [
      | inl e ↦ ap (is_marked marks') e ∙ here
      | inr apart ↦ elim (has_one_of order page other h) [ inl was ↦ others other apart ∙ (log.marked other).1 was | inr e ↦ absurd (apart e) ]
    ]),
  );
  within = λ k less. elim (which order page k less) [
    | inl before ↦ subst (λ n. n < MOST_BINS_BYTES / 512) (sym (get_or-append order (page ∷ []) 0 k before)) (log.within k before)
    | inr last ↦ subst (λ n. n < MOST_BINS_BYTES / 512) (sym (ap (slice_index (order ++ page ∷ [])) last ∙ get_or-append_seam order page [] 0)) low
  ];
  sizes = let size : length bytes ≡ 512 * length order = log.sizes in omega (arith, length-append bytes part, one_longer order page, size, whole);
}

-- the same, as the method knows it
pub pushed_all : (marks given marks' order order' bytes bytes' part : List ℕ) (page : ℕ) → given ≡ marks → IsLog marks order bytes → page < MOST_BINS_BYTES / 512 → length marks' ≡ length given → is_marked marks' page ≡ true
    → ((other : ℕ) → other ≢ page → is_marked marks' other ≡ is_marked given other) → length part ≡ 512 → order' ≡ order ++ page ∷ [] → bytes' ≡ bytes ++ part → IsLog marks' order' bytes'
pushed_all marks given marks' order order' bytes bytes' part page same log low len here others whole longer more =
    subst (λ (x : List ℕ). IsLog marks' x bytes') (sym longer)
    (subst (λ (x : List ℕ). IsLog marks' (order ++ page ∷ []) x) (sym more)
    (pushed marks marks' order bytes part page log low (len ∙ ap length same) here (λ other apart. others other apart ∙ ap (λ (x : List ℕ). is_marked x other) same) whole))

-- a byte of a part of a list
pub range_index : (xs : List ℕ) (from to i : ℕ) → from + i < to → slice_index (slice_range xs from to) i ≡ slice_index xs (from + i)
range_index xs from to i h = get_or-take (to - from) (drop from xs) i 0 (omega (arith, h)) ∙ get_or-drop from xs i 0

-- the bytes of a page
abbrev pub page_of : List ℕ → ℕ → List ℕ
page_of bytes page = slice_range bytes (512 * page) (512 * page + 512)

pub page_long : (bytes : List ℕ) (page : ℕ) → 512 * page + 512 ≤ length bytes → length (page_of bytes page) ≡ 512
page_long bytes page within = omega (arith, within, length-take (512 * page + 512 - 512 * page) (drop (512 * page) bytes), length-drop (512 * page) bytes)

-- and leads back as before
pub pushed_saved : (old bytes order saved : List ℕ) (page : ℕ) → IsSaved old bytes order saved → (¬ HasPage order page) → 512 * page + 512 ≤ length old
    → IsSaved old bytes (order ++ page ∷ []) (saved ++ page_of bytes page)
pushed_saved old bytes order saved page s fresh within = record {
  longer = s.longer;
  whole = λ k less. elim (which order page k less) [
    | inl low ↦ subst (λ n. 512 * n + 512 ≤ length old) (sym (first k low)) (s.whole k low)
    | inr is ↦ subst (λ n. 512 * n + 512 ≤ length old) (sym (last k is)) within
  ];
  sizes = omega (arith, length-append saved (page_of bytes page), one_longer order page, size, long);
  kept = λ k j less small. elim (which order page k less) [
    | inl low ↦
        get_or-append saved (page_of bytes page) 0 (512 * k + j) (omega (arith, size, low, small)) ∙ s.kept k j low small ∙ ap (λ n. slice_index old (512 * n + j)) (sym (first k low))
    | inr is ↦
        ap (slice_index (saved ++ page_of bytes page)) (let e : 512 * k + j ≡ length saved + j = omega (arith, size, is) in e) ∙ get_or-append-add saved (page_of bytes page) j 0
        ∙ range_index bytes (512 * page) (512 * page + 512) j (omega (arith, small)) ∙ here j small ∙ ap (λ n. slice_index old (512 * n + j)) (sym (last k is))
  ];
  same = λ i less. elim (s.same i less) [ inl e ↦ inl e | inr h ↦ inr (has_more order page (i / 512) h) ];
}
  where
    size : length saved ≡ 512 * length order
    size = s.sizes

    long : length (page_of bytes page) ≡ 512
    long = let longer : length old ≤ length bytes = s.longer in page_long bytes page (omega (arith, within, longer))

    first : (k : ℕ) → k < length order → slice_index (order ++ page ∷ []) k ≡ slice_index order k
    first k low = get_or-append order (page ∷ []) 0 k low

    last : (k : ℕ) → k ≡ length order → slice_index (order ++ page ∷ []) k ≡ page
    last k is = ap (slice_index (order ++ page ∷ [])) is ∙ get_or-append_seam order page [] 0

    here : (j : ℕ) → j < 512 → slice_index bytes (512 * page + j) ≡ slice_index old (512 * page + j)
    here j small = elim (s.same (512 * page + j) (omega (arith, within, small))) [
      | inl e ↦ e
      | inr h ↦ absurd (fresh (subst (HasPage order) (let e : (512 * page + j) / 512 ≡ page = omega (arith, small) in e) h))
    ]

-- ---- pages that are saved one after another

-- the pages from the one of an offset up to another are saved, beside those of a first log
pub record Saving (bytes : List ℕ) (first log : SavedPages) (limit from page : ℕ) : Type 0 where
  pub sound : (old : List ℕ) → length old ≡ limit → IsSaved old bytes first.order first.bytes → IsSaved old bytes log.order log.bytes
  pub kept : (any : ℕ) → HasPage first.order any → HasPage log.order any
  pub covered : (any : ℕ) → from / 512 ≤ any → any < page → HasPage log.order any

one_more : (P : ℕ → Type 0) (from page : ℕ) → ((any : ℕ) → from ≤ any → any < page → P any) → P page → (any : ℕ) → from ≤ any → any < page + 1 → P any
one_more P from page below here any after before = elim (cases_eq any page) [ inl e ↦ subst P (sym e) here | inr apart ↦ below any after (omega (arith, before, apart)) ]

pub page_there : (bytes : List ℕ) (first log : SavedPages) (limit from page : ℕ) → Saving bytes first log limit from page → HasPage log.order page → Saving bytes first log limit from (page + 1)
page_there bytes first log limit from page s here = record { sound = s.sound; kept = s.kept; covered = one_more (HasPage log.order) (from / 512) page s.covered here }

pub page_saved : (bytes : List ℕ) (first log log' : SavedPages) (limit from page : ℕ) → Saving bytes first log limit from page → (¬ HasPage log.order page) → 512 * page + 512 ≤ limit
    → log'.order ≡ log.order ++ page ∷ [] → log'.bytes ≡ log.bytes ++ page_of bytes page → Saving bytes first log' limit from (page + 1)
page_saved bytes first log log' limit from page s fresh within longer more = record {
  sound = λ old len saved.
      subst (λ (x : List ℕ). IsSaved old bytes x log'.bytes) (sym longer)
      (subst (λ (x : List ℕ). IsSaved old bytes (log.order ++ page ∷ []) x) (sym more)
      (pushed_saved old bytes log.order log.bytes page (s.sound old len saved) fresh (omega (arith, within, len))));
  kept = λ any h. has any (has_more log.order page any (s.kept any h));
  covered = one_more (HasPage log'.order) (from / 512) page (λ any after before. has any (has_more log.order page any (s.covered any after before))) (has page (has_last log.order page));
}
  where
    has : (any : ℕ) → HasPage (log.order ++ page ∷ []) any → HasPage log'.order any
    has any h = subst (λ (x : List ℕ). HasPage x any) (sym longer) h
