-- Pages stand exactly if each of them does.
use Rattle.std.proofs.Common.{◌≡◌, ◌≤◌, ◌<◌, ℕ, zero, suc, ◌+◌, ◌*◌, ◌∙◌, Bool, true, false, ◌&&◌, List, length, refl, subst, sym, inl, inr, arith}
use Rattle.std.proofs.lemmas.Bool.{cases_lt, true≢false, false≢true, true_from_ne_false, leb-true}
use Rattle.hive_log_entries.specs.Pages.{page_stands, pages_stand, page_count, page_start, has_pages}

pub and_no : (a b : Bool) → b ≡ false → (a && b) ≡ false
and_no true b e = e
and_no false b e = refl

pub no_and : (a b : Bool) → a ≡ false → (a && b) ≡ false
no_and true b e = absurd (true≢false e)
no_and false b e = refl

pub pages_stop : (bytes : List ℕ) (n index : ℕ) → index < n → page_stands bytes index ≡ false → pages_stand bytes n ≡ false
pages_stop bytes zero index lt e = absurd (omega (arith, lt))
pages_stop bytes (suc n) index lt e =
    elim (cases_lt index n) [
      | inl less ↦ no_and _ _ (pages_stop bytes n index less e)
      | inr least ↦ let same : index ≡ n = omega (arith, lt, least) in and_no _ _ (subst (λ k. page_stands bytes k ≡ false) same e)
    ]

pub has_pages_stops : (bytes : List ℕ) (index : ℕ) → index < page_count bytes → page_stands bytes index ≡ false → has_pages bytes ≡ false
unfolding has_pages
has_pages_stops bytes index lt e = and_no _ _ (pages_stop bytes (page_count bytes) index lt e)

pub and_left : (a b : Bool) → (a && b) ≡ true → a ≡ true
and_left true b e = refl
and_left false b e = absurd (false≢true e)

pub and_right : (a b : Bool) → (a && b) ≡ true → b ≡ true
and_right true b e = e
and_right false b e = absurd (false≢true e)

page_there : (bytes : List ℕ) (n index : ℕ) → index < n → pages_stand bytes n ≡ true → page_stands bytes index ≡ true
page_there bytes n index lt e = true_from_ne_false _ (λ no. true≢false (sym e ∙ pages_stop bytes n index lt no))

-- all references of an entry with pages are within it
pub references_there : (bytes : List ℕ) → has_pages bytes ≡ true → page_start bytes 0 ≤ length bytes
unfolding has_pages
references_there bytes e = leb-true (page_start bytes 0) (length bytes) (and_left _ _ e)

pub reference_there : (bytes : List ℕ) (index : ℕ) → has_pages bytes ≡ true → index < page_count bytes → 40 + 8 * index + 8 ≤ length bytes
reference_there bytes index e lt = let all = references_there bytes e in omega (arith, all, lt)

-- and so are the bytes of its pages
pub bytes_there : (bytes : List ℕ) (index : ℕ) → has_pages bytes ≡ true → index < page_count bytes → page_start bytes (suc index) ≤ length bytes
unfolding has_pages
bytes_there bytes index e lt = leb-true _ (length bytes) (and_right _ _ (page_there bytes (page_count bytes) index lt (and_right _ _ e)))
