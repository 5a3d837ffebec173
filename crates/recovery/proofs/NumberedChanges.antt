-- Changes with their numbers, and those of them that some hive lacks.
use Rattle.std.proofs.Common.{◌≡◌, ◌⊎◌, inl, inr, ℕ, zero, suc, ◌+◌, ◌-◌, ◌<◌, ◌≤◌, max, Bool, true, false, cond, List, [], ◌∷◌, ◌++◌, length, get_or, take, drop, map, refl, sym, ◌∙◌, ap, arith, Some, slice_get}
use Rattle.std.specs.Prelude.{eqb, nat_lt, ◌&&◌, ◌||◌}
use Rattle.std.specs.List.{filter, list_any, zip}
use Rattle.std.specs.List.Sorted.{IsNonDecreasing}
use Rattle.std.proofs.lemmas.Bool.{cases_Bool, cases_lt, eqb-true, false≢true, le-ltb, leb-false, leb-true, lt-ltb}
use Rattle.std.proofs.lemmas.List.{take_all}
use Rattle.std.proofs.lemmas.List.Filters.{length-filter_more}
use Rattle.std.proofs.lemmas.List.Kept.{IsNonDecreasingBy-filter}
use Rattle.std.proofs.lemmas.Option.{same_Some}
use Rattle.std.proofs.lemmas.Slice.Zip.{get_or-zip, length-zip}
use Rattle.reg_tree.specs.declared.element.Element.{Element}
use Rattle.reg_tree.specs.declared.op.Op.{Op}
use Rattle.reg_tree.specs.Operations.{hive_of}
use Rattle.crash_model.specs.Changes.{on_hive, ops_on}
use Rattle.crash_model.proofs.Lists.{drop_nil}
use Rattle.change_codec.specs.ModelChanges.{TimedOp, timed, timed_element, timed_elements}
use Rattle.commit_journal.specs.Numbered.{NumberedChange, numbered, changes_in}
use Rattle.hive_flush.specs.HiveStates.{file_choice}
use Rattle.hive_flush.specs.declared.hive.HiveFile.{HiveFile}
use Rattle.recovery.specs.Invariant.{own_numbers}
use Rattle.recovery.specs.Retained.{AreAscending, IsPlaceAbove, above_number, count_lacked, is_lacked, is_on}

-- Numbers and changes beside each other

-- one after the others
pub zip-push : {A B : Type 0} (ns : List A) (cs : List B) (n : A) (c : B) → length ns ≡ length cs → zip (ns ++ n ∷ []) (cs ++ c ∷ []) ≡ zip ns cs ++ (n, c) ∷ []
zip-push [] [] n c same = refl
zip-push [] (y ∷ cs) n c same = absurd (omega (arith, same))
zip-push (x ∷ ns) [] n c same = absurd (omega (arith, same))
zip-push (x ∷ ns) (y ∷ cs) n c same = ap (λ l. (x, y) ∷ l) (zip-push ns cs n c (omega (arith, same)))

pub zip-drop : {A B : Type 0} (k : ℕ) (ns : List A) (cs : List B) → length ns ≡ length cs → zip (drop k ns) (drop k cs) ≡ drop k (zip ns cs)
zip-drop zero ns cs same = refl
zip-drop (suc k) [] cs same = refl
zip-drop (suc k) (x ∷ ns) [] same = absurd (omega (arith, same))
zip-drop (suc k) (x ∷ ns) (y ∷ cs) same = zip-drop k ns cs (omega (arith, same))

pub changes_in-zip : (k : ℕ) (ns : List ℕ) (cs : List Element) → length ns ≡ length cs → changes_in (drop k (zip ns cs)) ≡ drop k cs
changes_in-zip zero [] [] same = refl
changes_in-zip zero [] (y ∷ cs) same = absurd (omega (arith, same))
changes_in-zip zero (x ∷ ns) [] same = absurd (omega (arith, same))
changes_in-zip zero (x ∷ ns) (y ∷ cs) same = ap (λ l. y ∷ l) (changes_in-zip zero ns cs (omega (arith, same)))
changes_in-zip (suc k) [] [] same = refl
changes_in-zip (suc k) [] (y ∷ cs) same = absurd (omega (arith, same))
changes_in-zip (suc k) (x ∷ ns) [] same = absurd (omega (arith, same))
changes_in-zip (suc k) (x ∷ ns) (y ∷ cs) same = changes_in-zip k ns cs (omega (arith, same))

-- the numbers themselves ascend
pub numbers_ascend : (ns : List ℕ) (cs : List Element) → length ns ≡ length cs → AreAscending (zip ns cs) → IsNonDecreasing ns
numbers_ascend ns cs same up = λ i j d le lt.
    let none : Element = record { moment = 0; ops = [] } in
    let long = length-zip ns cs in
    let at : (k : ℕ) → k < length ns → (get_or (zip ns cs) k (d, none)).0 ≡ get_or ns k d = (λ k within. ap (λ (c : NumberedChange). c.0) (get_or-zip ns cs k (d, none) within (omega (arith, within, same)))) in
    omega (arith, at i (omega (arith, le, lt)), at j lt, up i j (d, none) le (omega (arith, lt, long, same)))

-- the changes above a number are those from its place on
pub above_is : (number : ℕ) (ns : List ℕ) (cs : List Element) (place : ℕ) → length ns ≡ length cs → place ≤ length ns → IsPlaceAbove number ns place → above_number number (zip ns cs) ≡ drop place (zip ns cs)
above_is number [] cs zero same le at = refl
above_is number [] cs (suc place) same le at = refl
above_is number (x ∷ ns) [] place same le at = absurd (omega (arith, same))
above_is number (x ∷ ns) (y ∷ cs) zero same le at =
    ap (λ b. cond b ((x, y) ∷ above_number number (zip ns cs)) (above_number number (zip ns cs))) (lt-ltb number x (leb-false x number (at.1 0 x (omega arith) (omega arith))))
    ∙ ap (λ l. (x, y) ∷ l) (above_is number ns cs 0 (omega (arith, same)) (omega arith) (λ k d lo hi. absurd (omega (arith, hi)), λ k d lo hi. at.1 (suc k) d (omega arith) (omega (arith, hi))))
above_is number (x ∷ ns) (y ∷ cs) (suc place) same le at =
    ap (λ b. cond b ((x, y) ∷ above_number number (zip ns cs)) (above_number number (zip ns cs))) (le-ltb number x (leb-true x number (at.0 0 x (omega arith) (omega arith))))
    ∙ above_is number ns cs place (omega (arith, same)) (omega (arith, le)) (λ k d lo hi. at.0 (suc k) d (omega arith) (omega (arith, hi)), λ k d lo hi. at.1 (suc k) d (omega (arith, lo)) (omega (arith, hi)))

-- Above two numbers are those above the greater one.
pub above_above : (m n : ℕ) (cs : List NumberedChange) → above_number m (above_number n cs) ≡ above_number (max n m) cs
above_above m n [] = refl
above_above m n (c ∷ cs) = elim (cases_lt n c.0) as (λ z. above_number m (above_number n (c ∷ cs)) ≡ above_number (max n m) (c ∷ cs)) [
  | inl above ↦ ap (λ b. above_number m (cond b (c ∷ above_number n cs) (above_number n cs))) (lt-ltb n c.0 above) ∙ elim (cases_lt m c.0) as (λ z. above_number m (c ∷ above_number n cs) ≡ above_number (max n m) (c ∷ cs)) [
    | inl more ↦ ap (λ b. cond b (c ∷ above_number m (above_number n cs)) (above_number m (above_number n cs))) (lt-ltb m c.0 more) ∙ ap (λ l. c ∷ l) (above_above m n cs)
        ∙ sym (ap (λ b. cond b (c ∷ above_number (max n m) cs) (above_number (max n m) cs)) (lt-ltb (max n m) c.0 (omega (arith, above, more))))
    | inr low ↦ ap (λ b. cond b (c ∷ above_number m (above_number n cs)) (above_number m (above_number n cs))) (le-ltb m c.0 low) ∙ above_above m n cs
        ∙ sym (ap (λ b. cond b (c ∷ above_number (max n m) cs) (above_number (max n m) cs)) (le-ltb (max n m) c.0 (omega (arith, low))))
  ]
  | inr low ↦ ap (λ b. above_number m (cond b (c ∷ above_number n cs) (above_number n cs))) (le-ltb n c.0 low) ∙ above_above m n cs
      ∙ sym (ap (λ b. cond b (c ∷ above_number (max n m) cs) (above_number (max n m) cs)) (le-ltb (max n m) c.0 (omega (arith, low))))
]

-- Consecutive numbers

get_numbered : (base : ℕ) (changes : List Element) (i : ℕ) (d : NumberedChange) → i < length changes → (get_or (numbered base changes) i d).0 ≡ base + i + 1
get_numbered base [] i d lt = absurd (omega (arith, lt))
get_numbered base (x ∷ xs) zero d lt = omega arith
get_numbered base (x ∷ xs) (suc i) d lt = omega (arith, get_numbered (base + 1) xs i d (omega (arith, lt)))

length-numbered : (base : ℕ) (changes : List Element) → length (numbered base changes) ≡ length changes
length-numbered base [] = refl
length-numbered base (x ∷ xs) = ap suc (length-numbered (base + 1) xs)

numbered_ascend : (base : ℕ) (changes : List Element) → AreAscending (numbered base changes)
numbered_ascend base changes = λ i j d le lt.
    let long = length-numbered base changes in
    omega (arith, le, get_numbered base changes i d (omega (arith, le, lt, long)), get_numbered base changes j d (omega (arith, lt, long)))

-- of changes with consecutive numbers some are kept: their numbers ascend
pub kept_ascend : (p : NumberedChange → Bool) (base : ℕ) (changes : List Element) → AreAscending (filter p (numbered base changes))
kept_ascend p base changes = IsNonDecreasingBy-filter (λ (c : NumberedChange). c.0) p (numbered base changes) (numbered_ascend base changes)

pub above_ascend : (number : ℕ) (changes : List NumberedChange) → AreAscending changes → AreAscending (above_number number changes)
above_ascend number changes up = IsNonDecreasingBy-filter (λ (c : NumberedChange). c.0) (λ (c : NumberedChange). nat_lt number c.0) changes up

-- all numbers are above `base`
pub above_all : (p : NumberedChange → Bool) (base low : ℕ) (changes : List Element) → low ≤ base → above_number low (filter p (numbered base changes)) ≡ filter p (numbered base changes)
above_all p base low [] le = refl
above_all p base low (x ∷ xs) le = both (p (base + 1, x)) (above_all p (base + 1) low xs (omega (arith, le)))
  where
    rest : List NumberedChange
    rest = filter p (numbered (base + 1) xs)

    both : (b : Bool) → above_number low rest ≡ rest → above_number low (cond b ((base + 1, x) ∷ rest) rest) ≡ cond b ((base + 1, x) ∷ rest) rest
    both true same = ap (λ b. cond b ((base + 1, x) ∷ above_number low rest) (above_number low rest)) (lt-ltb low (base + 1) (omega (arith, le))) ∙ ap (λ l. (base + 1, x) ∷ l) same
    both false same = same

-- What a hive lacks is kept

-- a change that no hive lacks has no operation on a hive whose own number is below the change's
pub none_on : (numbers : List ℕ) (i number moment : ℕ) (ops : List Op) → get_or numbers i 0 < number → list_any (λ op. nat_lt (get_or numbers (hive_of op) 0) number) ops ≡ false → on_hive i (map (timed moment) ops) ≡ []
none_on numbers i number moment [] lt none = refl
none_on numbers i number moment (op ∷ ops) lt none = elim (cases_Bool (eqb (hive_of op) i)) as (λ z. on_hive i (map (timed moment) (op ∷ ops)) ≡ []) [
  | inl same ↦ absurd (false≢true (sym none ∙ ap (λ b. b || list_any test ops) (lt-ltb (get_or numbers (hive_of op) 0) number (omega (arith, lt, ap (λ h. get_or numbers h 0) (eqb-true (hive_of op) i same))))))
  | inr other ↦ ap (λ b. cond b ((moment, op) ∷ on_hive i (map (timed moment) ops)) (on_hive i (map (timed moment) ops))) other ∙ none_on numbers i number moment ops lt (rest (test op) none)
]
  where
    test : Op → Bool
    test = λ op. nat_lt (get_or numbers (hive_of op) 0) number

    rest : (b : Bool) → (b || list_any test ops) ≡ false → list_any test ops ≡ false
    rest true e = absurd (false≢true (sym e))
    rest false e = e

-- Of the changes that some hive lacks, those above a number that isn't below a hive's own have the operations on the
-- hive that all changes above it have.
pub lacked_are : (numbers : List ℕ) (i above base : ℕ) (changes : List Element) → get_or numbers i 0 ≤ above
    → ops_on i (timed_elements (changes_in (above_number above (filter (is_lacked numbers) (numbered base changes))))) ≡ ops_on i (timed_elements (drop (above - base) changes))
lacked_are numbers i above base [] low = ap (λ (l : List Element). ops_on i (timed_elements l)) (sym (drop_nil {A = Element} (above - base)))
lacked_are numbers i above base (x ∷ xs) low = let more : on rest ≡ ops_on i (timed_elements (drop (above - (base + 1)) xs)) = lacked_are numbers i above (base + 1) xs low in elim (cases_lt above (base + 1)) as (λ z. on (cond (is_lacked numbers (base + 1, x)) ((base + 1, x) ∷ rest) rest) ≡ ops_on i (timed_elements (drop (above - base) (x ∷ xs)))) [
  | inl lt ↦
      let first : above - base ≡ 0 = omega (arith, lt) in
      let next : above - (base + 1) ≡ 0 = omega (arith, lt) in
      let same : on rest ≡ ops_on i (timed_elements xs) = more ∙ ap (λ n. ops_on i (timed_elements (drop n xs))) next in
      elim (cases_Bool (is_lacked numbers (base + 1, x))) as (λ z. on (cond (is_lacked numbers (base + 1, x)) ((base + 1, x) ∷ rest) rest) ≡ ops_on i (timed_elements (drop (above - base) (x ∷ xs)))) [
        | inl lacks ↦ ap (λ b. on (cond b ((base + 1, x) ∷ rest) rest)) lacks ∙ ap (λ b. ops_on i (timed_elements (changes_in (cond b ((base + 1, x) ∷ above_number above rest) (above_number above rest))))) (lt-ltb above (base + 1) lt)
            ∙ ap (λ (os : List TimedOp). on_hive i (timed_element x) ++ os) same ∙ sym (ap (λ n. ops_on i (timed_elements (drop n (x ∷ xs)))) first)
        | inr has ↦ ap (λ b. on (cond b ((base + 1, x) ∷ rest) rest)) has ∙ same ∙ sym (ap (λ (os : List TimedOp). os ++ ops_on i (timed_elements xs)) (none_on numbers i (base + 1) x.moment x.ops (omega (arith, low, lt)) has))
            ∙ sym (ap (λ n. ops_on i (timed_elements (drop n (x ∷ xs)))) first)
      ]
  | inr ge ↦
      let next : above - base ≡ suc (above - (base + 1)) = omega (arith, ge) in
      not_above (is_lacked numbers (base + 1, x)) ge ∙ more ∙ sym (ap (λ n. ops_on i (timed_elements (drop n (x ∷ xs)))) next)
]
  where
    rest : List NumberedChange
    rest = filter (is_lacked numbers) (numbered (base + 1) xs)

    on : List NumberedChange → List TimedOp
    on l = ops_on i (timed_elements (changes_in (above_number above l)))

    not_above : (b : Bool) → base + 1 ≤ above → on (cond b ((base + 1, x) ∷ rest) rest) ≡ on rest
    not_above true ge = ap (λ b. ops_on i (timed_elements (changes_in (cond b ((base + 1, x) ∷ above_number above rest) (above_number above rest))))) (le-ltb above (base + 1) ge)
    not_above false ge = refl

-- a hive's own number, by its place
pub own_number : (hives : List HiveFile) (i : ℕ) (hive : HiveFile) → slice_get hives i ≡ Some hive → get_or (own_numbers hives) i 0 ≡ (file_choice hive).now.1
own_number [] i hive is = absurd cc
own_number (h ∷ hives) zero hive is = ap (λ (x : HiveFile). (file_choice x).now.1) (same_Some h hive is)
own_number (h ∷ hives) (suc i) hive is = own_number hives i hive is

-- One more of the first changes

module _ (hive number : ℕ) (ns : List ℕ) (cs : List Element) (same : length ns ≡ length cs) where
  abbrev lacks : NumberedChange → Bool
  lacks c = nat_lt number c.0 && is_on hive c.1

  count_next : (i n : ℕ) (change : Element) → i < length cs → n ≡ get_or ns i n → change ≡ get_or cs i change → count_lacked hive number (take (i + 1) (zip ns cs)) ≡ count_lacked hive number (take i (zip ns cs)) + cond (lacks (n, change)) 1 0
  count_next i n change lt n_is is =
      let long = length-zip ns cs in
      length-filter_more lacks (zip ns cs) i (n, change) (omega (arith, lt, long, same))
      ∙ ap (λ (c : NumberedChange). count_lacked hive number (take i (zip ns cs)) + cond (lacks c) 1 0) (get_or-zip ns cs i (n, change) (omega (arith, lt, same)) lt)
      ∙ ap (λ m. count_lacked hive number (take i (zip ns cs)) + cond (lacks (m, get_or cs i change)) 1 0) (sym n_is) ∙ ap (λ (e : Element). count_lacked hive number (take i (zip ns cs)) + cond (lacks (n, e)) 1 0) (sym is)

  pub one_lacked : (i n : ℕ) (change : Element) → i < length cs → n ≡ get_or ns i n → change ≡ get_or cs i change → number < n → is_on hive change ≡ true → count_lacked hive number (take (i + 1) (zip ns cs)) ≡ count_lacked hive number (take i (zip ns cs)) + 1
  one_lacked i n change lt n_is is above on =
      count_next i n change lt n_is is ∙ ap (λ b. count_lacked hive number (take i (zip ns cs)) + cond (b && is_on hive change) 1 0) (lt-ltb number n above) ∙ ap (λ b. count_lacked hive number (take i (zip ns cs)) + cond b 1 0) on

  pub none_lacked : (i n : ℕ) (change : Element) → i < length cs → n ≡ get_or ns i n → change ≡ get_or cs i change → (n ≤ number) ⊎ (is_on hive change ≡ false) → count_lacked hive number (take (i + 1) (zip ns cs)) ≡ count_lacked hive number (take i (zip ns cs))
  none_lacked i n change lt n_is is why = omega (arith, count_next i n change lt n_is is, ap (λ b. cond {A = ℕ} b 1 0) (none (nat_lt number n) refl why))
    where
      none : (b : Bool) → b ≡ nat_lt number n → (n ≤ number) ⊎ (is_on hive change ≡ false) → (b && is_on hive change) ≡ false
      none false _ _ = refl
      none true _ (inr off) = off
      none true e (inl low) = absurd (false≢true (sym (le-ltb number n low) ∙ sym e))

  pub count_all : (i : ℕ) → length cs ≤ i → count_lacked hive number (take i (zip ns cs)) ≡ count_lacked hive number (zip ns cs)
  count_all i past = let long = length-zip ns cs in ap (count_lacked hive number) (take_all i (zip ns cs) (omega (arith, past, long, same)))
