-- Claims that are looked up by rising numbers, all claims that block one among them. They answer for that one as the
-- table does.
use Rattle.std.proofs.Common.{◌≡◌, ◌⊎◌, inl, inr, ℕ, zero, suc, ◌+◌, ◌<◌, ◌≤◌, Bool, true, false, not, ◌||◌, Bor, cond, List, [], ◌∷◌, ◌++◌, map, length, take, get_or, Option, Some, None, refl, sym, ◌∙◌, ap, subst, arith, append-nil}
use Rattle.std.specs.Prelude.{filter, Contains}
use Rattle.std.specs.Option.{option_map, option_copied}
use Rattle.std.specs.List.{filter_map, cons_option, list_any, AllByRecursion}
use Rattle.std.specs.List.Sorted.{IsStrictlySortedBy}
use Rattle.std.specs.Ordering.{nat_cmp, is_eq}
use Rattle.std.specs.Cmp.{tied_itself, nat_cmp_is}
use Rattle.std.specs.Map.{lookup}
use Rattle.std.specs.BTreeMap.{is_at}
use Rattle.std.specs.declared.ops.Bound.TheVariants.{Included}
use Rattle.std.specs.BTreeMap.Range.{range_contains}
use Rattle.std.specs.declared.cmp.Ordering.TheVariants.{Less, Equal, Greater}
use Rattle.std.proofs.lemmas.Bool.{cases_lt}
use Rattle.std.proofs.lemmas.Cmp.{nat_cmp_total}
use Rattle.std.proofs.lemmas.List.{take_more}
use Rattle.std.proofs.lemmas.List.Elements.{filter_map-append}
use Rattle.conflicts.specs.Skeleton.{Claim}
use Rattle.conflicts.specs.declared.table.IndexedClaim.{IndexedClaim}
use Rattle.conflicts.proofs.Tests.{never}
use Rattle.conflicts.specs.Holders.{HeldClaim, same_held_claim, is_some_that, blocks, asks, with_holder, each_once, holders_of}
use Rattle.conflicts.specs.Claims.{meets}
use Rattle.conflicts.specs.IndexKeys.{IndexKey, index_key_order, index_key_text}
use Rattle.conflicts.specs.Index.{IsListed}
use Rattle.conflicts.specs.declared.index_keys.Index.{Index}
use Rattle.conflicts.specs.ClaimIndexes.{Numbered, claims_of, IsInIndexes, AreInIndexes}
use Rattle.conflicts.proofs.Indexing.{has_lookup}
use Rattle.conflicts.proofs.IndexKeyRanges.{at_text}
use Rattle.conflicts.proofs.Members.{held_is, parts, here, later, first_or_later, none_empty, filter_has}
use Rattle.conflicts.proofs.Once.{holders-more}

-- the claim of a number, if there is one
abbrev pub look : List Numbered → ℕ → Option HeldClaim
look kept n = option_map (λ (k : IndexedClaim). k.entry) (lookup (is_at (nat_cmp n)) kept)

abbrev pub looked : List Numbered → List ℕ → List HeldClaim
looked kept numbers = filter_map (look kept) numbers

is_less : (m n : ℕ) → m < n → nat_cmp m n ≡ Less
is_less m n lt = sym (nat_cmp_is m n Less lt)

is_greater : (m n : ℕ) → n < m → nat_cmp m n ≡ Greater
is_greater m n lt = sym (nat_cmp_is m n Greater lt)

less_is : (m n : ℕ) → nat_cmp m n ≡ Less → m < n
less_is m n e = elim (cases_lt m n) [
  | inl lt ↦ lt
  | inr ge ↦ elim (cases_lt n m) [
    | inl gt ↦ let c : Greater ≡ Less = sym (is_greater m n gt) ∙ e in absurd cc
    | inr le ↦ let same : m ≡ n = omega (arith, ge, le) in let c : Equal ≡ Less = sym (tied_itself nat_cmp_total n) ∙ ap (λ x. nat_cmp x n) (sym same) ∙ e in absurd cc
  ]
]

-- all are above a number
abbrev pub Above : ℕ → List ℕ → Type 0
Above n xs = AllByRecursion (λ x. nat_cmp n x ≡ Less) xs

abbrev pub Rises : List ℕ → Type 0
Rises xs = IsStrictlySortedBy nat_cmp xs

above_has : (n : ℕ) (xs : List ℕ) → Above n xs → (x : ℕ) → Contains xs x → n < x
above_has n [] a x c = absurd (none_empty x c)
above_has n (y ∷ xs) a x c = elim (first_or_later y xs x c) [
  | inl e ↦ subst (λ z. n < z) e (less_is n y a.0)
  | inr d ↦ above_has n xs a.1 x d
]

-- a number below all is not found, and one above the first is found after it
not_found : (kept : List Numbered) (n : ℕ) → Above n (map (λ (e : Numbered). e.0) kept) → lookup (is_at (nat_cmp n)) kept ≡ None
not_found [] n a = refl
not_found (e ∷ kept) n a = ap (λ o. cond (is_eq o) (Some e.1) (lookup (is_at (nat_cmp n)) kept)) a.0 ∙ not_found kept n a.1

found_behind : (e : Numbered) (kept : List Numbered) (n : ℕ) → e.0 < n → look (e ∷ kept) n ≡ look kept n
found_behind e kept n lt = ap (λ o. option_map (λ (k : IndexedClaim). k.entry) (cond (is_eq o) (Some e.1) (lookup (is_at (nat_cmp n)) kept))) (is_greater n e.0 lt)

looked_behind : (e : Numbered) (kept : List Numbered) (ks : List ℕ) → Above e.0 ks → looked (e ∷ kept) ks ≡ looked kept ks
looked_behind e kept [] a = refl
looked_behind e kept (k ∷ ks) a = ap (λ o. cons_option o (looked (e ∷ kept) ks)) (found_behind e kept k (less_is e.0 k a.0)) ∙ ap (λ xs. cons_option (look kept k) xs) (looked_behind e kept ks a.1)

above_all : (k n : ℕ) (xs : List ℕ) → k < n → Above n xs → Above k xs
above_all k n [] lt a = tt
above_all k n (x ∷ xs) lt a = let further : n < x = less_is n x a.0 in (is_less k x (omega (arith, lt, further)), above_all k n xs lt a.1)

module _ (p : HeldClaim → Bool) where
  nothing : (kept : List Numbered) → ((n : ℕ) (k : IndexedClaim) → Contains kept (n, k) → p k.entry ≡ false) → filter p (claims_of kept) ≡ []
  nothing [] h = refl
  nothing (e ∷ kept) h = ap (λ b. cond b (e.1.entry ∷ filter p (claims_of kept)) (filter p (claims_of kept))) (h e.0 e.1 (here e kept)) ∙ nothing kept (λ n k c. h n k (later e kept (n, k) c))

  told_false : (b : Bool) → (b ≡ true → ⊥) → b ≡ false
  told_false true h = absurd (h refl)
  told_false false h = refl

  abbrev Covers : List Numbered → List ℕ → Type 0
  Covers kept ks = (n : ℕ) (k : IndexedClaim) → Contains kept (n, k) → p k.entry ≡ true → Contains ks n

  one_more : (x : HeldClaim) (xs ys : List HeldClaim) → filter p xs ≡ filter p ys → filter p (x ∷ xs) ≡ filter p (x ∷ ys)
  one_more x xs ys e = ap (λ zs. cond (p x) (x ∷ zs) zs) e

  number_in : (kept : List Numbered) (n : ℕ) (k : IndexedClaim) → Contains kept (n, k) → Contains (map (λ (e : Numbered). e.0) kept) n
  number_in [] n k c = absurd (none_empty (n, k) c)
  number_in (e ∷ kept) n k c = elim (first_or_later e kept (n, k) c) [
    | inl same ↦ subst (λ (z : Numbered). Contains (e.0 ∷ map (λ (f : Numbered). f.0) kept) z.0) same (here e.0 (map (λ (f : Numbered). f.0) kept))
    | inr d ↦ later e.0 (map (λ (f : Numbered). f.0) kept) n (number_in kept n k d)
  ]

  looked_all : (fuel : ℕ) (kept : List Numbered) (ks : List ℕ) → length kept + length ks ≤ fuel → Rises (map (λ (e : Numbered). e.0) kept) → Rises ks → Covers kept ks → filter p (looked kept ks) ≡ filter p (claims_of kept)
  unfolding IsStrictlySortedBy
  looked_all fuel [] [] le rk rs covers = refl
  looked_all zero [] (k ∷ ks) le rk rs covers = absurd (omega (arith, le))
  looked_all (suc fuel) [] (k ∷ ks) le rk rs covers = looked_all fuel [] ks (omega (arith, le)) tt rs.1 (λ n h c t. absurd (none_empty (n, h) c))
  looked_all fuel (e ∷ kept) [] le rk rs covers = sym (nothing (e ∷ kept) (λ n h c. told_false (p h.entry) (λ t. none_empty n (covers n h c t))))
  looked_all zero (e ∷ kept) (k ∷ ks) le rk rs covers = absurd (omega (arith, le))
  looked_all (suc fuel) (e ∷ kept) (k ∷ ks) le rk rs covers = elim (cases_lt k e.0) [
    | inl lt ↦
        let none : look (e ∷ kept) k ≡ None = ap (option_map (λ (h : IndexedClaim). h.entry)) (not_found (e ∷ kept) k (is_less k e.0 lt, above_all k e.0 (map (λ (f : Numbered). f.0) kept) lt rk.0)) in
        ap (λ o. filter p (cons_option o (looked (e ∷ kept) ks))) none
        ∙ looked_all fuel (e ∷ kept) ks (omega (arith, le)) rk rs.1 (λ n h c t. elim (first_or_later k ks n (covers n h c t)) [
          | inl same ↦ elim (first_or_later e.0 (map (λ (f : Numbered). f.0) kept) n (number_in (e ∷ kept) n h c)) [
            | inl first ↦ absurd (omega (arith, lt, same, first))
            | inr d ↦ let far : e.0 < n = above_has e.0 (map (λ (f : Numbered). f.0) kept) rk.0 n d in absurd (omega (arith, lt, same, far))
          ]
          | inr d ↦ d
        ])
    | inr ge ↦ elim (cases_lt e.0 k) [
      | inl lt ↦
          let above : Above e.0 (k ∷ ks) = (is_less e.0 k lt, above_all e.0 k ks lt rs.0) in
          let off : p e.1.entry ≡ false = told_false (p e.1.entry) (λ t. let far : e.0 < e.0 = above_has e.0 (k ∷ ks) above e.0 (covers e.0 e.1 (here e kept) t) in omega (arith, far)) in
          ap (filter p) (looked_behind e kept (k ∷ ks) above)
          ∙ looked_all fuel kept (k ∷ ks) (omega (arith, le)) rk.1 rs (λ n h c t. covers n h (later e kept (n, h) c) t)
          ∙ ap (λ b. cond b (e.1.entry ∷ filter p (claims_of kept)) (filter p (claims_of kept))) (sym off)
      | inr le' ↦
          let same : k ≡ e.0 = omega (arith, ge, le') in
          let found : look (e ∷ kept) k ≡ Some e.1.entry = ap (λ o. option_map (λ (h : IndexedClaim). h.entry) (cond (is_eq o) (Some e.1) (lookup (is_at (nat_cmp k)) kept))) (ap (λ n. nat_cmp n e.0) same ∙ tied_itself nat_cmp_total e.0) in
          let above : Above e.0 ks = subst (λ n. Above n ks) same rs.0 in
          ap (λ o. filter p (cons_option o (looked (e ∷ kept) ks))) found
          ∙ ap (λ xs. filter p (e.1.entry ∷ xs)) (looked_behind e kept ks above)
          ∙ one_more e.1.entry (looked kept ks) (claims_of kept) (looked_all fuel kept ks (omega (arith, le)) rk.1 rs.1 (λ n h c t. elim (first_or_later k ks n (covers n h (later e kept (n, h) c) t)) [
            | inl here' ↦ let far : e.0 < n = above_has e.0 (map (λ (f : Numbered). f.0) kept) rk.0 n (number_in kept n h c) in absurd (omega (arith, same, here', far))
            | inr d ↦ d
          ]))
    ]
  ]

-- so the holders among the claims looked up are all
pub all_holders : (kept : List Numbered) (numbers : List ℕ) (asker : Option ℕ) (claim : Claim) → Rises (map (λ (e : Numbered). e.0) kept) → Rises numbers
    → ((n : ℕ) (k : IndexedClaim) → Contains kept (n, k) → blocks asker claim k.entry ≡ true → Contains numbers n) → holders_of (looked kept numbers) asker claim ≡ holders_of (claims_of kept) asker claim
all_holders kept numbers asker claim rk rn covers =
    ap (λ hs. each_once (map (λ (h : HeldClaim). h.owner) hs)) (looked_all (blocks asker claim) (length kept + length numbers) kept numbers (omega arith) rk rn covers)

-- one number more
pub holders_turn : (kept : List Numbered) (numbers : List ℕ) (i : ℕ) (asker : Option ℕ) (claim : Claim) (old new : List ℕ) → i < length numbers → old ≡ holders_of (looked kept (take i numbers)) asker claim
    → new ≡ with_holder old (look kept (get_or numbers i 0)) asker claim → new ≡ holders_of (looked kept (take (i + 1) numbers)) asker claim
holders_turn kept numbers i asker claim old new lt was now =
    now ∙ ap (λ xs. with_holder xs (look kept (get_or numbers i 0)) asker claim) was ∙ by_look (look kept (get_or numbers i 0))
    ∙ ap (λ hs. holders_of hs asker claim) (sym (filter_map-append (look kept) (take i numbers) (get_or numbers i 0 ∷ []))) ∙ ap (λ ns. holders_of (looked kept ns) asker claim) (sym (take_more numbers i 0 lt))
  where
    by_look : (o : Option HeldClaim) → with_holder (holders_of (looked kept (take i numbers)) asker claim) o asker claim ≡ holders_of (looked kept (take i numbers) ++ cons_option o []) asker claim
    by_look None = ap (λ hs. holders_of hs asker claim) (sym (append-nil (looked kept (take i numbers))))
    by_look (Some one) = sym (holders-more (looked kept (take i numbers)) one asker claim)

pub all_taken : (n : ℕ) (xs : List ℕ) → length xs ≤ n → take n xs ≡ xs
all_taken zero [] le = refl
all_taken (suc n) [] le = refl
all_taken zero (x ∷ xs) le = absurd (omega (arith, le))
all_taken (suc n) (x ∷ xs) le = ap (λ ys. x ∷ ys) (all_taken n xs (omega (arith, le)))

-- the claim that a look-up lent
pub lent_entry : (o : Option (Bor IndexedClaim)) → option_map (λ k. k.now.entry) o ≡ option_map (λ (k : IndexedClaim). k.entry) (option_copied o)
lent_entry None = refl
lent_entry (Some k) = refl

-- the numbers near a claim are those of all claims that may block it
pub covered : (next : ℕ) (index : Index) (owned : List (ℕ × ℕ)) (kept : List Numbered) → AreInIndexes next index owned kept → next < 18446744073709551616 → (asker : Option ℕ) (claim : Claim) (numbers : List ℕ)
    → ((number : ℕ) (held : Claim) → number < 18446744073709551616 → IsListed index number held → meets claim held ≡ true → Contains numbers number)
    → (n : ℕ) (k : IndexedClaim) → Contains kept (n, k) → blocks asker claim k.entry ≡ true → Contains numbers n
covered next index owned kept are small asker claim numbers complete n k has t =
    let in_indexes : IsInIndexes next index owned n k.entry = are.in_indexes n k has in
    let below : n < next = in_indexes.below in
    complete n k.entry.claim (omega (arith, below, small)) in_indexes.listed (parts (not (asks asker k.entry.owner)) (meets claim k.entry.claim) t).1

-- Whether some claim passes a test

-- the claim of a number does
pub found_one : (p : HeldClaim → Bool) (kept : List Numbered) (n : ℕ) → is_some_that p (look kept n) ≡ true → list_any p (claims_of kept) ≡ true
found_one p [] n t = never t
found_one p (x ∷ kept) n t = by_case (found_one p kept n) (is_eq (nat_cmp n x.0)) t
  where
    or_true : (a b : Bool) → b ≡ true → (a || b) ≡ true
    or_true true b t = refl
    or_true false b t = t

    by_case : (is_some_that p (look kept n) ≡ true → list_any p (claims_of kept) ≡ true) → (b : Bool) → is_some_that p (option_map (λ (k : IndexedClaim). k.entry) (cond b (Some x.1) (lookup (is_at (nat_cmp n)) kept))) ≡ true → list_any p (x.1.entry ∷ claims_of kept) ≡ true
    by_case rest true t = ap (λ b. b || list_any p (claims_of kept)) t
    by_case rest false t = or_true (p x.1.entry) (list_any p (claims_of kept)) (rest t)

-- the claims of no number do
found_none : (p : HeldClaim → Bool) (kept all : List Numbered) → ((n : ℕ) (k : IndexedClaim) → Contains kept (n, k) → Contains all (n, k)) → Rises (map (λ (e : Numbered). e.0) all)
    → ((n : ℕ) (k : IndexedClaim) → Contains all (n, k) → p k.entry ≡ true → is_some_that p (look all n) ≡ false) → list_any p (claims_of kept) ≡ false
found_none p [] all within rises none = refl
found_none p (x ∷ kept) all within rises none =
    ap (λ b. b || list_any p (claims_of kept)) (by_case (p x.1.entry) refl)
    ∙ found_none p kept all (λ n k c. within n k (later x kept (n, k) c)) rises none
  where
    there : Contains all (x.0, x.1)
    there = within x.0 x.1 (here x kept)

    by_case : (b : Bool) → p x.1.entry ≡ b → p x.1.entry ≡ false
    by_case false e = e
    by_case true e = ap (is_some_that p) (sym (ap (option_map (λ (k : IndexedClaim). k.entry)) (has_lookup all rises x.0 x.1 there))) ∙ none x.0 x.1 there e

-- nor do the claims of the numbers so far
pub none_yet : (p : HeldClaim → Bool) (kept : List Numbered) (numbers : List ℕ) (i : ℕ) → i < length numbers → ((n : ℕ) → Contains (take i numbers) n → is_some_that p (look kept n) ≡ false) → is_some_that p (look kept (get_or numbers i 0)) ≡ false
    → (n : ℕ) → Contains (take (i + 1) numbers) n → is_some_that p (look kept n) ≡ false
none_yet p kept numbers i lt was now n c = by_case (take i numbers) was (subst (λ xs. Contains xs n) (take_more numbers i 0 lt) c)
  where
    by_case : (xs : List ℕ) → ((m : ℕ) → Contains xs m → is_some_that p (look kept m) ≡ false) → Contains (xs ++ get_or numbers i 0 ∷ []) n → is_some_that p (look kept n) ≡ false
    by_case [] was c = elim (first_or_later (get_or numbers i 0) [] n c) [ inl e ↦ subst (λ m. is_some_that p (look kept m) ≡ false) e now | inr d ↦ absurd (none_empty n d) ]
    by_case (x ∷ xs) was c = elim (first_or_later x (xs ++ get_or numbers i 0 ∷ []) n c) [
      | inl e ↦ was n (subst (λ m. Contains (x ∷ xs) m) e (here x xs))
      | inr d ↦ by_case xs (λ m h. was m (later x xs m h)) d
    ]

-- so none conflicts, if the claims of the numbers near don't
pub none_met : (next : ℕ) (index : Index) (owned : List (ℕ × ℕ)) (kept : List Numbered) → AreInIndexes next index owned kept → next < 18446744073709551616 → (asker : Option ℕ) (claim : Claim) (numbers : List ℕ)
    → ((number : ℕ) (held : Claim) → number < 18446744073709551616 → IsListed index number held → meets claim held ≡ true → Contains numbers number)
    → ((n : ℕ) → Contains numbers n → is_some_that (blocks asker claim) (look kept n) ≡ false) → list_any (blocks asker claim) (claims_of kept) ≡ false
none_met next index owned kept are small asker claim numbers complete none =
    found_none (blocks asker claim) kept kept (λ n k c. c) are.rises (λ n k c t. none n (covered next index owned kept are small asker claim numbers complete n k c t))

-- and none is the one asked for, if the claims of the index keys with its encoding aren't
pub none_same : (next : ℕ) (index : Index) (owned : List (ℕ × ℕ)) (kept : List Numbered) → AreInIndexes next index owned kept → next < 18446744073709551616 → (one : HeldClaim) (from to : IndexKey) → from.0.items ≡ index_key_text one.claim → from.1 ≡ 0 → to.0.items ≡ from.0.items → to.1 ≡ 18446744073709551615
    → ((index_key : IndexKey) → Contains (filter (λ s. range_contains index_key_order (Included from) (Included to) s) index.index_keys.keys) index_key → is_some_that (same_held_claim one) (look kept index_key.1) ≡ false) → list_any (same_held_claim one) (claims_of kept) ≡ false
none_same next index owned kept are small one from to at least same most none =
    found_none (same_held_claim one) kept kept (λ n k c. c) are.rises (λ n k c t.
    let in_indexes : IsInIndexes next index owned n k.entry = are.in_indexes n k c in
    let text : in_indexes.listed.index_key.0.items ≡ from.0.items = in_indexes.listed.text ∙ ap (λ (h : HeldClaim). index_key_text h.claim) (sym (held_is one k.entry t)) ∙ sym at in
    let below : n < next = in_indexes.below in
    let numbered : in_indexes.listed.index_key.1 ≡ n = in_indexes.listed.numbered in
    subst (λ m. is_some_that (same_held_claim one) (look kept m) ≡ false) in_indexes.listed.numbered
    (none in_indexes.listed.index_key (filter_has (λ s. range_contains index_key_order (Included from) (Included to) s) index.index_keys.keys in_indexes.listed.index_key in_indexes.listed.listed (at_text from to least same most in_indexes.listed.index_key text (omega (arith, below, small, numbered))))))

-- the index keys that are still to be looked at
pub none_before : (p : HeldClaim → Bool) (kept : List Numbered) (index_keys rest : List IndexKey) (first : IndexKey) → ((index_key : IndexKey) → Contains index_keys index_key → Contains (first ∷ rest) index_key ⊎ (is_some_that p (look kept index_key.1) ≡ false)) → is_some_that p (look kept first.1) ≡ false
    → (index_key : IndexKey) → Contains index_keys index_key → Contains rest index_key ⊎ (is_some_that p (look kept index_key.1) ≡ false)
none_before p kept index_keys rest first was now index_key c = elim (was index_key c) [
  | inl d ↦ elim (first_or_later first rest index_key d) [ inl e ↦ inr (subst (λ (s : IndexKey). is_some_that p (look kept s.1) ≡ false) e now) | inr r ↦ inl r ]
  | inr f ↦ inr f
]

pub none_left_over : (p : HeldClaim → Bool) (kept : List Numbered) (index_keys rest : List IndexKey) → ((index_key : IndexKey) → Contains index_keys index_key → Contains rest index_key ⊎ (is_some_that p (look kept index_key.1) ≡ false)) → rest ≡ []
    → (index_key : IndexKey) → Contains index_keys index_key → is_some_that p (look kept index_key.1) ≡ false
none_left_over p kept index_keys rest was none index_key c = elim (was index_key c) [ inl d ↦ absurd (none_empty index_key (subst (λ xs. Contains xs index_key) none d)) | inr f ↦ f ]
