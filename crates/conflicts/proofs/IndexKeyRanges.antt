-- What extends an encoding is between two index keys.
use Rattle.std.proofs.Common.{◌≡◌, ◌⊎◌, inl, inr, ℕ, zero, suc, ◌<◌, ◌≤◌, Bool, true, false, not, ◌&&◌, eqb, List, [], ◌∷◌, ◌++◌, map, length, take, drop, ◌-◌, min, append-nil, append_assoc, refl, sym, ◌∙◌, ap, subst, arith}
use Rattle.std.specs.Prelude.{filter, Contains}
use Rattle.std.specs.Ordering.{nat_cmp, ordering_then, is_gt, is_le, is_lt, is_eq, eq_by_cmp}
use Rattle.std.specs.FinMap.{nat_cmp-IsAntisymmetric}
use Rattle.std.proofs.lemmas.Bool.{eqb-true, eq-eqb, cases_lt}
use Rattle.reg_tree_parts.proofs.Finds.{equal_of}
use Rattle.conflicts.proofs.KeyTests.{agree}
use Rattle.std.specs.Cmp.{tied_itself, nat_cmp_is}
use Rattle.std.specs.Cmp.Lexicographic.{slice_cmp}
use Rattle.std.proofs.lemmas.Cmp.{nat_cmp_total}
use Rattle.std.specs.declared.cmp.Ordering.TheVariants.{Less, Equal, Greater}
use Rattle.std.specs.declared.ops.Bound.TheVariants.{Included}
use Rattle.std.specs.BTreeMap.Range.{range_contains}
use Rattle.reg_names.specs.Names.{fold_unit, folded}
use Rattle.conflicts.specs.IndexKeys.{IndexKey, index_key_order, pair_order, numbers_between, numbers_under, hasher_after, ExtendsBelow, name_text}
use Rattle.std.proofs.lemmas.List.{take_rest}
use Rattle.std.proofs.lemmas.List.Sums.{fold-append}
use Rattle.std.proofs.Math.Seq.{drop-append_seam}
use Rattle.conflicts.proofs.Members.{filter_has, map_has, none_empty}

nat_less : (m n : ℕ) → m < n → nat_cmp m n ≡ Less
nat_less m n lt = sym (nat_cmp_is m n Less lt)

nat_greater : (m n : ℕ) → n < m → nat_cmp m n ≡ Greater
nat_greater m n lt = sym (nat_cmp_is m n Greater lt)

-- after one front, encodings compare as their rests do
same_front : (t x y : List ℕ) → slice_cmp nat_cmp (t ++ x) (t ++ y) ≡ slice_cmp nat_cmp x y
same_front [] x y = refl
same_front (a ∷ t) x y = ap (λ o. ordering_then o (slice_cmp nat_cmp (t ++ x) (t ++ y))) (tied_itself nat_cmp_total a) ∙ same_front t x y

-- no unit comes after those that are below a bound
zero_or_more : (u : ℕ) → (u ≡ 0) ⊎ (0 < u)
zero_or_more zero = inl refl
zero_or_more (suc u) = inr (omega arith)

-- the first index key of a range is not above the last
pub forward : (from to : IndexKey) (t : List ℕ) (past : ℕ) → from.0.items ≡ t ++ 0 ∷ [] → to.0.items ≡ t ++ past ∷ [] → 0 < past → is_gt (index_key_order from to) ≡ false
forward from to t past e f lt =
    ap (λ x. is_gt (ordering_then (slice_cmp nat_cmp x to.0.items) (nat_cmp from.1 to.1))) e ∙ ap (λ x. is_gt (ordering_then (slice_cmp nat_cmp (t ++ 0 ∷ []) x) (nat_cmp from.1 to.1))) f
    ∙ ap (λ o. is_gt (ordering_then o (nat_cmp from.1 to.1))) (same_front t (0 ∷ []) (past ∷ []))
    ∙ ap (λ o. is_gt (ordering_then (ordering_then o Equal) (nat_cmp from.1 to.1))) (nat_less 0 past lt)

module _ (from to : IndexKey) (t : List ℕ) (past : ℕ) (first : from.0.items ≡ t ++ 0 ∷ []) (least : from.1 ≡ 0) (last : to.0.items ≡ t ++ past ∷ []) where
  -- what extends the encoding is not below the first
  not_below : (index_key : IndexKey) (u : ℕ) (rest : List ℕ) → index_key.0.items ≡ t ++ u ∷ rest → is_le (index_key_order from index_key) ≡ true
  not_below index_key u rest e =
      ap (λ x. is_le (ordering_then (slice_cmp nat_cmp x index_key.0.items) (nat_cmp from.1 index_key.1))) first ∙ ap (λ x. is_le (ordering_then (slice_cmp nat_cmp (t ++ 0 ∷ []) x) (nat_cmp from.1 index_key.1))) e
      ∙ ap (λ o. is_le (ordering_then o (nat_cmp from.1 index_key.1))) (same_front t (0 ∷ []) (u ∷ rest))
      ∙ by_unit (zero_or_more u)
    where
      lowest : (n : ℕ) → is_le (nat_cmp from.1 n) ≡ true
      lowest n = ap (λ m. is_le (nat_cmp m n)) least ∙ elim (zero_or_more n) [ inl z ↦ ap (λ m. is_le (nat_cmp 0 m)) z | inr p ↦ ap is_le (nat_less 0 n p) ]

      by_rest : (rest : List ℕ) → is_le (ordering_then (ordering_then Equal (slice_cmp nat_cmp [] rest)) (nat_cmp from.1 index_key.1)) ≡ true
      by_rest [] = lowest index_key.1
      by_rest (r ∷ rest) = refl

      by_unit : (u ≡ 0) ⊎ (0 < u) → is_le (ordering_then (ordering_then (nat_cmp 0 u) (slice_cmp nat_cmp [] rest)) (nat_cmp from.1 index_key.1)) ≡ true
      by_unit (inl z) = ap (λ n. is_le (ordering_then (ordering_then (nat_cmp 0 n) (slice_cmp nat_cmp [] rest)) (nat_cmp from.1 index_key.1))) z ∙ by_rest rest
      by_unit (inr p) = ap (λ o. is_le (ordering_then (ordering_then o (slice_cmp nat_cmp [] rest)) (nat_cmp from.1 index_key.1))) (nat_less 0 u p)

  -- nor above the last
  not_above : (index_key : IndexKey) (u : ℕ) (rest : List ℕ) → u < past → index_key.0.items ≡ t ++ u ∷ rest → not (is_lt (index_key_order to index_key)) ≡ true
  not_above index_key u rest lt e =
      ap (λ x. not (is_lt (ordering_then (slice_cmp nat_cmp x index_key.0.items) (nat_cmp to.1 index_key.1)))) last ∙ ap (λ x. not (is_lt (ordering_then (slice_cmp nat_cmp (t ++ past ∷ []) x) (nat_cmp to.1 index_key.1)))) e
      ∙ ap (λ o. not (is_lt (ordering_then o (nat_cmp to.1 index_key.1)))) (same_front t (past ∷ []) (u ∷ rest))
      ∙ ap (λ o. not (is_lt (ordering_then (ordering_then o (slice_cmp nat_cmp [] rest)) (nat_cmp to.1 index_key.1)))) (nat_greater past u lt)

  both : (a b : Bool) → a ≡ true → b ≡ true → (a && b) ≡ true
  both true b e f = f
  both false b e f = e

  -- so all of these are found
  pub all_between : (index_keys : List IndexKey) (index_key : IndexKey) → Contains index_keys index_key → ExtendsBelow t past index_key.0.items → Contains (numbers_between from to index_keys) index_key.1
  all_between index_keys index_key c g =
      map_has (λ (s : IndexKey). s.1) (filter (λ s. range_contains index_key_order (Included from) (Included to) s) index_keys) index_key
      (filter_has (λ s. range_contains index_key_order (Included from) (Included to) s) index_keys index_key c (both (is_le (index_key_order from index_key)) (not (is_lt (index_key_order to index_key))) (not_below index_key g.0 g.1 g.3) (not_above index_key g.0 g.1 g.2 g.3)))

-- The index keys of one encoding

same_text : (t : List ℕ) → slice_cmp nat_cmp t t ≡ Equal
same_text [] = refl
same_text (a ∷ t) = ap (λ o. ordering_then o (slice_cmp nat_cmp t t)) (tied_itself nat_cmp_total a) ∙ same_text t

module _ (from to : IndexKey) (least : from.1 ≡ 0) (same : to.0.items ≡ from.0.items) (most : to.1 ≡ 18446744073709551615) where
  pub forward_text : is_gt (index_key_order from to) ≡ false
  forward_text =
      ap (λ t. is_gt (ordering_then (slice_cmp nat_cmp from.0.items t) (nat_cmp from.1 to.1))) same ∙ ap (λ o. is_gt (ordering_then o (nat_cmp from.1 to.1))) (same_text from.0.items)
      ∙ ap (λ n. is_gt (nat_cmp n to.1)) least ∙ ap (λ n. is_gt (nat_cmp 0 n)) most

  -- are between its first and its last
  pub at_text : (index_key : IndexKey) → index_key.0.items ≡ from.0.items → index_key.1 < 18446744073709551616 → range_contains index_key_order (Included from) (Included to) index_key ≡ true
  at_text index_key at lt = both (is_le (index_key_order from index_key)) (not (is_lt (index_key_order to index_key))) not_below not_above
    where
      both : (a b : Bool) → a ≡ true → b ≡ true → (a && b) ≡ true
      both true b e f = f
      both false b e f = e

      not_below : is_le (index_key_order from index_key) ≡ true
      not_below =
          ap (λ t. is_le (ordering_then (slice_cmp nat_cmp from.0.items t) (nat_cmp from.1 index_key.1))) at ∙ ap (λ o. is_le (ordering_then o (nat_cmp from.1 index_key.1))) (same_text from.0.items)
          ∙ ap (λ m. is_le (nat_cmp m index_key.1)) least ∙ elim (zero_or_more index_key.1) [ inl z ↦ ap (λ m. is_le (nat_cmp 0 m)) z | inr p ↦ ap is_le (nat_less 0 index_key.1 p) ]

      not_above : not (is_lt (index_key_order to index_key)) ≡ true
      not_above =
          ap (λ t. not (is_lt (ordering_then (slice_cmp nat_cmp t index_key.0.items) (nat_cmp to.1 index_key.1)))) same ∙ ap (λ t. not (is_lt (ordering_then (slice_cmp nat_cmp from.0.items t) (nat_cmp to.1 index_key.1)))) at
          ∙ ap (λ o. not (is_lt (ordering_then o (nat_cmp to.1 index_key.1)))) (same_text from.0.items)
          ∙ ap (λ m. not (is_lt (nat_cmp m index_key.1))) most ∙ elim (cases_lt index_key.1 18446744073709551615) [
            | inl less ↦ ap (λ o. not (is_lt o)) (nat_greater 18446744073709551615 index_key.1 less)
            | inr ge ↦ let last : index_key.1 ≡ 18446744073709551615 = omega (arith, lt, ge) in ap (λ m. not (is_lt (nat_cmp 18446744073709551615 m))) last
          ]

-- the encoding of a name, written unit by unit
pub name_written : (before after text : List ℕ) (name : List ℕ) (n : ℕ) → length name ≤ n → text ≡ before ++ map (λ u. min (fold_unit u) 65534) (take n name) → after ≡ text ++ 92 ∷ [] → after ≡ before ++ name_text (folded name)
name_written before after text name n le e f =
    f ∙ ap (λ x. x ++ 92 ∷ []) (e ∙ ap (λ xs. before ++ map (λ u. min (fold_unit u) 65534) xs) (take_all_of n name le) ∙ ap (λ xs. before ++ xs) (fused name)) ∙ append_assoc before (map (λ u. min u 65534) (folded name)) (92 ∷ [])
  where
    take_all_of : (n : ℕ) (xs : List ℕ) → length xs ≤ n → take n xs ≡ xs
    take_all_of zero [] le = refl
    take_all_of (suc n) [] le = refl
    take_all_of zero (x ∷ xs) le = absurd (omega (arith, le))
    take_all_of (suc n) (x ∷ xs) le = ap (λ ys. x ∷ ys) (take_all_of n xs (omega (arith, le)))

    fused : (xs : List ℕ) → map (λ u. min (fold_unit u) 65534) xs ≡ map (λ u. min u 65534) (map fold_unit xs)
    fused [] = refl
    fused (x ∷ xs) = ap (λ ys. min (fold_unit x) 65534 ∷ ys) (fused xs)

-- numbers are equal exactly if they tie
pub ties : (x y : ℕ) → eqb x y ≡ eq_by_cmp nat_cmp x y
ties x y = agree {P = x ≡ y} _ _ (eqb-true x y) (λ e. subst (λ z. eq_by_cmp nat_cmp x z ≡ true) e (ap is_eq (tied_itself nat_cmp_total x))) (λ t. nat_cmp-IsAntisymmetric x y (equal_of (nat_cmp x y) t)) (eq-eqb x y)

-- The numbers under an owner

abbrev pub from_pair : ℕ → ℕ × ℕ
from_pair owner = (owner, 0)

abbrev pub to_pair : ℕ → ℕ × ℕ
to_pair owner = (owner, 18446744073709551615)

module _ (owner number : ℕ) where
  from_first : is_le (pair_order (from_pair owner) (owner, number)) ≡ true
  from_first = ap (λ o. is_le (ordering_then o (nat_cmp 0 number))) (tied_itself nat_cmp_total owner) ∙ elim (zero_or_more number) [ inl z ↦ ap (λ m. is_le (nat_cmp 0 m)) z | inr p ↦ ap is_le (nat_less 0 number p) ]

  to_last : number < 18446744073709551616 → not (is_lt (pair_order (to_pair owner) (owner, number))) ≡ true
  to_last lt = ap (λ o. not (is_lt (ordering_then o (nat_cmp 18446744073709551615 number)))) (tied_itself nat_cmp_total owner) ∙ elim (cases_lt number 18446744073709551615) [
    | inl less ↦ ap (λ o. not (is_lt o)) (nat_greater 18446744073709551615 number less)
    | inr ge ↦ let same : number ≡ 18446744073709551615 = omega (arith, lt, ge) in ap (λ m. not (is_lt (nat_cmp 18446744073709551615 m))) same
  ]

  -- what is listed is found between the first and the last
  found_between : (keys : List (ℕ × ℕ)) → number < 18446744073709551616 → Contains keys (owner, number) → Contains (filter (range_contains pair_order (Included (from_pair owner)) (Included (to_pair owner))) keys) (owner, number)
  found_between keys lt has =
      filter_has (range_contains pair_order (Included (from_pair owner)) (Included (to_pair owner))) keys (owner, number) has (both_true (is_le (pair_order (from_pair owner) (owner, number))) (not (is_lt (pair_order (to_pair owner) (owner, number)))) from_first (to_last lt))
    where
      both_true : (a b : Bool) → a ≡ true → b ≡ true → (a && b) ≡ true
      both_true true b e f = f
      both_true false b e f = e

  -- if none is found there, none is listed
  pub none_listed : (keys found : List (ℕ × ℕ)) → found ≡ filter (range_contains pair_order (Included (from_pair owner)) (Included (to_pair owner))) keys → found ≡ [] → number < 18446744073709551616 → Contains keys (owner, number) → ⊥
  none_listed keys found e none lt has = none_empty (owner, number) (subst (λ xs. Contains xs (owner, number)) (sym e ∙ none) (found_between keys lt has))

  pub under_has : (keys : List (ℕ × ℕ)) → number < 18446744073709551616 → Contains keys (owner, number) → Contains (numbers_under owner keys) number
  under_has keys lt has = map_has (λ (p : ℕ × ℕ). p.1) (filter (range_contains pair_order (Included (from_pair owner)) (Included (to_pair owner))) keys) (owner, number) (found_between keys lt has)

-- an encoding that is fed to a hasher after another one is fed as one with it
pub fed_on : (state : _) (before more : List ℕ) → hasher_after (hasher_after state before) more ≡ hasher_after state (before ++ more)
fed_on state before more = sym (fold-append _ state before more)

-- and so is what was written after an encoding that was fed
pub fed_rest : (state : _) (before more after : List ℕ) (n : ℕ) → n ≡ length before → after ≡ before ++ more → hasher_after (hasher_after state before) (take (length after - n) (drop n after)) ≡ hasher_after state after
fed_rest state before more after n at is =
    ap (hasher_after (hasher_after state before)) (take_rest after n ∙ ap (λ k. drop k after) at ∙ ap (drop (length before)) is ∙ drop-append_seam before more)
    ∙ fed_on state before more ∙ ap (hasher_after state) (sym is)

-- one number more is gathered
pub one_gathered : {K : Type 0} (found more all : List ℕ) (one : K × ℕ) (left next : List (K × ℕ)) → left ≡ one ∷ next → more ≡ found ++ one.1 ∷ [] → found ++ map (λ (p : K × ℕ). p.1) left ≡ all → more ++ map (λ (p : K × ℕ). p.1) next ≡ all
one_gathered {K} found more all one left next step put before =
    ap (λ xs. xs ++ map (λ (p : K × ℕ). p.1) next) put ∙ append_assoc found (one.1 ∷ []) (map (λ (p : K × ℕ). p.1) next) ∙ sym (ap (λ xs. found ++ map (λ (p : K × ℕ). p.1) xs) step) ∙ before

-- when none is left, all are
pub all_gathered : {K : Type 0} (found all : List ℕ) (left : List (K × ℕ)) → left ≡ [] → found ++ map (λ (p : K × ℕ). p.1) left ≡ all → found ≡ all
all_gathered {K} found all left none before = sym (append-nil found) ∙ sym (ap (λ xs. found ++ map (λ (p : K × ℕ). p.1) xs) none) ∙ before
