-- Siblings by their names: names that are missing, and names that rise.
use Rattle.std.proofs.Common.{◌≡◌, ◌≢◌, ◌<◌, ◌≤◌, ◌+◌, inl, inr, ℕ, zero, suc, Bool, true, false, ◌&&◌, T, List, [], ◌∷◌, length, get_or, refl, ◌∙◌, ap, sym, subst, arith}
use Rattle.std.specs.declared.cmp.Ordering.{Ordering}
use Rattle.std.specs.declared.cmp.Ordering.TheVariants.{Less, Equal, Greater}
use Rattle.std.specs.Ordering.{is_lt, ordering_reverse}
use Rattle.std.specs.FinMap.Entries.{is_sorted, below_all}
use Rattle.std.specs.List.Sorted.{IsPermutation}
use Rattle.std.proofs.lemmas.List.Sorted.{IsPermutation-map, IsPermutation-sym}
use Rattle.std.specs.Cmp.{tied_itself}
use Rattle.reg_names.specs.Names.{folded}
use Rattle.reg_tree_parts.specs.Orders.{name_order}
use Rattle.reg_tree_parts.proofs.Keys.{names_total, names_apart}
use Rattle.persistent_map.proofs.SortedLists.{keys_rise}
use Rattle.hive_tree_model.specs.Lists.{IsIn, Once}
use Rattle.hive_tree_model.proofs.Basics.{decided, clash, never}
use Rattle.hive_load.proofs.Shuffled.{once_shuffled}
use Rattle.hive_load.proofs.Sorting.{lt_is, as_T}
use Rattle.hive_walk.specs.declared.siblings.Sibling.{Sibling}
use Rattle.hive_walk.specs.Siblings.{offset_by_name, offsets_by_name, sibling_names}

-- the name of the sibling at an index
abbrev pub name_at : List Sibling → ℕ → Sibling → List ℕ
name_at siblings k d = let sibling = get_or siblings k d in folded sibling.name

any_default : (siblings : List Sibling) (k : ℕ) (d e : Sibling) → k < length siblings → get_or siblings k d ≡ get_or siblings k e
any_default [] k d e h = absurd (omega (arith, h))
any_default (n ∷ siblings) zero d e h = refl
any_default (n ∷ siblings) (suc k) d e h = any_default siblings k d e (omega (arith, h))

pub here_is : (siblings : List Sibling) (k : ℕ) (x d : Sibling) → k < length siblings → x ≡ get_or siblings k x → name_at siblings k d ≡ folded x.name
here_is siblings k x d h is = ap (λ (s : Sibling). folded s.name) (any_default siblings k d x h ∙ sym is)

-- ---- names that are missing

pub name_in : (siblings : List Sibling) (k : ℕ) (d : Sibling) → k < length siblings → IsIn (name_at siblings k d) (sibling_names siblings)
name_in [] k d h = absurd (omega (arith, h))
name_in (n ∷ siblings) zero d h = inl refl
name_in (n ∷ siblings) (suc k) d h = inr (name_in siblings k d (omega (arith, h)))

pub name_from : (siblings : List Sibling) (name : List ℕ) → IsIn name (sibling_names siblings) → (k : ℕ) × (k < length siblings) × ((d : Sibling) → name ≡ name_at siblings k d)
name_from [] name h = absurd h
name_from (n ∷ siblings) name (inl e) = (0, omega arith, λ d. e)
name_from (n ∷ siblings) name (inr h) = let its = name_from siblings name h in (suc its.0, let lt = its.1 in omega (arith, lt), its.2)

-- ---- names that rise

below_less : (x y : List ℕ) (es : List (List ℕ × ℕ)) → name_order x y ≡ Less → below_all name_order y es ≡ true → below_all name_order x es ≡ true
below_less x y [] e h = refl
below_less x y (f ∷ es) e h =
    let first : is_lt (name_order y f.0) ≡ true = front (is_lt (name_order y f.0)) (below_all name_order y es) h in
    let less : name_order x f.0 ≡ Less = names_total.trans x y f.0 e (lt_is (name_order y f.0) first) in
    ap (λ (o : Ordering). is_lt o && below_all name_order x es) less ∙ below_less x y es e (back (is_lt (name_order y f.0)) (below_all name_order y es) h)
  where
    front : (a b : Bool) → (a && b) ≡ true → a ≡ true
    front true b h = refl
    front false b h = never h

    back : (a b : Bool) → (a && b) ≡ true → b ≡ true
    back true b h = h
    back false b h = never h

both_true : (a b : Bool) → a ≡ true → b ≡ true → (a && b) ≡ true
both_true a b h g = ap (λ z. z && b) h ∙ g

front_true : (a b : Bool) → (a && b) ≡ true → a ≡ true
front_true true b h = refl
front_true false b h = never h

back_true : (a b : Bool) → (a && b) ≡ true → b ≡ true
back_true true b h = h
back_true false b h = never h

pub rises_if : (siblings : List Sibling) → ((k : ℕ) (d : Sibling) → k + 1 < length siblings → name_order (name_at siblings k d) (name_at siblings (suc k) d) ≡ Less) → is_sorted name_order (offsets_by_name siblings) ≡ true
rises_if [] h = refl
rises_if (a ∷ []) h = refl
rises_if (a ∷ b ∷ siblings) h =
    let rest : is_sorted name_order (offsets_by_name (b ∷ siblings)) ≡ true = rises_if (b ∷ siblings) (λ k d lt. h (suc k) d (omega (arith, lt))) in
    let first : name_order (folded a.name) (folded b.name) ≡ Less = h 0 a (omega arith) in
    let later : below_all name_order (folded b.name) (offsets_by_name siblings) ≡ true = front_true _ (is_sorted name_order (offsets_by_name siblings)) rest in
    both_true (below_all name_order (folded a.name) (offsets_by_name (b ∷ siblings))) (is_sorted name_order (offsets_by_name (b ∷ siblings)))
    (both_true (is_lt (name_order (folded a.name) (folded b.name))) (below_all name_order (folded a.name) (offsets_by_name siblings)) (ap is_lt first) (below_less _ _ (offsets_by_name siblings) first later))
    rest

pub falls_if : (siblings : List Sibling) (k : ℕ) (d : Sibling) → k + 1 < length siblings → is_lt (name_order (name_at siblings k d) (name_at siblings (suc k) d)) ≡ false → false ≡ is_sorted name_order (offsets_by_name siblings)
falls_if siblings k d lt e = elim (decided (is_sorted name_order (offsets_by_name siblings))) [
  | inl t ↦ clash (is_lt (name_order (name_at siblings k d) (name_at siblings (suc k) d))) (ap is_lt (keys_rise names_total offset_by_name siblings k (suc k) d (as_T _ t) (omega arith) (omega (arith, lt)))) e
  | inr f ↦ sym f
]

-- ---- a sort

-- names that differ and don't fall rise
less_by : (a b : List ℕ) → a ≢ b → (o : Ordering) → name_order a b ≡ o → is_lt (name_order b a) ≡ false → o ≡ Less
less_by a b apart Less e h = refl
less_by a b apart Equal e h = absurd (apart (names_apart a b e))
less_by a b apart Greater e h = clash (is_lt (name_order b a)) (ap is_lt (names_total.antisymm b a ∙ ap ordering_reverse e)) h

once_places : (siblings : List Sibling) (k : ℕ) (d : Sibling) → Once (sibling_names siblings) → k + 1 < length siblings → name_at siblings k d ≢ name_at siblings (suc k) d
once_places [] k d o lt e = absurd (omega (arith, lt))
once_places (n ∷ siblings) zero d o lt e = o.0 (subst (λ (z : List ℕ). IsIn z (sibling_names siblings)) (sym e) (name_in siblings 0 d (omega (arith, lt))))
once_places (n ∷ siblings) (suc k) d o lt e = once_places siblings k d o.1 (omega (arith, lt)) e

next : (k : ℕ) → k + 1 ≡ suc k
next k = omega arith

sorted_rises : (siblings : List Sibling) → Once (sibling_names siblings) →
    ((k : ℕ) (d : Sibling) → 0 ≤ k → k + 1 < length siblings → is_lt (name_order (name_at siblings (k + 1) d) (name_at siblings k d)) ≡ false) → is_sorted name_order (offsets_by_name siblings) ≡ true
sorted_rises siblings o h = rises_if siblings (λ k d lt. less_by (name_at siblings k d) (name_at siblings (suc k) d) (once_places siblings k d o lt) (name_order (name_at siblings k d) (name_at siblings (suc k) d)) refl (subst (λ (z : ℕ). is_lt (name_order (name_at siblings z d) (name_at siblings k d)) ≡ false) (next k) (h k d (omega arith) lt)))

names_moved : (old new : List Sibling) → IsPermutation old new → IsPermutation (sibling_names old) (sibling_names new)
names_moved old new p = IsPermutation-map (λ (s : Sibling). folded s.name) old new p

-- siblings that no longer fall after their order was changed rise, if no two have the same name
pub moved_rises : (old new : List Sibling) → IsPermutation old new → Once (sibling_names old) →
    ((k : ℕ) (d : Sibling) → 0 ≤ k → k + 1 < length new → is_lt (name_order (name_at new (k + 1) d) (name_at new k d)) ≡ false) → T (is_sorted name_order (offsets_by_name new))
moved_rises old new p o h = as_T _ (sorted_rises new (once_shuffled (sibling_names old) (sibling_names new) (names_moved old new p) o) h)

-- ---- names that rise are there once

below_name : (n : List ℕ) (siblings : List Sibling) → below_all name_order n (offsets_by_name siblings) ≡ true → IsIn n (sibling_names siblings) → ⊥
below_name n [] h i = i
below_name n (e ∷ es) h (inl g) = never (sym (ap (λ (z : List ℕ). is_lt (name_order n z)) (sym g) ∙ ap is_lt (tied_itself names_total n)) ∙ front_true (is_lt (name_order n (folded e.name))) (below_all name_order n (offsets_by_name es)) h)
below_name n (e ∷ es) h (inr i) = below_name n es (back_true (is_lt (name_order n (folded e.name))) (below_all name_order n (offsets_by_name es)) h) i

risen_once : (siblings : List Sibling) → is_sorted name_order (offsets_by_name siblings) ≡ true → Once (sibling_names siblings)
risen_once [] h = tt
risen_once (e ∷ es) h = (below_name (folded e.name) es (front_true (below_all name_order (folded e.name) (offsets_by_name es)) (is_sorted name_order (offsets_by_name es)) h), risen_once es (back_true (below_all name_order (folded e.name) (offsets_by_name es)) (is_sorted name_order (offsets_by_name es)) h))

pub apart_if : (old new : List Sibling) → IsPermutation old new → is_sorted name_order (offsets_by_name new) ≡ true → Once (sibling_names old)
apart_if old new p h = once_shuffled (sibling_names new) (sibling_names old) (names_moved new old (IsPermutation-sym old new p)) (risen_once new h)
