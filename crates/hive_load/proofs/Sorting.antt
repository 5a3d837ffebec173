-- Nodes by their names: names that are missing, and names that rise.
use Rattle.std.proofs.Common.{◌≡◌, ◌≢◌, ◌<◌, ◌≤◌, ◌+◌, ◌==◌, inl, inr, ℕ, zero, suc, Bool, true, false, ◌&&◌, T, List, [], ◌∷◌, length, get_or, ◌++◌, refl, ◌∙◌, ap, sym, subst, arith, Global}
use Rattle.std.proofs.lemmas.Bool.{eqb-true}
use Rattle.std.specs.declared.cmp.Ordering.{Ordering}
use Rattle.std.specs.declared.cmp.Ordering.TheVariants.{Less, Equal, Greater}
use Rattle.std.specs.declared.sync.Arc.{Arc}
use Rattle.std.specs.Arc.{arc_value}
use Rattle.std.specs.Ordering.{is_lt, ordering_reverse}
use Rattle.std.specs.FinMap.Entries.{is_sorted, below_all}
use Rattle.reg_names.specs.Names.{folded}
use Rattle.reg_tree_parts.specs.Orders.{name_order}
use Rattle.reg_tree_parts.specs.Nodes.{Entries, root_name, subkey_entry, subkey_entries, IsNode, AreNodes}
use Rattle.reg_tree_parts.proofs.Keys.{names_total, names_apart}
use Rattle.persistent_map.proofs.SortedLists.{keys_rise}
use Rattle.hive_tree_model.specs.Lists.{IsIn, Once}
use Rattle.hive_tree_model.proofs.Basics.{decided, clash, never, cons_nil}
use Rattle.hive_load.specs.Nodes.{names_of}

abbrev pub Nodes : Type 0
Nodes = List (Arc Entries Global)

-- the name of the node at an index
abbrev pub name_at : Nodes → ℕ → Arc Entries Global → List ℕ
name_at nodes k d = root_name (arc_value (get_or nodes k d))

any_default : (nodes : Nodes) (k : ℕ) (d e : Arc Entries Global) → k < length nodes → get_or nodes k d ≡ get_or nodes k e
any_default [] k d e h = absurd (omega (arith, h))
any_default (n ∷ nodes) zero d e h = refl
any_default (n ∷ nodes) (suc k) d e h = any_default nodes k d e (omega (arith, h))

pub here_is : (nodes : Nodes) (k : ℕ) (x d : Arc Entries Global) → k < length nodes → x ≡ get_or nodes k x → name_at nodes k d ≡ root_name (arc_value x)
here_is nodes k x d h is = ap (λ (a : Arc Entries Global). root_name (arc_value a)) (any_default nodes k d x h ∙ sym is)

-- the name of the key of the node there
pub name_there : (nodes : Nodes) (k : ℕ) (x : Arc Entries Global) → k < length nodes → x ≡ get_or nodes k x → (node : Entries) → node ≡ arc_value x → (key name : List ℕ) → root_name node ≡ folded key → name ≡ key → (d : Arc Entries Global) → name_at nodes k d ≡ folded name
name_there nodes k x h is node e key name named same d = ap (λ (a : Arc Entries Global). root_name (arc_value a)) (any_default nodes k d x h ∙ sym is) ∙ ap root_name (sym e) ∙ named ∙ ap folded (sym same)

-- ---- names that are missing

pub name_in : (nodes : Nodes) (k : ℕ) (d : Arc Entries Global) → k < length nodes → IsIn (name_at nodes k d) (names_of (subkey_entries nodes))
name_in [] k d h = absurd (omega (arith, h))
name_in (n ∷ nodes) zero d h = inl refl
name_in (n ∷ nodes) (suc k) d h = inr (name_in nodes k d (omega (arith, h)))

pub name_from : (nodes : Nodes) (name : List ℕ) → IsIn name (names_of (subkey_entries nodes)) → (k : ℕ) × (k < length nodes) × ((d : Arc Entries Global) → name ≡ name_at nodes k d)
name_from [] name h = absurd h
name_from (n ∷ nodes) name (inl e) = (0, omega arith, λ d. e)
name_from (n ∷ nodes) name (inr h) = let its = name_from nodes name h in (suc its.0, let lt = its.1 in omega (arith, lt), its.2)

pub no_name : (units : List ℕ) → (length units == 0) ≡ true → folded units ≡ []
no_name [] e = refl
no_name (u ∷ units) e = let z = eqb-true (length (u ∷ units)) 0 e in absurd (omega (arith, z))

pub some_name : (units : List ℕ) → (length units == 0) ≡ false → folded units ≢ []
some_name [] e h = never (sym e)
some_name (u ∷ units) e h = cons_nil _ _ h

-- ---- names that rise

below_less : (x y : List ℕ) (es : List (List ℕ × Entries)) → name_order x y ≡ Less → below_all name_order y es ≡ true → below_all name_order x es ≡ true
below_less x y [] e h = refl
below_less x y (f ∷ es) e h =
    let first : is_lt (name_order y f.0) ≡ true = front (is_lt (name_order y f.0)) (below_all name_order y es) h in
    let less : name_order x f.0 ≡ Less = names_total.trans x y f.0 e (less_is (name_order y f.0) first) in
    ap (λ (o : Ordering). is_lt o && below_all name_order x es) less ∙ below_less x y es e (back (is_lt (name_order y f.0)) (below_all name_order y es) h)
  where
    front : (a b : Bool) → (a && b) ≡ true → a ≡ true
    front true b h = refl
    front false b h = never h

    back : (a b : Bool) → (a && b) ≡ true → b ≡ true
    back true b h = h
    back false b h = never h

    less_is : (o : Ordering) → is_lt o ≡ true → o ≡ Less
    less_is Less h = refl
    less_is Equal h = never h
    less_is Greater h = never h

both_true : (a b : Bool) → a ≡ true → b ≡ true → (a && b) ≡ true
both_true a b h g = ap (λ z. z && b) h ∙ g

front_true : (a b : Bool) → (a && b) ≡ true → a ≡ true
front_true true b h = refl
front_true false b h = never h

pub rises_if : (nodes : Nodes) → ((k : ℕ) (d : Arc Entries Global) → k + 1 < length nodes → name_order (name_at nodes k d) (name_at nodes (suc k) d) ≡ Less) → is_sorted name_order (subkey_entries nodes) ≡ true
rises_if [] h = refl
rises_if (a ∷ []) h = refl
rises_if (a ∷ b ∷ nodes) h =
    let rest : is_sorted name_order (subkey_entries (b ∷ nodes)) ≡ true = rises_if (b ∷ nodes) (λ k d lt. h (suc k) d (omega (arith, lt))) in
    let first : name_order (root_name (arc_value a)) (root_name (arc_value b)) ≡ Less = h 0 a (omega arith) in
    let later : below_all name_order (root_name (arc_value b)) (subkey_entries nodes) ≡ true = front_true _ (is_sorted name_order (subkey_entries nodes)) rest in
    both_true (below_all name_order (root_name (arc_value a)) (subkey_entries (b ∷ nodes))) (is_sorted name_order (subkey_entries (b ∷ nodes)))
    (both_true (is_lt (name_order (root_name (arc_value a)) (root_name (arc_value b)))) (below_all name_order (root_name (arc_value a)) (subkey_entries nodes)) (ap is_lt first) (below_less _ _ (subkey_entries nodes) first later))
    rest

pub as_T : (b : Bool) → b ≡ true → T b
as_T b e = subst T (sym e) tt

pub falls_if : (nodes : Nodes) (k : ℕ) (d : Arc Entries Global) → k + 1 < length nodes → is_lt (name_order (name_at nodes k d) (name_at nodes (suc k) d)) ≡ false → false ≡ is_sorted name_order (subkey_entries nodes)
falls_if nodes k d lt e = elim (decided (is_sorted name_order (subkey_entries nodes))) [
  | inl t ↦ clash (is_lt (name_order (name_at nodes k d) (name_at nodes (suc k) d))) (ap is_lt (keys_rise names_total subkey_entry nodes k (suc k) d (as_T _ t) (omega arith) (omega (arith, lt)))) e
  | inr f ↦ sym f
]

pub lt_is : (o : Ordering) → is_lt o ≡ true → o ≡ Less
lt_is Less h = refl
lt_is Equal h = never h
lt_is Greater h = never h

-- ---- a sort

-- names that differ and don't fall rise
less_by : (a b : List ℕ) → a ≢ b → (o : Ordering) → name_order a b ≡ o → is_lt (name_order b a) ≡ false → o ≡ Less
less_by a b apart Less e h = refl
less_by a b apart Equal e h = absurd (apart (names_apart a b e))
less_by a b apart Greater e h = clash (is_lt (name_order b a)) (ap is_lt (names_total.antisymm b a ∙ ap ordering_reverse e)) h

once_places : (nodes : Nodes) (k : ℕ) (d : Arc Entries Global) → Once (names_of (subkey_entries nodes)) → k + 1 < length nodes → name_at nodes k d ≢ name_at nodes (suc k) d
once_places [] k d o lt e = absurd (omega (arith, lt))
once_places (n ∷ nodes) zero d o lt e = o.0 (subst (λ (z : List ℕ). IsIn z (names_of (subkey_entries nodes))) (sym e) (name_in nodes 0 d (omega (arith, lt))))
once_places (n ∷ nodes) (suc k) d o lt e = once_places nodes k d o.1 (omega (arith, lt)) e

next : (k : ℕ) → k + 1 ≡ suc k
next k = omega arith

pub sorted_rises : (nodes : Nodes) → Once (names_of (subkey_entries nodes)) →
    ((k : ℕ) (d : Arc Entries Global) → 0 ≤ k → k + 1 < length nodes → is_lt (name_order (name_at nodes (k + 1) d) (name_at nodes k d)) ≡ false) → is_sorted name_order (subkey_entries nodes) ≡ true
sorted_rises nodes o h = rises_if nodes (λ k d lt. less_by (name_at nodes k d) (name_at nodes (suc k) d) (once_places nodes k d o lt) (name_order (name_at nodes k d) (name_at nodes (suc k) d)) refl (subst (λ (z : ℕ). is_lt (name_order (name_at nodes z d) (name_at nodes k d)) ≡ false) (next k) (h k d (omega arith) lt)))

-- ---- one node more

pub one_more : (nodes : Nodes) (x : Arc Entries Global) (node : Entries) → arc_value x ≡ node → subkey_entries (nodes ++ x ∷ []) ≡ subkey_entries nodes ++ (root_name node, node) ∷ []
one_more [] x node e = λ i. (root_name (e i), e i) ∷ []
one_more (n ∷ nodes) x node e = ap (λ (z : List (List ℕ × Entries)). subkey_entry n ∷ z) (one_more nodes x node e)

pub nodes_more : (nodes : List (List ℕ × Entries)) (name : List ℕ) (node : Entries) → AreNodes nodes → IsNode node → AreNodes (nodes ++ (name, node) ∷ [])
nodes_more [] name node h is = (is, tt)
nodes_more (n ∷ nodes) name node h is = (h.0, nodes_more nodes name node h.1 is)
