-- The map of values of which one is written.
use Rattle.std.proofs.Common.{◌≡◌, inl, inr, not, ℕ, List, [], ◌∷◌, ◌++◌, map, refl, ◌∙◌, ap, sym, Bool, true, false, cond, if◌then◌else◌, Some, Option}
use Rattle.std.specs.List.{list_any}
use Rattle.std.specs.FinMap as finite
use Rattle.std.specs.FinMap.{get-from_entries, get-insert, same_map, slice_cmp-IsAntisymmetric, nat_cmp-IsAntisymmetric, IsAntisymmetric}
use Rattle.std.specs.FinMap.Entries.{find}
use Rattle.std.specs.Ordering.{eq_by_cmp}
use Rattle.reg_names.specs.Names.{folded}
use Rattle.reg_tree_parts.specs.declared.value.Value.{Value}
use Rattle.reg_tree_parts.specs.Orders.{name_order}
use Rattle.reg_tree_parts.specs.ValueEdits.{values_with, spelled_name}
use Rattle.reg_tree_parts.proofs.Keys.{names_total}
use Rattle.hive_tree_model.proofs.Basics.{never, decided, yes_if, no_if, same_is, same_itself}
use Rattle.hive_records.specs.Names.{all_apart}
use Rattle.hive_records.specs.Values.{map_of}
use Rattle.hive_edit_laws.proofs.Bools.{not_true, first_of, second_of, first_not, rest_not}

abbrev entry : Value → List ℕ × Value
entry v = (folded v.name, v)

abbrev names : List Value → List (List ℕ)
names values = map (λ (v : Value). folded v.name) values

names_apart : IsAntisymmetric name_order
names_apart = slice_cmp-IsAntisymmetric nat_cmp-IsAntisymmetric

-- a name that is apart from those of a list is apart from each
apart_each : (n : List ℕ) (front : List Value) (was : Value) (back : List Value) → list_any (eq_by_cmp name_order n) (names (front ++ was ∷ back)) ≡ false → eq_by_cmp name_order n (folded was.name) ≡ false
apart_each n [] was back e = first_not (eq_by_cmp name_order n (folded was.name)) (list_any (eq_by_cmp name_order n) (names back)) e
apart_each n (f ∷ front) was back e = apart_each n front was back (rest_not (eq_by_cmp name_order n (folded f.name)) (list_any (eq_by_cmp name_order n) (names (front ++ was ∷ back))) e)

front_apart : (f : Value) (front : List Value) (was : Value) (back : List Value) → all_apart (names (f ∷ (front ++ was ∷ back))) ≡ true → eq_by_cmp name_order (folded f.name) (folded was.name) ≡ false
front_apart f front was back e = apart_each (folded f.name) front was back (not_true (list_any (eq_by_cmp name_order (folded f.name)) (names (front ++ was ∷ back))) (first_of (not (list_any (eq_by_cmp name_order (folded f.name)) (names (front ++ was ∷ back)))) (all_apart (names (front ++ was ∷ back))) e))

pub found_here : (front : List Value) (was : Value) (back : List Value) → all_apart (names (front ++ was ∷ back)) ≡ true → find name_order (folded was.name) (map (λ (v : Value). (folded v.name, v)) (front ++ was ∷ back)) ≡ Some was
found_here [] was back e = yes_if (eq_by_cmp name_order (folded was.name) (folded was.name)) (Some was) (find name_order (folded was.name) (map (λ (v : Value). (folded v.name, v)) back)) (same_itself (folded was.name))
found_here (f ∷ front) was back e =
    no_if (eq_by_cmp name_order (folded was.name) (folded f.name)) (Some f) (find name_order (folded was.name) (map (λ (v : Value). (folded v.name, v)) (front ++ was ∷ back)))
    (elim (decided (eq_by_cmp name_order (folded was.name) (folded f.name))) [
      | inl t ↦ never (sym (front_apart f front was back e) ∙ ap (λ n. eq_by_cmp name_order n (folded was.name)) (sym (same_is (folded was.name) (folded f.name) t)) ∙ same_itself (folded was.name))
      | inr f ↦ f
    ])
    ∙ found_here front was back (second_of (not (list_any (eq_by_cmp name_order (folded f.name)) (names (front ++ was ∷ back)))) (all_apart (names (front ++ was ∷ back))) e)

one_test : (b : Bool) (x y : Value) (o : Option Value) → (if b then Some y else o) ≡ cond b (Some y) (if b then Some x else o)
one_test true x y o = refl
one_test false x y o = refl

two_tests : (b c : Bool) (x y : Value) (o : Option Value) → (b ≡ true → c ≡ false) → (if b then Some x else cond c (Some y) o) ≡ cond c (Some y) (if b then Some x else o)
two_tests true c x y o h = sym (ap (λ z. cond z (Some y) (Some x)) (h refl))
two_tests false c x y o h = refl

find_swap : (front : List Value) (was now : Value) (back : List Value) → now.name ≡ was.name → all_apart (names (front ++ was ∷ back)) ≡ true → (q : List ℕ) →
    find name_order q (map (λ (v : Value). (folded v.name, v)) (front ++ now ∷ back)) ≡ cond (eq_by_cmp name_order q (folded was.name)) (Some now) (find name_order q (map (λ (v : Value). (folded v.name, v)) (front ++ was ∷ back)))
find_swap [] was now back e apart q = ap (λ n. if eq_by_cmp name_order q (folded n) then Some now else find name_order q (map (λ (v : Value). (folded v.name, v)) back)) e
    ∙ one_test (eq_by_cmp name_order q (folded was.name)) was now (find name_order q (map (λ (v : Value). (folded v.name, v)) back))
find_swap (f ∷ front) was now back e apart q =
    ap (λ o. if eq_by_cmp name_order q (folded f.name) then Some f else o) (find_swap front was now back e (second_of (not (list_any (eq_by_cmp name_order (folded f.name)) (names (front ++ was ∷ back)))) (all_apart (names (front ++ was ∷ back))) apart) q)
    ∙ two_tests (eq_by_cmp name_order q (folded f.name)) (eq_by_cmp name_order q (folded was.name)) f now (find name_order q (map (λ (v : Value). (folded v.name, v)) (front ++ was ∷ back)))
    (λ t. ap (λ n. eq_by_cmp name_order n (folded was.name)) (same_is q (folded f.name) t) ∙ front_apart f front was back apart)

pub map_swap : (front : List Value) (was : Value) (back : List Value) (name : List ℕ) (kind : ℕ) (value_bytes : List ℕ) → folded was.name ≡ folded name → all_apart (map (λ (v : Value). folded v.name) (front ++ was ∷ back)) ≡ true →
    map_of (front ++ (record { name = was.name; kind = kind; «data» = value_bytes }) ∷ back) ≡ values_with (map_of (front ++ was ∷ back)) name kind value_bytes
map_swap front was back name kind value_bytes e apart = same_map names_total names_apart _ _ (λ q.
    get-from_entries names_total (map (λ (v : Value). (folded v.name, v)) (front ++ now ∷ back)) q
    ∙ find_swap front was now back refl apart q
    ∙ (λ i. cond (eq_by_cmp name_order q (e i)) (Some (spelled i)) (sym (get-from_entries names_total (map (λ (v : Value). (folded v.name, v)) (front ++ was ∷ back)) q) i))
    ∙ sym (get-insert names_total (map_of (front ++ was ∷ back)) (folded name) (record { name = spelled_name (finite.get (map_of (front ++ was ∷ back)) (folded name)) name; kind = kind; «data» = value_bytes }) q))
  where
    now : Value
    now = record { name = was.name; kind = kind; «data» = value_bytes }

    there : finite.get (map_of (front ++ was ∷ back)) (folded name) ≡ Some was
    there = ap (finite.get (map_of (front ++ was ∷ back))) (sym e) ∙ get-from_entries names_total (map (λ (v : Value). (folded v.name, v)) (front ++ was ∷ back)) (folded was.name) ∙ found_here front was back apart

    spelled : now ≡ record { name = spelled_name (finite.get (map_of (front ++ was ∷ back)) (folded name)) name; kind = kind; «data» = value_bytes }
    spelled = ap (λ (o : Option Value). record { name = spelled_name o name; kind = kind; «data» = value_bytes }) (sym there)
