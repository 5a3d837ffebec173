-- The map of values with one more, and with one less.
use Rattle.std.proofs.Common.{◌≡◌, inl, inr, not, ℕ, List, [], ◌∷◌, ◌++◌, map, refl, ◌∙◌, ap, sym, Bool, true, false, cond, if◌then◌else◌, Some, None, Option}
use Rattle.std.specs.List.{list_any}
use Rattle.std.specs.FinMap as finite
use Rattle.std.specs.FinMap.{get-from_entries, get-insert, get-remove, same_map, slice_cmp-IsAntisymmetric, nat_cmp-IsAntisymmetric, IsAntisymmetric}
use Rattle.std.specs.FinMap.Entries.{find}
use Rattle.std.specs.Ordering.{eq_by_cmp}
use Rattle.reg_names.specs.Names.{folded}
use Rattle.reg_tree_parts.specs.declared.value.Value.{Value}
use Rattle.reg_tree_parts.specs.Orders.{name_order}
use Rattle.reg_tree_parts.specs.ValueEdits.{values_with, values_without, spelled_name}
use Rattle.reg_tree_parts.proofs.Keys.{names_total}
use Rattle.hive_tree_model.proofs.Basics.{never, decided, clash, yes_if, no_if, same_is, same_itself, same_not, some_none}
use Rattle.hive_records.specs.Names.{all_apart}
use Rattle.hive_records.specs.Values.{map_of}
use Rattle.hive_edit_laws.proofs.Bools.{not_true, true_not, first_of, second_of, both_of, first_not, rest_not, neither}

names_apart : IsAntisymmetric name_order
names_apart = slice_cmp-IsAntisymmetric nat_cmp-IsAntisymmetric

abbrev entries : List Value → List (List ℕ × Value)
entries values = map (λ (v : Value). (folded v.name, v)) values

abbrev names : List Value → List (List ℕ)
names values = map (λ (v : Value). folded v.name) values

-- a name that is not found is none of the names
none_named : (n : List ℕ) (values : List Value) → find name_order n (entries values) ≡ None → list_any (eq_by_cmp name_order n) (names values) ≡ false
none_named n [] e = refl
none_named n (v ∷ values) e = elim (decided (eq_by_cmp name_order n (folded v.name))) [
  | inl t ↦ some_none v (sym e ∙ yes_if (eq_by_cmp name_order n (folded v.name)) (Some v) (find name_order n (entries values)) t)
  | inr f ↦ neither (eq_by_cmp name_order n (folded v.name)) (list_any (eq_by_cmp name_order n) (names values)) f
      (none_named n values (sym (no_if (eq_by_cmp name_order n (folded v.name)) (Some v) (find name_order n (entries values)) f) ∙ e))
]

turned : (n m : List ℕ) → eq_by_cmp name_order n m ≡ false → eq_by_cmp name_order m n ≡ false
turned n m e = same_not m n (λ f. clash (eq_by_cmp name_order n m) (ap (eq_by_cmp name_order n) f ∙ same_itself n) e)

-- one name more, or less, among names
any_added : (n k : List ℕ) (us ws : List Value) (v : Value) → folded v.name ≡ k → eq_by_cmp name_order n k ≡ false → list_any (eq_by_cmp name_order n) (names (us ++ ws)) ≡ false → list_any (eq_by_cmp name_order n) (names (us ++ v ∷ ws)) ≡ false
any_added n k [] ws v is apart e = neither (eq_by_cmp name_order n (folded v.name)) (list_any (eq_by_cmp name_order n) (names ws)) (ap (eq_by_cmp name_order n) is ∙ apart) e
any_added n k (u ∷ us) ws v is apart e = neither (eq_by_cmp name_order n (folded u.name)) (list_any (eq_by_cmp name_order n) (names (us ++ v ∷ ws)))
    (first_not (eq_by_cmp name_order n (folded u.name)) (list_any (eq_by_cmp name_order n) (names (us ++ ws))) e)
    (any_added n k us ws v is apart (rest_not (eq_by_cmp name_order n (folded u.name)) (list_any (eq_by_cmp name_order n) (names (us ++ ws))) e))

pub apart_with : (us ws : List Value) (v : Value) (n : List ℕ) → folded v.name ≡ n → find name_order n (entries (us ++ ws)) ≡ None → all_apart (names (us ++ ws)) ≡ true → all_apart (names (us ++ v ∷ ws)) ≡ true
apart_with [] ws v n is e apart = both_of (not (list_any (eq_by_cmp name_order (folded v.name)) (names ws))) (all_apart (names ws))
    (true_not (list_any (eq_by_cmp name_order (folded v.name)) (names ws)) (ap (λ m. list_any (eq_by_cmp name_order m) (names ws)) is ∙ none_named n ws e)) apart
apart_with (u ∷ us) ws v n is e apart =
    let other : eq_by_cmp name_order n (folded u.name) ≡ false = first_not (eq_by_cmp name_order n (folded u.name)) (list_any (eq_by_cmp name_order n) (names (us ++ ws))) (none_named n (u ∷ (us ++ ws)) e) in
    both_of (not (list_any (eq_by_cmp name_order (folded u.name)) (names (us ++ v ∷ ws)))) (all_apart (names (us ++ v ∷ ws)))
    (true_not (list_any (eq_by_cmp name_order (folded u.name)) (names (us ++ v ∷ ws)))
    (any_added (folded u.name) n us ws v is (turned n (folded u.name) other) (not_true (list_any (eq_by_cmp name_order (folded u.name)) (names (us ++ ws))) (first_of (not (list_any (eq_by_cmp name_order (folded u.name)) (names (us ++ ws)))) (all_apart (names (us ++ ws))) apart))))
    (apart_with us ws v n is (sym (no_if (eq_by_cmp name_order n (folded u.name)) (Some u) (find name_order n (entries (us ++ ws))) other) ∙ e)
    (second_of (not (list_any (eq_by_cmp name_order (folded u.name)) (names (us ++ ws)))) (all_apart (names (us ++ ws))) apart))

any_dropped : (n : List ℕ) (us ws : List Value) (v : Value) → list_any (eq_by_cmp name_order n) (names (us ++ v ∷ ws)) ≡ false → (list_any (eq_by_cmp name_order n) (names (us ++ ws)) ≡ false) × (eq_by_cmp name_order n (folded v.name) ≡ false)
any_dropped n [] ws v e = (rest_not (eq_by_cmp name_order n (folded v.name)) (list_any (eq_by_cmp name_order n) (names ws)) e, first_not (eq_by_cmp name_order n (folded v.name)) (list_any (eq_by_cmp name_order n) (names ws)) e)
any_dropped n (u ∷ us) ws v e =
    let r = any_dropped n us ws v (rest_not (eq_by_cmp name_order n (folded u.name)) (list_any (eq_by_cmp name_order n) (names (us ++ v ∷ ws))) e) in
    (neither (eq_by_cmp name_order n (folded u.name)) (list_any (eq_by_cmp name_order n) (names (us ++ ws))) (first_not (eq_by_cmp name_order n (folded u.name)) (list_any (eq_by_cmp name_order n) (names (us ++ v ∷ ws))) e) r.0, r.1)

pub apart_without : (us ws : List Value) (v : Value) → all_apart (names (us ++ v ∷ ws)) ≡ true → all_apart (names (us ++ ws)) ≡ true
apart_without [] ws v apart = second_of (not (list_any (eq_by_cmp name_order (folded v.name)) (names ws))) (all_apart (names ws)) apart
apart_without (u ∷ us) ws v apart = both_of (not (list_any (eq_by_cmp name_order (folded u.name)) (names (us ++ ws)))) (all_apart (names (us ++ ws)))
    (true_not (list_any (eq_by_cmp name_order (folded u.name)) (names (us ++ ws))) (any_dropped (folded u.name) us ws v (not_true (list_any (eq_by_cmp name_order (folded u.name)) (names (us ++ v ∷ ws))) (first_of (not (list_any (eq_by_cmp name_order (folded u.name)) (names (us ++ v ∷ ws)))) (all_apart (names (us ++ v ∷ ws))) apart))).0)
    (apart_without us ws v (second_of (not (list_any (eq_by_cmp name_order (folded u.name)) (names (us ++ v ∷ ws)))) (all_apart (names (us ++ v ∷ ws))) apart))

first_test : (b : Bool) (v : Value) (o : Option Value) → (if b then Some v else o) ≡ cond b (Some v) o
first_test true v o = refl
first_test false v o = refl

two_tests : (b c : Bool) (u v : Value) (o : Option Value) → (b ≡ true → c ≡ false) → (if b then Some u else cond c (Some v) o) ≡ cond c (Some v) (if b then Some u else o)
two_tests true c u v o h = sym (ap (λ z. cond z (Some v) (Some u)) (h refl))
two_tests false c u v o h = refl

find_with : (us ws : List Value) (v : Value) → all_apart (names (us ++ v ∷ ws)) ≡ true → (q : List ℕ) → find name_order q (entries (us ++ v ∷ ws)) ≡ cond (eq_by_cmp name_order q (folded v.name)) (Some v) (find name_order q (entries (us ++ ws)))
find_with [] ws v apart q = first_test (eq_by_cmp name_order q (folded v.name)) v (find name_order q (entries ws))
find_with (u ∷ us) ws v apart q =
    ap (λ o. if eq_by_cmp name_order q (folded u.name) then Some u else o) (find_with us ws v (second_of (not (list_any (eq_by_cmp name_order (folded u.name)) (names (us ++ v ∷ ws)))) (all_apart (names (us ++ v ∷ ws))) apart) q)
    ∙ two_tests (eq_by_cmp name_order q (folded u.name)) (eq_by_cmp name_order q (folded v.name)) u v (find name_order q (entries (us ++ ws)))
    (λ t. ap (λ n. eq_by_cmp name_order n (folded v.name)) (same_is q (folded u.name) t) ∙ (any_dropped (folded u.name) us ws v (not_true (list_any (eq_by_cmp name_order (folded u.name)) (names (us ++ v ∷ ws))) (first_of (not (list_any (eq_by_cmp name_order (folded u.name)) (names (us ++ v ∷ ws)))) (all_apart (names (us ++ v ∷ ws))) apart))).1)

-- with one value more
pub map_with : (us ws : List Value) (name : List ℕ) (kind : ℕ) (value_bytes : List ℕ) → finite.get (map_of (us ++ ws)) (folded name) ≡ None → all_apart (names (us ++ (record { name = name; kind = kind; «data» = value_bytes }) ∷ ws)) ≡ true →
    map_of (us ++ (record { name = name; kind = kind; «data» = value_bytes }) ∷ ws) ≡ values_with (map_of (us ++ ws)) name kind value_bytes
map_with us ws name kind value_bytes none apart = same_map names_total names_apart _ _ (λ q.
    get-from_entries names_total (entries (us ++ v ∷ ws)) q
    ∙ find_with us ws v apart q
    ∙ (λ i. cond (eq_by_cmp name_order q (folded name)) (Some (spelled i)) (sym (get-from_entries names_total (entries (us ++ ws)) q) i))
    ∙ sym (get-insert names_total (map_of (us ++ ws)) (folded name) (record { name = spelled_name (finite.get (map_of (us ++ ws)) (folded name)) name; kind = kind; «data» = value_bytes }) q))
  where
    v : Value
    v = record { name = name; kind = kind; «data» = value_bytes }

    spelled : v ≡ record { name = spelled_name (finite.get (map_of (us ++ ws)) (folded name)) name; kind = kind; «data» = value_bytes }
    spelled = ap (λ (o : Option Value). record { name = spelled_name o name; kind = kind; «data» = value_bytes }) (sym none)

pub find_none_of : (us ws : List Value) (n : List ℕ) → finite.get (map_of (us ++ ws)) n ≡ None → find name_order n (entries (us ++ ws)) ≡ None
find_none_of us ws n e = sym (get-from_entries names_total (entries (us ++ ws)) n) ∙ e

not_there : (n : List ℕ) (values : List Value) → list_any (eq_by_cmp name_order n) (names values) ≡ false → find name_order n (entries values) ≡ None
not_there n [] e = refl
not_there n (v ∷ values) e = no_if (eq_by_cmp name_order n (folded v.name)) (Some v) (find name_order n (entries values)) (first_not (eq_by_cmp name_order n (folded v.name)) (list_any (eq_by_cmp name_order n) (names values)) e)
    ∙ not_there n values (rest_not (eq_by_cmp name_order n (folded v.name)) (list_any (eq_by_cmp name_order n) (names values)) e)

-- the name of the value in the middle is none of the others
middle_apart : (us ws : List Value) (v : Value) → all_apart (names (us ++ v ∷ ws)) ≡ true → list_any (eq_by_cmp name_order (folded v.name)) (names (us ++ ws)) ≡ false
middle_apart [] ws v apart = not_true (list_any (eq_by_cmp name_order (folded v.name)) (names ws)) (first_of (not (list_any (eq_by_cmp name_order (folded v.name)) (names ws))) (all_apart (names ws)) apart)
middle_apart (u ∷ us) ws v apart = neither (eq_by_cmp name_order (folded v.name) (folded u.name)) (list_any (eq_by_cmp name_order (folded v.name)) (names (us ++ ws)))
    (turned (folded u.name) (folded v.name) (any_dropped (folded u.name) us ws v (not_true (list_any (eq_by_cmp name_order (folded u.name)) (names (us ++ v ∷ ws))) (first_of (not (list_any (eq_by_cmp name_order (folded u.name)) (names (us ++ v ∷ ws)))) (all_apart (names (us ++ v ∷ ws))) apart))).1)
    (middle_apart us ws v (second_of (not (list_any (eq_by_cmp name_order (folded u.name)) (names (us ++ v ∷ ws)))) (all_apart (names (us ++ v ∷ ws))) apart))

gone : (b : Bool) (v : Value) (o r : Option Value) → (b ≡ true → o ≡ None) → (b ≡ false → o ≡ r) → o ≡ cond b None r
gone true v o r h g = h refl
gone false v o r h g = g refl

else_so : (b : Bool) (v : Value) (o : Option Value) → b ≡ false → cond b (Some v) o ≡ o
else_so true v o e = never (sym e)
else_so false v o e = refl

-- with one value less
pub map_without : (us ws : List Value) (v : Value) (name : List ℕ) → folded v.name ≡ folded name → all_apart (names (us ++ v ∷ ws)) ≡ true → map_of (us ++ ws) ≡ values_without (map_of (us ++ v ∷ ws)) name
map_without us ws v name is apart = same_map names_total names_apart _ _ (λ q.
    get-from_entries names_total (entries (us ++ ws)) q
    ∙ gone (eq_by_cmp name_order q (folded name)) v (find name_order q (entries (us ++ ws))) (finite.get (map_of (us ++ v ∷ ws)) q)
    (λ t. ap (λ n. find name_order n (entries (us ++ ws))) (same_is q (folded name) t ∙ sym is) ∙ not_there (folded v.name) (us ++ ws) (middle_apart us ws v apart))
    (λ t. sym (get-from_entries names_total (entries (us ++ v ∷ ws)) q ∙ find_with us ws v apart q ∙ else_so (eq_by_cmp name_order q (folded v.name)) v (find name_order q (entries (us ++ ws))) (ap (eq_by_cmp name_order q) is ∙ t)))
    ∙ sym (get-remove names_total (map_of (us ++ v ∷ ws)) (folded name) q))
