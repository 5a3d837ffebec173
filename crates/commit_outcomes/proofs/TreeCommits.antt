-- What a tree of outcomes has is what the test for one says.
use Rattle.std.proofs.Common.{◌≡◌, ◌↔◌, ℕ, ◌-◌, ◌<◌, ◌≤◌, ◌^◌, ◌==◌, true, List, [], map, length, Contains, Option, Some, None, is_some, option_map, nat_le, refl, sym, ◌∙◌, ap, subst, arith}
use Rattle.std.specs.List.{list_all}
use Rattle.std.specs.FinMap as finite
use Rattle.std.specs.FinMap.{len-entries}
use Rattle.std.proofs.lemmas.Bool.{and_from, le-leb, eq-eqb}
use Rattle.std.proofs.lemmas.List.{length-map}
use Rattle.reg_names.specs.Names.{folded}
use Rattle.reg_tree_parts.specs.declared.value.Value.{Value}
use Rattle.reg_tree_parts.specs.Orders.{name_order}
use Rattle.reg_tree_parts.proofs.Keys.{names_total, names_apart}
use Rattle.reg_tree.specs.Maps.{TreeMap, row}
use Rattle.reg_tree.specs.Fresh.{fresh_row, fresh_tree}
use Rattle.commit_outcomes.specs.Units.{is_unit_name, unit_name}
use Rattle.commit_outcomes.specs.Commits.{Commit, latest, AreUpTo}
use Rattle.commit_outcomes.specs.Trees.{HasCommits, root_values, values_of, commit_value, commit_of, is_commit_value, are_distinct, are_outcomes, number_in}
use Rattle.commit_outcomes.specs.declared.commit_list.TheConstants.{MOST_COMMITS}
use Rattle.commit_outcomes.proofs.UnitNames.{named, folds_apart}
use Rattle.commit_outcomes.proofs.Numbers.{are_bytes, eight}
use Rattle.commit_outcomes.proofs.Found.{all_values, distinct_values}
use Rattle.commit_outcomes.proofs.Values.{look, get_look, look_has, has_look, len_values}
use Rattle.commit_outcomes.proofs.Written.{rise_none, all_member, value_found, value_of_member, number_of}
use Rattle.commit_outcomes.proofs.ByNumber.{rise_same, rise_equal}
use Rattle.commit_outcomes.proofs.ReadTrees.{passes_from}
use Rattle.commit_outcomes.proofs.Outcome.{lone_has, root_of}

-- a new hive's tree has no commits
pub fresh : HasCommits [] fresh_tree
fresh = lone_has [] fresh_row refl (record { rise = rise_none; above = tt; units = tt; apart = refl; few = omega arith })

below_all : (commits : List Commit) → AreUpTo (2 ^ 64 - 1) commits → (c : Commit) → Contains commits c → c.0 < 2 ^ 64
below_all commits up c has = let le = all_member (λ (d : Commit). d.0 ≤ 2 ^ 64 - 1) commits c up has in omega (arith, le)

-- commits with one value are one
one_value : (c d : Commit) → c.0 < 2 ^ 64 → d.0 < 2 ^ 64 → commit_value c ≡ commit_value d → c ≡ d
one_value c d fits too e =
    let number : c.0 ≡ d.0 = sym (number_of c fits) ∙ ap (λ v. (commit_of v).0) e ∙ number_of d too in
    let name : c.1 ≡ d.1 = ap (λ (v : Value). v.name) e in
    λ i. (number i, name i)

-- A tree has one list of commits at most

members_in : (one two : List Commit) → latest one ≡ one → AreUpTo (2 ^ 64 - 1) one → AreUpTo (2 ^ 64 - 1) two → values_of one ≡ values_of two → (c : Commit) → Contains one c → Contains two c
members_in one two apart up too e c has =
    let found = value_found two (folded c.1) (commit_value c) (ap (λ vs. finite.get vs (folded c.1)) (sym e) ∙ value_of_member one c apart has) in
    subst (Contains two) (one_value found.0 c (below_all two too found.0 found.1) (below_all one up c has) found.3) found.1

pub only : (tree : TreeMap) (one two : List Commit) → HasCommits one tree → HasCommits two tree → AreUpTo (2 ^ 64 - 1) one → AreUpTo (2 ^ 64 - 1) two → one ≡ two
only tree one two has also up too =
    let e : values_of one ≡ values_of two = sym has.values ∙ also.values in
    rise_equal one two has.are.rise also.are.rise (members_in one two has.are.apart up too e) (members_in two one also.are.apart too up (sym e))

-- The number of a unit's commit

pub looked_up : (tree : TreeMap) (commits : List Commit) (id : List ℕ) (number : ℕ) → HasCommits commits tree → AreUpTo (2 ^ 64 - 1) commits
    → (number_in tree id ≡ Some number) ↔ Contains commits (number, unit_name id)
looked_up tree commits id number has up = (to, from)
  where
    found : number_in tree id ≡ option_map (λ v. (commit_of v).0) (option_map commit_value (look (folded (unit_name id)) commits))
    found = ap (λ vs. option_map (λ v. (commit_of v).0) (finite.get vs (folded (unit_name id)))) has.values ∙ ap (option_map (λ v. (commit_of v).0)) (get_look commits (folded (unit_name id)))

    to : number_in tree id ≡ Some number → Contains commits (number, unit_name id)
    to is = by_case (look (folded (unit_name id)) commits) refl
      where
        by_case : (o : Option Commit) → look (folded (unit_name id)) commits ≡ o → Contains commits (number, unit_name id)
        by_case None e = let none : None ≡ Some number = sym (found ∙ ap (λ o. option_map (λ v. (commit_of v).0) (option_map commit_value o)) e) ∙ is in absurd (let never : ⊥ = cc in never)
        by_case (Some d) e =
            let some : Some (commit_of (commit_value d)).0 ≡ Some number = sym (found ∙ ap (λ o. option_map (λ v. (commit_of v).0) (option_map commit_value o)) e) ∙ is in
            let at = look_has (folded (unit_name id)) commits d e in
            let back = number_of d (below_all commits up d at.0) in
            let same : (commit_of (commit_value d)).0 ≡ number = cc in
            let name : d.1 ≡ unit_name id = folds_apart d.1 (unit_name id) (all_member (λ (c : Commit). is_unit_name c.1 ≡ true) commits d has.are.units at.0) (named id) at.1 in
            let number_is : d.0 ≡ number = sym back ∙ same in
            subst (Contains commits) (λ i. (number_is i, name i)) at.0

    from : Contains commits (number, unit_name id) → number_in tree id ≡ Some number
    from there =
        found ∙ ap (λ o. option_map (λ v. (commit_of v).0) (option_map commit_value o)) (has_look commits (number, unit_name id) has.are.apart there)
        ∙ ap (λ n. Some n) (number_of (number, unit_name id) (below_all commits up (number, unit_name id) there))

-- A tree that has commits passes

passes_one : (number : ℕ) (d : Commit) (v : Value) → number < 2 ^ 64 → is_unit_name d.1 ≡ true → 0 < d.0 → d.0 ≤ number → commit_value d ≡ v → is_commit_value number v ≡ true
passes_one number d v fits unit above most is =
    let back : (commit_of (commit_value d)).0 ≡ d.0 = number_of d (omega (arith, fits, most)) in
    ap (is_commit_value number) (sym is)
    ∙ passes_from number (commit_value d) (record { unit = unit; kind = refl; long = eight d.0; bytes = are_bytes d.0; above = omega (arith, back, above); most = omega (arith, back, most) })

pub passes : (number : ℕ) (tree : TreeMap) (commits : List Commit) → HasCommits commits tree → AreUpTo number commits → number < 2 ^ 64 → are_outcomes number tree ≡ true
passes number tree commits has up fits =
    let values = root_values tree in
    let one : finite.len tree ≡ 1 = len-entries tree ∙ sym (length-map (finite.entries tree) (λ e. e.0)) ∙ ap length has.alone in
    let root = root_of tree has.alone in
    let count : finite.len values ≡ length commits = ap finite.len has.values ∙ len_values commits has.are.apart in
    let many : finite.len values ≤ MOST_COMMITS = subst (λ n. n ≤ MOST_COMMITS) (sym count) has.are.few in
    let found : (q : List ℕ) (v : Value) → finite.get values q ≡ Some v → (d : Commit) × Contains commits d × (folded d.1 ≡ q) × (commit_value d ≡ v) = λ q v at. value_found commits q v (ap (λ vs. finite.get vs q) (sym has.values) ∙ at) in
    let below : (d : Commit) → Contains commits d → d.0 ≤ number = λ d there. all_member (λ (c : Commit). c.0 ≤ number) commits d up there in
    let each : list_all (is_commit_value number) (finite.values values) ≡ true = all_values name_order names_total names_apart values (is_commit_value number) (λ q v at.
    let d = found q v at in
    passes_one number d.0 v fits (all_member (λ (c : Commit). is_unit_name c.1 ≡ true) commits d.0 has.are.units d.1) (all_member (λ (c : Commit). 0 < c.0) commits d.0 has.are.above d.1) (below d.0 d.1) d.3) in
    let distinct : are_distinct (map (λ v. (commit_of v).0) (finite.values values)) ≡ true = distinct_values name_order names_total names_apart values (λ v. (commit_of v).0) (λ j k x y a b same.
    let d = found j x a in
    let e = found k y b in
    let left : (commit_of x).0 ≡ d.0.0 = ap (λ v. (commit_of v).0) (sym d.3) ∙ number_of d.0 (let le = below d.0 d.1 in omega (arith, le, fits)) in
    let right : (commit_of y).0 ≡ e.0.0 = ap (λ v. (commit_of v).0) (sym e.3) ∙ number_of e.0 (let le = below e.0 e.1 in omega (arith, le, fits)) in
    sym d.2 ∙ ap (λ (c : Commit). folded c.1) (rise_same commits has.are.rise d.0 e.0 d.1 e.1 (sym left ∙ same ∙ right)) ∙ e.2) in
    and_from (finite.len tree == 1) _ (eq-eqb (finite.len tree) 1 one) (and_from (is_some (row tree [])) _ (ap is_some root.1) (and_from (nat_le (finite.len values) MOST_COMMITS) _ (le-leb (finite.len values) MOST_COMMITS many)
    (and_from (list_all (is_commit_value number) (finite.values values)) _ each distinct)))
