-- Subkeys are found under their names.
use Rattle.std.proofs.Common.{◌≡◌, ℕ, false, cond, T, List, [], ◌∷◌, Some, sym, ◌∙◌, ap}
use Rattle.std.specs.List.{AllByRecursion}
use Rattle.std.specs.FinMap.Entries.{find, is_sorted, below_all}
use Rattle.std.specs.Ordering.{eq_by_cmp, is_eq, is_lt}
use Rattle.std.specs.Cmp.{eq_by_cmp_equiv, tied_itself}
use Rattle.std.specs.declared.cmp.Ordering.TheVariants.{Less}
use Rattle.reg_tree_parts.specs.Orders.{name_order}
use Rattle.reg_tree_parts.specs.Rows.{Row}
use Rattle.reg_tree_parts.specs.Nodes.{Entries, entries_of, row_at, row_in}
use Rattle.reg_tree_parts.proofs.Keys.{names_total}
use Rattle.reg_tree_parts.proofs.SortedLists.{front_of, back_of, less_of}
use Rattle.reg_tree_parts.proofs.Finds.{find-all_below}

-- each of some subkeys is found under its name among all
abbrev pub AreFound : List (List ℕ × Entries) → List (List ℕ × Entries) → Type 0
AreFound all subkey_list = AllByRecursion (λ (subkey : List ℕ × Entries). find name_order subkey.0 all ≡ Some subkey.1) subkey_list

first_found : (subkey : List ℕ × Entries) (subkey_list : List (List ℕ × Entries)) → find name_order subkey.0 (subkey ∷ subkey_list) ≡ Some subkey.1
first_found subkey subkey_list = ap (λ o. cond (is_eq o) (Some subkey.1) (find name_order subkey.0 subkey_list)) (tied_itself names_total subkey.0)

later_found : (subkey : List ℕ × Entries) (all subkey_list : List (List ℕ × Entries)) → T (below_all name_order subkey.0 subkey_list) → AreFound all subkey_list → AreFound (subkey ∷ all) subkey_list
later_found subkey all [] h found = tt
later_found subkey all (other ∷ subkey_list) h found = (
  let less : name_order subkey.0 other.0 ≡ Less = less_of (name_order subkey.0 other.0) (front_of (is_lt (name_order subkey.0 other.0)) (below_all name_order subkey.0 subkey_list) h) in
      let apart : eq_by_cmp name_order other.0 subkey.0 ≡ false = sym ((eq_by_cmp_equiv names_total).symm subkey.0 other.0) ∙ ap is_eq less in
      ap (λ b. cond b (Some subkey.1) (find name_order other.0 all)) apart ∙ found.0,
  later_found subkey all subkey_list (back_of (is_lt (name_order subkey.0 other.0)) (below_all name_order subkey.0 subkey_list) h) found.1,
)

pub all_found : (subkey_list : List (List ℕ × Entries)) → T (is_sorted name_order subkey_list) → AreFound subkey_list subkey_list
all_found [] h = tt
all_found (subkey ∷ subkey_list) h = (
  first_found subkey subkey_list,
  later_found subkey subkey_list subkey_list (front_of (below_all name_order subkey.0 subkey_list) (is_sorted name_order subkey_list) h) (all_found subkey_list (back_of (below_all name_order subkey.0 subkey_list) (is_sorted name_order subkey_list) h)),
)

-- below the name of a subkey is what is in the subkey
abbrev pub StandsBelow : Entries → List ℕ × Entries → Type 0
StandsBelow whole subkey = (path : List (List ℕ)) → row_at whole (subkey.0 ∷ path) ≡ row_at subkey.1 path

pub all_stand : (row : Row) (all subkey_list : List (List ℕ × Entries)) → T (is_sorted name_order all) → AreFound all subkey_list → AllByRecursion (StandsBelow (entries_of row all)) subkey_list
all_stand row all [] h found = tt
all_stand row all (subkey ∷ subkey_list) h found = (λ path. find-all_below subkey.0 path all h ∙ ap (λ o. row_in o path) found.0, all_stand row all subkey_list h found.1)
