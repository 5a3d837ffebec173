-- What a tree says of the entries that it models.
use Rattle.std.proofs.Common.{◌≡◌, ℕ, List, [], ◌∷◌, ◌++◌, IsSome, is_some, sym, ◌∙◌, ap, subst}
use Rattle.std.specs.FinMap as finite
use Rattle.std.specs.FinMap.{entries-from_sorted, get-from_sorted}
use Rattle.reg_tree_parts.specs.Orders.{path_order}
use Rattle.reg_tree_parts.specs.Nodes.{Entries, IsNode, row_at, names_below, entries_weight}
use Rattle.reg_tree.specs.Maps.{row, subkeys, weight, IsTree}

module _ (entries : Entries) (node : IsNode entries) where
  -- its rows are those of the entries
  pub row_is : (path : List (List ℕ)) → row (finite.from_sorted {R = path_order} entries) path ≡ row_at entries path
  row_is path = get-from_sorted path_order entries path node.rises

  -- so they make a tree
  pub tree_is : IsTree (finite.from_sorted {R = path_order} entries)
  tree_is = record {
    root = ap is_some (row_is [] ∙ ap (λ es. row_at es []) node.whole);
    parents = λ path name there. subst IsSome (sym (row_is path)) (node.parents path name (subst IsSome (row_is (path ++ name ∷ [])) there));
    named = λ path name key there. node.named path name key (sym (row_is (path ++ name ∷ [])) ∙ there);
  }

  -- so are the names of its subkeys
  pub subkeys_are : (path : List (List ℕ)) → subkeys (finite.from_sorted {R = path_order} entries) path ≡ names_below path entries
  subkeys_are path = ap (names_below path) (entries-from_sorted path_order entries node.rises)

  -- and its weight
  pub weight_is : weight (finite.from_sorted {R = path_order} entries) ≡ entries_weight entries
  weight_is = ap entries_weight (entries-from_sorted path_order entries node.rises)
