-- A node without subkeys, with the row of a new hive's root, models the tree of a new hive.
use Rattle.std.proofs.Common.{◌≡◌, ℕ, List, [], ◌∷◌, Some, None, is_some, refl, sym, ◌∙◌, ap, subst, arith}
use Rattle.std.specs.FinMap as finite
use Rattle.std.specs.FinMap.{get-insert, get-empty, same_map}
use mathlib.Core.Bool.{false≢true}
use Rattle.reg_tree_parts.specs.declared.value.Value.{Value}
use Rattle.reg_tree_parts.specs.Rows.{Row}
use Rattle.reg_tree_parts.specs.Orders.{name_order, path_order}
use Rattle.reg_tree_parts.specs.Nodes.{Entries, row_at, IsNode}
use Rattle.reg_tree_parts.proofs.Keys.{paths_total, paths_apart}
use Rattle.reg_tree.specs.Maps.{row}
use Rattle.reg_tree.specs.Encodable.{IsEncodableAt, IsRooted}
use Rattle.reg_tree.specs.Fresh.{fresh_row, fresh_tree}
use Rattle.reg_tree.proofs.Rows.{row_is, tree_is}

module _ (made : Entries) (node : IsNode made) (here : row_at made [] ≡ Some fresh_row) (alone : (n : List ℕ) (r : List (List ℕ)) → row_at made (n ∷ r) ≡ None) where
  rows : (q : List (List ℕ)) → row_at made q ≡ row fresh_tree q
  rows [] = here ∙ sym (get-insert paths_total finite.empty [] fresh_row [])
  rows (n ∷ r) = alone n r ∙ sym (get-insert paths_total finite.empty [] fresh_row (n ∷ r) ∙ get-empty path_order (n ∷ r))

  pub fresh_is : finite.from_sorted {R = path_order} made ≡ fresh_tree
  fresh_is = same_map paths_total paths_apart _ _ (λ q. row_is made node q ∙ rows q)

  fresh_at : (path : List (List ℕ)) (key : Row) → row_at made path ≡ Some key → IsEncodableAt path key
  fresh_at [] key at = let is : fresh_row ≡ key = same (sym here ∙ at) in subst (IsEncodableAt []) is root
    where
      same : Some fresh_row ≡ Some key → fresh_row ≡ key
      same e = cc

      nothing : (q : List ℕ) (value : Value) → finite.get {R = name_order} finite.empty q ≡ Some value → ⊥
      nothing q value e = let bad : None ≡ Some value = sym (get-empty name_order q) ∙ e in cc

      root : IsEncodableAt [] fresh_row
      root = record {
        shallow = omega arith;
        named = λ deep. absurd (omega (arith, deep));
        spelled = record {
          name = record { units = tt; short = omega arith };
          no_backslash = tt;
          flags = omega arith;
          unmarked = refl;
          class = omega arith;
          values = λ q value e. absurd (nothing q value e);
        };
      }
  fresh_at (n ∷ path) key at = absurd (false≢true (ap is_some (sym (alone n path) ∙ at)))

  pub fresh_rooted : IsRooted made
  fresh_rooted = record { node = node; tree = tree_is made node; encodable = record { rows = λ path key at. fresh_at path key (sym (row_is made node path) ∙ at) } }
