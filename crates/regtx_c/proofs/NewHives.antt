-- A node without subkeys, with the row of a new hive's root, models the tree of a new hive, which a hive file can encode.
use Rattle.std.proofs.Common.{◌≡◌, ℕ, List, [], ◌∷◌, Some, None, is_some, refl, sym, ◌∙◌, ap, subst, arith}
use Rattle.std.specs.FinMap as finite
use Rattle.std.specs.FinMap.{get-insert, get-empty, same_map}
use mathlib.Core.Bool.{false≢true}
use Rattle.reg_tree_parts.specs.declared.value.Value.{Value}
use Rattle.reg_tree_parts.specs.Rows.{Row}
use Rattle.reg_tree_parts.specs.Orders.{name_order, path_order}
use Rattle.reg_tree_parts.specs.Nodes.{Entries, row_at, IsNode}
use Rattle.reg_tree_parts.proofs.Keys.{paths_total, paths_apart}
use Rattle.reg_tree.specs.Maps.{row}
use Rattle.reg_tree.specs.Encodable.{IsEncodable, IsEncodableAt}
use Rattle.reg_tree.proofs.Rows.{row_is}
use Rattle.regtx_c.specs.Openings.{new_root, new_tree}

module _ (made : Entries) (node : IsNode made) (here : row_at made [] ≡ Some new_root) (alone : (n : List ℕ) (r : List (List ℕ)) → row_at made (n ∷ r) ≡ None) where
  rows : (q : List (List ℕ)) → row_at made q ≡ row new_tree q
  rows [] = here ∙ sym (get-insert paths_total finite.empty [] new_root [])
  rows (n ∷ r) = alone n r ∙ sym (get-insert paths_total finite.empty [] new_root (n ∷ r) ∙ get-empty path_order (n ∷ r))

  pub new_is : finite.from_sorted {R = path_order} made ≡ new_tree
  new_is = same_map paths_total paths_apart _ _ (λ q. row_is made node q ∙ rows q)

  encodable_at : (path : List (List ℕ)) (key : Row) → row_at made path ≡ Some key → IsEncodableAt path key
  encodable_at [] key at = let is : new_root ≡ key = same (sym here ∙ at) in subst (IsEncodableAt []) is root
    where
      same : Some new_root ≡ Some key → new_root ≡ key
      same e = cc

      nothing : (q : List ℕ) (value : Value) → finite.get {R = name_order} finite.empty q ≡ Some value → ⊥
      nothing q value e = let bad : None ≡ Some value = sym (get-empty name_order q) ∙ e in cc

      root : IsEncodableAt [] new_root
      root = record {
        shallow = omega arith;
        named = λ deep. absurd (omega (arith, deep));
        spelled = record {
          name = record { units = (omega arith, (omega arith, (omega arith, (omega arith, tt)))); short = omega arith };
          no_backslash = ((λ e. omega (arith, e)), ((λ e. omega (arith, e)), ((λ e. omega (arith, e)), ((λ e. omega (arith, e)), tt))));
          flags = omega arith;
          unmarked = refl;
          class = omega arith;
          values = λ q value e. absurd (nothing q value e);
        };
      }
  encodable_at (n ∷ path) key at = absurd (false≢true (ap is_some (sym (alone n path) ∙ at)))

  pub new_encodable : IsEncodable (finite.from_sorted {R = path_order} made)
  new_encodable = record { rows = λ path key at. encodable_at path key (sym (row_is made node path) ∙ at) }
