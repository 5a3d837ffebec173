-- A part of a tree is a tree.
use Rattle.std.proofs.Common.{◌≡◌, ℕ, true, false, List, [], ◌++◌, None, is_some, sym, ◌∙◌, ap, arith, length-append}
use Rattle.std.proofs.lemmas.List.{append-nil}
use Rattle.std.specs.FinMap as finite
use Rattle.reg_tree_parts.specs.Orders.{path_order}
use Rattle.reg_tree_parts.specs.Rows.{Row}
use Rattle.reg_tree_parts.specs.Nodes.{Entries, IsNode, row_at}
use Rattle.reg_tree.specs.Maps.{TreeMap, row, is_there}
use Rattle.reg_tree.specs.Encodable.{IsEncodable, IsEncodableAt}
use Rattle.reg_tree.proofs.Rows.{row_is}
use Rattle.regtx_c.specs.Parts.{IsPart}

below_at : (front rest : List (List ℕ)) (key : Row) → IsEncodableAt (front ++ rest) key → IsEncodableAt rest key
below_at front rest key s =
    let longer = length-append front rest in record {
      shallow = let long = s.shallow in omega (arith, long, longer);
      named = λ some. s.named (omega (arith, some, longer));
      spelled = s.spelled;
    }

module _ (tree : TreeMap) (root : Entries) (same : tree ≡ finite.from_sorted {R = path_order} root) (node : IsNode root) (path : List (List ℕ)) where
  row_of : (rest : List (List ℕ)) → row tree (path ++ rest) ≡ row_at root (path ++ rest)
  row_of rest = ap (λ (t : TreeMap). row t (path ++ rest)) same ∙ row_is root node (path ++ rest)

  row_there : row tree path ≡ row_at root (path ++ [])
  row_there = ap (row tree) (sym (append-nil path)) ∙ row_of []

  pub not_there : ((rest : List (List ℕ)) → row_at root (path ++ rest) ≡ None) → is_there tree path ≡ false
  not_there none = ap is_some (row_there ∙ none [])

  module _ (part : Entries) (own : IsNode part) (found : (rest : List (List ℕ)) → row_at root (path ++ rest) ≡ row_at part rest) where
    pub part_there : is_there tree path ≡ true
    part_there = ap is_some (row_there ∙ found [] ∙ ap (λ es. row_at es []) own.whole)

    pub is_part : (made : TreeMap) → made ≡ finite.from_sorted {R = path_order} part → IsPart tree path made
    is_part made is rest = ap (λ (t : TreeMap). row t rest) is ∙ row_is part own rest ∙ sym (row_of rest ∙ found rest)

    pub part_encodable : IsEncodable tree → IsEncodable (finite.from_sorted {R = path_order} part)
    part_encodable all = record { rows = λ rest key e. below_at path rest key (all.rows (path ++ rest) key (row_of rest ∙ found rest ∙ sym (row_is part own rest) ∙ e)) }
