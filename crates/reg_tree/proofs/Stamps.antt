-- A key as if it had been written at another moment: the rows of the tree, and what the walk makes of its root.
use Rattle.std.proofs.Common.{◌≡◌, ℕ, Bool, true, false, cond, List, [], ◌∷◌, length, ◌==◌, drop, Some, None, IsSome, refl, sym, ◌∙◌, ap, append-nil, arith}
use Rattle.std.proofs.lemmas.Bool.{true≢false}
use Rattle.std.proofs.lemmas.Bool.Decides.{nat_tests}
use Rattle.std.specs.Ordering.{eq_by_cmp}
use Rattle.std.specs.Option.{option_map}
use Rattle.std.specs.List.{list_any}
use Rattle.std.specs.FinMap as finite
use Rattle.std.specs.FinMap.{contains_key-keys, same_map}
use Rattle.reg_names.specs.Names.{folded_path}
use Rattle.reg_tree_parts.specs.Orders.{path_order}
use Rattle.reg_tree_parts.specs.Nodes.{Entries, IsNode, row_at}
use Rattle.reg_tree_parts.specs.Walks.{IsEdited}
use Rattle.reg_tree_parts.proofs.Keys.{paths_total, paths_apart}
use Rattle.reg_tree.specs.Maps.{TreeMap, row}
use Rattle.reg_tree.specs.Operations.{touched, row_edited}
use Rattle.reg_tree.specs.Encodable.{IsEncodable, IsRooted}
use Rattle.reg_tree.specs.Edits.{IsRewritten}
use Rattle.reg_tree.specs.Stamps.{stamped_at, stamps}
use Rattle.reg_tree.proofs.Paths.{eq_is}
use Rattle.reg_tree.proofs.Rows.{row_is}
use Rattle.reg_tree.proofs.TreesAfter.{row-tree_of}
use Rattle.reg_tree.proofs.TreesStay.{was_there}
use Rattle.reg_tree.proofs.Spelling.{edited_too}
use Rattle.reg_tree.proofs.Ways.{part_of_way, rewritten_is}

module _ (tree : TreeMap) (path : List (List ℕ)) (moment : ℕ) where
  -- only keys that were there have rows
  stamped_listed : (q : List (List ℕ)) → IsSome (row_edited (λ key. key) tree path moment q) → list_any (eq_by_cmp path_order q) (finite.keys tree) ≡ true
  stamped_listed q there = sym (contains_key-keys tree q) ∙ by_case (eq_by_cmp path_order q path) there
    where
      by_case : (b : Bool) → IsSome (cond b (option_map (touched moment) (row tree q)) (row tree q)) → IsSome (row tree q)
      by_case true there = was_there _ (row tree q) there
      by_case false there = there

  -- the rows of the stamped tree
  pub row-stamped : (q : List (List ℕ)) → row (stamped_at tree path moment) q ≡ row_edited (λ key. key) tree path moment q
  row-stamped q = row-tree_of _ _ q (stamped_listed q)

  -- so entries with those rows model it
  pub stamped_is : (made : Entries) → IsNode made → ((q : List (List ℕ)) → row_at made q ≡ row_edited (λ key. key) tree path moment q) → finite.from_sorted {R = path_order} made ≡ stamped_at tree path moment
  stamped_is made node rows = same_map paths_total paths_apart _ _ (λ q. row_is made node q ∙ rows q ∙ sym (row-stamped q))

  -- if no key is there the tree stays
  pub stamped_none : row tree path ≡ None → stamped_at tree path moment ≡ tree
  stamped_none none = same_map paths_total paths_apart _ _ (λ q. row-stamped q ∙ by_case q (eq_by_cmp path_order q path) refl)
    where
      by_case : (q : List (List ℕ)) (b : Bool) → eq_by_cmp path_order q path ≡ b → cond b (option_map (touched moment) (row tree q)) (row tree q) ≡ row tree q
      by_case q true e =
          let gone : row tree q ≡ None = ap (row tree) (eq_is q path e) ∙ none in
          ap (option_map (touched moment)) gone ∙ sym gone
      by_case q false e = refl

  -- that a hive file can encode, if it could before
  pub encodable_stamped : IsEncodable tree → IsEncodable (stamped_at tree path moment)
  encodable_stamped all = record { rows = λ q key e. edited_too tree all (λ key. key) (λ q key spelled. spelled) path moment q key (sym (row-stamped q) ∙ e) }

-- if no name is missing the key is written again
pub written_again : (moment : ℕ) (key : Entries) (left : List (List ℕ)) (new : Entries) (b : Bool) → b ≡ (length left == 0) → b ≡ true → IsRewritten key (λ row. row) moment new → stamps moment key left (Some new)
written_again moment key [] new b is none told = told
written_again moment key (name ∷ left) new b is none told = absurd (true≢false (sym none ∙ is ∙ some))
  where
    some : (length (name ∷ left) == 0) ≡ false
    some = grind (arith, nat_tests)

-- what the walk leads to, by its answer: the rows if the key is there, and else that it isn't
module _ (root : Entries) (rooted : IsRooted root) (way : List (List ℕ)) (moment : ℕ) where
  pub stamped_rows : (made : Entries) (missing : ℕ) → IsEdited (stamps moment) root way (Some (made, missing))
      → (q : List (List ℕ)) → row_at made q ≡ row_edited (λ key. key) (finite.from_sorted {R = path_order} root) (folded_path way) moment q
  stamped_rows made missing is = by_left (drop is.depth way) refl is.edits.1.0
    where
      by_left : (left : List (List ℕ)) → drop is.depth way ≡ left → stamps moment is.nearest left (Some is.edits.0)
          → (q : List (List ℕ)) → row_at made q ≡ row_edited (λ key. key) (finite.from_sorted {R = path_order} root) (folded_path way) moment q
      by_left [] none told q = rewritten_is root rooted way is.depth is.nearest is.near none is.edits.0 made is.edits.1.1.0 (λ key. key) moment told q
      by_left (name ∷ more) some told q = absurd told

  pub stamped_gone : IsEdited (stamps moment) root way None → row (finite.from_sorted {R = path_order} root) (folded_path way) ≡ None
  stamped_gone is = by_left (drop is.depth way) refl is.edits
    where
      by_left : (left : List (List ℕ)) → drop is.depth way ≡ left → stamps moment is.nearest left None → row (finite.from_sorted {R = path_order} root) (folded_path way) ≡ None
      by_left [] none told = absurd told
      by_left (name ∷ more) some told = ap (row (finite.from_sorted {R = path_order} root)) (sym (append-nil (folded_path way))) ∙ part_of_way root rooted way is.depth is.nearest is.near name more some []
