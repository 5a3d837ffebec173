-- The tree that has a part of another one, with the keys on the way to it.
use Rattle.std.proofs.Common.{◌≡◌, ℕ, ◌≤◌, Bool, true, false, cond, ◌&&◌, List, [], ◌∷◌, ◌++◌, length, Option, Some, None, IsSome, refl, sym, ◌∙◌, ap, ap₂, subst, inl, inr, arith, append_assoc}
use Rattle.std.specs.Prelude.{◌⊎◌, nat_lt}
use Rattle.std.specs.Option.{option_map}
use Rattle.std.specs.Ordering.{eq_by_cmp}
use Rattle.std.specs.FinMap as finite
use Rattle.std.specs.FinMap.{contains_key-keys, get-empty}
use Rattle.std.proofs.lemmas.Bool.Decides.{nat_tests}
use Rattle.reg_names.specs.Names.{folded}
use Rattle.reg_tree_parts.specs.declared.value.Value.{Value}
use Rattle.reg_tree_parts.specs.Orders.{name_order}
use Rattle.reg_tree_parts.specs.Rows.{Row}
use Rattle.reg_tree_parts.specs.Nodes.{begins_path}
use Rattle.reg_tree_parts.specs.Weights.{value_weight}
use Rattle.reg_tree.specs.Maps.{TreeMap, row, IsTree}
use Rattle.reg_tree.specs.Operations.{tree_of}
use Rattle.reg_tree.proofs.Paths.{begins-append, split_begins, longer_begins}
use Rattle.reg_tree.proofs.Sums.{of_option}
use Rattle.reg_tree.proofs.TreesAfter.{row-tree_of}
use Rattle.reg_round_trip.specs.NewTrees.{made_weight, IsCallKey, IsCallTree}
use Rattle.reg_round_trip.specs.Parts.{emptied, part_row}
use Rattle.reg_round_trip.proofs.Units.{none_some, not_both}
use Rattle.reg_round_trip.proofs.MadeWeights.{fewer_values, lighter_tree}

-- of two beginnings of a path, the shorter one begins the other
pub shorter_begins : (path more top : List (List ℕ)) → begins_path top (path ++ more) ≡ true → length top ≤ length path → begins_path top path ≡ true
shorter_begins path more [] on le = refl
shorter_begins [] more (t ∷ top) on le = absurd (omega (arith, le))
shorter_begins (p ∷ path) more (t ∷ top) on le = both (eq_by_cmp name_order p t) on (λ rest. shorter_begins path more top rest (omega (arith, le)))
  where
    both : (b : Bool) → (b && begins_path top (path ++ more)) ≡ true → (begins_path top (path ++ more) ≡ true → begins_path top path ≡ true) → (b && begins_path top path) ≡ true
    both true e h = h e
    both false e h = e

module _ (tree : TreeMap) (is_tree : IsTree tree) (top : List (List ℕ)) where
  pub part : TreeMap
  part = tree_of (part_row tree top) (finite.keys tree)

  some_of : (path : List (List ℕ)) → IsSome (part_row tree top path) → IsSome (row tree path)
  some_of path = by_tests (begins_path top path) (begins_path path top) (row tree path)
    where
      by_tests : (a b : Bool) (o : Option Row) → IsSome (cond a o (cond b (option_map emptied o) None)) → IsSome o
      by_tests true b o s = s
      by_tests false true None s = s
      by_tests false true (Some key) s = refl
      by_tests false false o s = absurd (none_some {A = Row} None refl s)

  pub row_part : (path : List (List ℕ)) → row part path ≡ part_row tree top path
  unfolding part
  row_part path = row-tree_of (part_row tree top) (finite.keys tree) path (λ some. sym (contains_key-keys tree path) ∙ some_of path some)

  pub row_inside : (path : List (List ℕ)) → begins_path top path ≡ true → row part path ≡ row tree path
  row_inside path on = row_part path ∙ ap (λ b. cond b (row tree path) (cond (begins_path path top) (option_map emptied (row tree path)) None)) on

  pub row_above : (path : List (List ℕ)) → begins_path top path ≡ false → begins_path path top ≡ true → row part path ≡ option_map emptied (row tree path)
  row_above path off on = row_part path ∙ ap₂ (λ a b. cond a (row tree path) (cond b (option_map emptied (row tree path)) None)) off on

  pub row_outside : (path : List (List ℕ)) → begins_path top path ≡ false → begins_path path top ≡ false → row part path ≡ None
  row_outside path off none = row_part path ∙ ap₂ (λ a b. cond a (row tree path) (cond b (option_map emptied (row tree path)) None)) off none

  -- a row is one of the tree, or such a one without values
  pub data IsFrom (path : List (List ℕ)) (key : Row) : Type 0 where
    whole : row tree path ≡ Some key → IsFrom path key
    bare : (was : Row) → row tree path ≡ Some was → key ≡ emptied was → IsFrom path key

  pub from_tree : (path : List (List ℕ)) (key : Row) → row part path ≡ Some key → IsFrom path key
  from_tree path key e = by_tests (begins_path top path) (begins_path path top) (row tree path) refl (sym (row_part path) ∙ e)
    where
      same_of : (was : Row) → Some (emptied was) ≡ Some key → key ≡ emptied was
      same_of was p = cc

      by_tests : (a b : Bool) (o : Option Row) → row tree path ≡ o → cond a o (cond b (option_map emptied o) None) ≡ Some key → IsFrom path key
      by_tests true b o r p = whole (r ∙ p)
      by_tests false true None r p = cc
      by_tests false true (Some was) r p = bare was r (same_of was p)
      by_tests false false o r p = cc

  -- and each key of the tree on the way or inside gives one
  pub gives : (path : List (List ℕ)) → (begins_path top path ≡ true) ⊎ (begins_path path top ≡ true) → IsSome (row tree path) → IsSome (row part path)
  gives path on some = subst IsSome (sym (row_part path)) (by_tests (begins_path top path) (begins_path path top) refl refl (row tree path) some)
    where
      by_tests : (a b : Bool) → begins_path top path ≡ a → begins_path path top ≡ b → (o : Option Row) → IsSome o → IsSome (cond a o (cond b (option_map emptied o) None))
      by_tests true b x y o s = s
      by_tests false true x y None s = absurd (none_some {A = Row} None refl s)
      by_tests false true x y (Some key) s = refl
      by_tests false false x y o s = absurd (elim on [ inl i ↦ not_both (begins_path top path) i x | inr a ↦ not_both (begins_path path top) a y ])

  parent_on : (path : List (List ℕ)) (name : List ℕ) → IsSome (row part (path ++ name ∷ [])) → (begins_path top path ≡ true) ⊎ (begins_path path top ≡ true)
  parent_on path name some = by_tests (begins_path top (path ++ name ∷ [])) (begins_path (path ++ name ∷ []) top) refl refl (subst IsSome (row_part (path ++ name ∷ [])) some)
    where
      inside : begins_path top (path ++ name ∷ []) ≡ true → (begins_path top path ≡ true) ⊎ (begins_path path top ≡ true)
      inside on = by_length (nat_lt (length path) (length top)) refl
        where
          by_length : (t : Bool) → nat_lt (length path) (length top) ≡ t → (begins_path top path ≡ true) ⊎ (begins_path path top ≡ true)
          by_length true t = inr (longer_begins path (name ∷ []) top on t)
          by_length false t = inl (shorter_begins path (name ∷ []) top on (grind (arith, nat_tests, t)))

      above : begins_path (path ++ name ∷ []) top ≡ true → begins_path path top ≡ true
      above on =
          let s = split_begins (path ++ name ∷ []) top on in
          ap (begins_path path) (s.1 ∙ append_assoc path (name ∷ []) s.0) ∙ begins-append path (name ∷ s.0)

      by_tests : (a b : Bool) → begins_path top (path ++ name ∷ []) ≡ a → begins_path (path ++ name ∷ []) top ≡ b → IsSome (cond a (row tree (path ++ name ∷ [])) (cond b (option_map emptied (row tree (path ++ name ∷ []))) None)) → (begins_path top path ≡ true) ⊎ (begins_path path top ≡ true)
      by_tests true b x y s = inside x
      by_tests false true x y s = inr (above y)
      by_tests false false x y s = absurd (none_some {A = Row} None refl s)

  pub part_is_tree : IsTree part
  part_is_tree = record {
    root = gives [] (inr refl) is_tree.root;
    parents = λ path name some. gives path (parent_on path name some) (is_tree.parents path name (some_of (path ++ name ∷ []) (subst IsSome (row_part (path ++ name ∷ [])) some)));
    named = λ path name key there. elim (from_tree (path ++ name ∷ []) key there) [
      | whole r ↦ is_tree.named path name key r
      | bare was r e ↦ ap (λ (k : Row). folded k.name) e ∙ is_tree.named path name was r
    ];
  }

-- a part weighs no more, and calls may make it too
pub part_call : (tree : TreeMap) (call : IsCallTree tree) (top : List (List ℕ)) → IsCallTree (part tree call.is_tree top)
part_call tree call top = record {
  is_tree = part_is_tree tree call.is_tree top;
  keys = λ path key there. elim (from_tree tree call.is_tree top path key there) [
    | whole r ↦ call.keys path key r
    | bare was r e ↦ bare_key path key was (call.keys path was r) e
  ];
  light = let less = lighter_tree (part tree call.is_tree top) tree lighter in let light = call.light in omega (arith, less, light);
}
  where
    no_value : (name : List ℕ) (value : Value) → finite.get (finite.empty {R = name_order}) name ≡ Some value → ⊥
    no_value name value e = none_of (sym (get-empty name_order name) ∙ e)
      where
        none_of : ◌≡◌ {A = Option Value} None (Some value) → ⊥
        none_of p = cc

    bare_key : (path : List (List ℕ)) (key was : Row) → IsCallKey path was → key ≡ emptied was → IsCallKey path key
    bare_key path key was its e = subst (IsCallKey path) (sym e) (record { shallow = its.shallow; named = its.named; values = λ name value got. absurd (no_value name value got) })

    bare_weight : (path : List (List ℕ)) (was : Row) → made_weight path (emptied was) ≤ made_weight path was
    bare_weight [] was = let less = fewer_values finite.empty was.values (λ name. let none = ap (of_option value_weight) (get-empty name_order name) in omega (arith, none)) in omega (arith, less)
    bare_weight (n ∷ path) was = let less = fewer_values finite.empty was.values (λ name. let none = ap (of_option value_weight) (get-empty name_order name) in omega (arith, none)) in omega (arith, less)

    lighter : (path : List (List ℕ)) → of_option (made_weight path) (row (part tree call.is_tree top) path) ≤ of_option (made_weight path) (row tree path)
    lighter path = by_row (row (part tree call.is_tree top) path) refl
      where
        by_row : (o : Option Row) → row (part tree call.is_tree top) path ≡ o → of_option (made_weight path) o ≤ of_option (made_weight path) (row tree path)
        by_row None e = omega arith
        by_row (Some key) e = elim (from_tree tree call.is_tree top path key e) [
          | whole r ↦ let same = ap (of_option (made_weight path)) r in omega (arith, same)
          | bare was r p ↦ let same = ap (of_option (made_weight path)) r in let one = ap (made_weight path) p in let less = bare_weight path was in omega (arith, same, one, less)
        ]
