-- The rows that a change of nodes leaves are those of the operation.
use Rattle.std.proofs.Common.{◌≡◌, ℕ, ◌+◌, ◌-◌, ◌<◌, Bool, true, false, ◌&&◌, cond, List, [], ◌∷◌, ◌++◌, length, take, map, Option, Some, None, IsSome, is_some, refl, sym, ◌∙◌, ap, subst, append_assoc, arith}
use Rattle.std.specs.Prelude.{nat_lt, slice_index_or}
use Rattle.std.specs.Ordering.{eq_by_cmp}
use Rattle.std.specs.Option.{option_map}
use Rattle.std.specs.List.{filter}
use Rattle.std.specs.FinMap as finite
use Rattle.std.specs.FinMap.{get-entries}
use Rattle.std.specs.FinMap.Entries.{find}
use Rattle.std.proofs.lemmas.List.{length-map, length-append, map-append}
use Rattle.std.proofs.Math.Seq.{take-append_seam, take-append-add}
use mathlib.Core.Bool.{false≢true}
use Rattle.reg_names.specs.Names.{folded, folded_path}
use Rattle.reg_tree_parts.specs.Orders.{path_order}
use Rattle.reg_tree_parts.specs.Rows.{Row}
use Rattle.reg_tree_parts.specs.NewRows.{new_row}
use Rattle.reg_tree_parts.specs.Nodes.{Entries, begins_path, one_below, names_below}
use Rattle.reg_tree.specs.Maps.{TreeMap, row, subkeys, IsTree}
use Rattle.reg_tree.specs.Operations.{touched, depth_there, descriptor_of, row_created, row_edited}
use Rattle.reg_tree.proofs.Depths.{beginning_there}
use Rattle.reg_tree.proofs.Paths.{eq_is, one_below-append}

-- one row replaced is the row of an edit
pub edited_is : (tree : TreeMap) (p : List (List ℕ)) (key new : Row) (edit : Row → Row) (moment : ℕ) → row tree p ≡ Some key → new ≡ touched moment (edit key) → (q : List (List ℕ))
    → cond (eq_by_cmp path_order q p) (Some new) (row tree q) ≡ row_edited edit tree p moment q
edited_is tree p key new edit moment there is q = by_case (eq_by_cmp path_order q p) refl
  where
    by_case : (b : Bool) → eq_by_cmp path_order q p ≡ b → cond b (Some new) (row tree q) ≡ cond b (option_map (λ k. touched moment (edit k)) (row tree q)) (row tree q)
    by_case true e = ap Some is ∙ sym (ap (option_map (λ k. touched moment (edit k))) (ap (row tree) (eq_is q p e) ∙ there))
    by_case false e = refl

-- a key one below another is among its subkeys
counted : (d : List (List ℕ)) (m : List ℕ) (es : Entries) → IsSome (find path_order (d ++ m ∷ []) es) → length (names_below d es) ≡ 0 → ⊥
counted d m [] there none = false≢true there
counted d m ((q, r) ∷ es) there none = by_case (counted d m es) (eq_by_cmp path_order (d ++ m ∷ []) q) refl there (one_below d q) refl none
  where
    by_case : (IsSome (find path_order (d ++ m ∷ []) es) → length (names_below d es) ≡ 0 → ⊥) → (b : Bool) → eq_by_cmp path_order (d ++ m ∷ []) q ≡ b → IsSome (cond b (Some r) (find path_order (d ++ m ∷ []) es)) → (c : Bool) → one_below d q ≡ c
        → length (map (λ e. let k : Row = e.1 in k.name) (cond c ((q, r) ∷ filter (λ e. one_below d e.0) es) (filter (λ e. one_below d e.0) es))) ≡ 0 → ⊥
    by_case rest b e there true o none = absurd cc
    by_case rest true e there false o none = false≢true (sym o ∙ ap (one_below d) (sym (eq_is (d ++ m ∷ []) q e)) ∙ one_below-append d m)
    by_case rest false e there false o none = rest there none

-- below a key without subkeys there is nothing
pub nothing_below : (tree : TreeMap) → IsTree tree → (d : List (List ℕ)) → length (subkeys tree d) ≡ 0 → (m : List ℕ) (r : List (List ℕ)) → row tree (d ++ m ∷ r) ≡ None
nothing_below tree is d none m r = by_case (row tree (d ++ m ∷ r)) refl
  where
    by_case : (o : Option Row) → row tree (d ++ m ∷ r) ≡ o → row tree (d ++ m ∷ r) ≡ None
    by_case None e = e
    by_case (Some key) e =
        let near : IsSome (row tree (d ++ m ∷ [])) = beginning_there tree is (d ++ m ∷ []) r (ap is_some (ap (row tree) (append_assoc d (m ∷ []) r) ∙ e)) in
        absurd (counted d m (finite.entries tree) (subst IsSome (get-entries tree (d ++ m ∷ [])) near) none)

-- a branch put below the last key that is there leaves the rows of a creation
pub created_is : (tree : TreeMap) (spelled front further : List (List ℕ)) (name : List ℕ) (d : ℕ) (key : Row) (moment : ℕ) → spelled ≡ front ++ name ∷ further → d ≡ depth_there tree (folded_path spelled) → length front ≡ d → row tree (folded_path front) ≡ Some key → (q : List (List ℕ))
    → cond (eq_by_cmp path_order q (folded_path front)) (option_map (touched moment) (row tree q)) (cond (begins_path q (folded_path front ++ folded name ∷ folded_path further) && nat_lt (length (folded_path front)) (length q)) (Some (new_row (slice_index_or (front ++ name ∷ further) (length q - 1) []) key.descriptor moment)) (row tree q))
    ≡ row_created tree spelled moment q
created_is tree spelled front further name d key moment is depth long there q = λ i. put (touched_path i) (whole i) (deep i) (is_spelled i) (bytes i)
  where
    put : List (List ℕ) → List (List ℕ) → ℕ → List (List ℕ) → List ℕ → Option Row
    put touched_path whole deep spelled bytes = cond (eq_by_cmp path_order q touched_path) (option_map (touched moment) (row tree q)) (cond (begins_path q whole && nat_lt deep (length q)) (Some (new_row (slice_index_or spelled (length q - 1) []) bytes moment)) (row tree q))

    is_spelled : front ++ name ∷ further ≡ spelled
    is_spelled = sym is

    whole : folded_path front ++ folded name ∷ folded_path further ≡ folded_path spelled
    whole = sym (ap folded_path is ∙ map-append folded front (name ∷ further))

    deep : length (folded_path front) ≡ depth_there tree (folded_path spelled)
    deep = length-map front folded ∙ long ∙ depth

    touched_path : folded_path front ≡ take (depth_there tree (folded_path spelled)) (folded_path spelled)
    touched_path = sym (ap (λ n. take n (folded_path spelled)) (sym deep) ∙ ap (take (length (folded_path front))) (sym whole) ∙ take-append_seam (folded_path front) (folded name ∷ folded_path further))

    bytes : key.descriptor ≡ descriptor_of (row tree (take (depth_there tree (folded_path spelled)) (folded_path spelled)))
    bytes = sym (ap descriptor_of (ap (row tree) (sym touched_path) ∙ there))

-- one name more than a front
pub one_more : (front further : List (List ℕ)) (name : List ℕ) (d : ℕ) → length front ≡ d → take (d + 1) (folded_path (front ++ name ∷ further)) ≡ folded_path front ++ folded name ∷ []
one_more front further name d long =
    ap (λ n. take (n + 1) (folded_path (front ++ name ∷ further))) (sym (length-map front folded ∙ long))
    ∙ ap (take (length (folded_path front) + 1)) (map-append folded front (name ∷ further))
    ∙ take-append-add (folded_path front) (folded name ∷ folded_path further) 1

pub longer_path : (front further : List (List ℕ)) (name : List ℕ) (d : ℕ) → length front ≡ d → d < length (folded_path (front ++ name ∷ further))
longer_path front further name d long = omega (arith, long, length-map (front ++ name ∷ further) folded, length-append front (name ∷ further))
