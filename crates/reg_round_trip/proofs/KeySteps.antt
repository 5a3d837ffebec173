-- A key made below another one, and a value written, in a tree that operations make.
use Rattle.std.proofs.Common.{◌≡◌, ℕ, ◌+◌, ◌-◌, ◌<◌, ◌≤◌, Bool, true, false, cond, ◌&&◌, List, [], ◌∷◌, ◌++◌, length, take, Option, Some, None, Ok, IsSome, is_some, refl, sym, ◌∙◌, ap, subst, arith, append-nil}
use Rattle.std.specs.Prelude.{nat_lt, slice_index_or}
use Rattle.std.specs.Option.{option_map}
use Rattle.std.specs.Ordering.{eq_by_cmp}
use Rattle.std.specs.FinMap as finite
use Rattle.std.proofs.lemmas.List.{map-append, length-map, length-append}
use Rattle.std.proofs.lemmas.Bool.Decides.{nat_tests}
use Rattle.std.proofs.Math.Seq.{take-append_seam}
use Rattle.refusals.specs.declared.limits.TheConstants.{MOST_NEW_LEVELS}
use Rattle.reg_names.specs.Names.{folded, folded_path}
use Rattle.reg_tree_parts.specs.Orders.{path_order}
use Rattle.reg_tree_parts.specs.Rows.{Row, ValueMap}
use Rattle.reg_tree_parts.specs.NewRows.{new_row}
use Rattle.reg_tree_parts.specs.Nodes.{begins_path}
use Rattle.reg_tree.specs.Maps.{TreeMap, row, is_there, missing}
use Rattle.reg_tree.specs.Operations.{touched, depth_there, tree_after}
use Rattle.reg_tree.specs.Judgement.{judged, changed, changed_if}
use Rattle.reg_tree.specs.declared.op.Op.TheVariants.{CreateKey}
use Rattle.reg_tree.specs.declared.op.Legality.TheVariants.{Legal}
use Rattle.reg_tree.proofs.Paths.{eq_self, eq_is, shorter_apart, split_begins, begins-append, behind}
use Rattle.reg_tree.proofs.Depths.{beginning_there, levels_missing}
use Rattle.reg_tree.proofs.Changes.{created_is, one_more}
use Rattle.reg_tree.proofs.TreesAfter.{row-tree_after}
use Rattle.reg_tree.proofs.TreesStay.{changed_stays}
use Rattle.reg_round_trip.proofs.Units.{none_some, not_both}
use Rattle.reg_round_trip.proofs.MadeTrees.{Wanted, IsMade, IsBuilt}

-- what is wanted, with other content at one path
abbrev pub updated : Wanted → List (List ℕ) → List ℕ × ValueMap → Wanted
updated want at its path = cond (eq_by_cmp path_order path at) (Some its) (want path)

touched_made : (path : List (List ℕ)) (moment : ℕ) (o : Option Row) (want : Option (List ℕ × ValueMap)) → IsMade path o want → IsMade path (option_map (touched moment) o) want
touched_made path moment None None m = tt
touched_made path moment None (Some w) m = absurd m
touched_made path moment (Some key) None m = absurd m
touched_made path moment (Some key) (Some w) m = record { named = m.named; root = m.root; short = m.short; class = m.class; descriptor = m.descriptor; values = m.values }

-- a creation of one key
module _ (tree : TreeMap) (want : Wanted) (built : IsBuilt tree want) (hive : ℕ) (front : List (List ℕ)) (name : List ℕ) (key : Row) (above : row tree (folded_path front) ≡ Some key) (free : row tree (folded_path front ++ folded name ∷ []) ≡ None) where
  spelled : List (List ℕ)
  spelled = front ++ name ∷ []

  parent : List (List ℕ)
  parent = folded_path front

  path : List (List ℕ)
  path = folded_path front ++ folded name ∷ []

  is_path : folded_path (front ++ name ∷ []) ≡ path
  unfolding path
  is_path = map-append folded front (name ∷ [])

  parent_long : length (folded_path front) ≡ length front
  parent_long = length-map front folded

  path_long : length path ≡ length front + 1
  unfolding path
  path_long =
      let one = length-append (folded_path front) (folded name ∷ []) in
      let two = parent_long in
      omega (arith, one, two)

  -- nothing is at the path or below it
  nothing : (rest : List (List ℕ)) → row tree (path ++ rest) ≡ None
  unfolding path
  nothing rest = by_row (row tree (path ++ rest)) refl
    where
      by_row : (o : Option Row) → row tree (path ++ rest) ≡ o → row tree (path ++ rest) ≡ None
      by_row None e = e
      by_row (Some k) e = absurd (none_some (row tree path) free (beginning_there tree built.is_tree path rest (ap is_some e)))

  one_level : length (missing tree path) ≡ 1
  unfolding path
  one_level =
      let long = path_long in
      let front_taken : take (length front) path ≡ folded_path front = ap (λ n. take n path) (sym parent_long) ∙ take-append_seam (folded_path front) (folded name ∷ []) in
      let whole_taken : take (length front + 1) path ≡ path = ap (take (length front + 1)) (sym is_path) ∙ one_more front [] name (length front) refl in
      let there : IsSome (row tree (take (length front) path)) = ap is_some (ap (row tree) front_taken ∙ above) in
      let levels = levels_missing tree built.is_tree path (length front) (omega (arith, long)) there (λ deep rest. ap (λ p. row tree (p ++ rest)) whole_taken ∙ nothing rest) in
      omega (arith, levels, long)

  depth_is : length front ≡ depth_there tree (folded_path (front ++ name ∷ []))
  depth_is =
      let one = one_level in
      let long = path_long in
      let depth : depth_there tree (folded_path (front ++ name ∷ [])) ≡ length path - length (missing tree path) = ap (depth_there tree) is_path in
      omega (arith, one, long, depth)

  pub create_judged : judged tree (CreateKey hive (front ++ name ∷ [])) ≡ Ok Legal
  unfolding path
  create_judged =
      let there : is_there tree (folded_path (front ++ name ∷ [])) ≡ false = ap (is_there tree) is_path ∙ ap is_some free in
      let levels : length (missing tree (folded_path (front ++ name ∷ []))) ≡ 1 = ap (λ p. length (missing tree p)) is_path ∙ one_level in
      let few : nat_lt MOST_NEW_LEVELS (length (missing tree (folded_path (front ++ name ∷ [])))) ≡ false = ap (nat_lt MOST_NEW_LEVELS) levels in
      rw (there, few) refl

  -- the row at a path behind it
  new_at : ℕ → List (List ℕ) → Option Row
  new_at moment at =
      cond (eq_by_cmp path_order at (folded_path front)) (option_map (touched moment) (row tree at))
      (cond (begins_path at (folded_path front ++ folded name ∷ []) && nat_lt (length (folded_path front)) (length at)) (Some (new_row (slice_index_or (front ++ name ∷ []) (length at - 1) []) key.descriptor moment)) (row tree at))

  changed_at : (moment : ℕ) (at : List (List ℕ)) → row (changed tree (CreateKey hive (front ++ name ∷ [])) moment) at ≡ new_at moment at
  unfolding new_at
  changed_at moment at =
      ap (λ j. row (changed_if j (tree_after tree (CreateKey hive (front ++ name ∷ [])) moment) tree) at) create_judged
      ∙ row-tree_after tree (CreateKey hive (front ++ name ∷ [])) moment at ∙ sym (created_is tree (front ++ name ∷ []) front [] name (length front) key moment refl depth_is refl above at)

  -- the new key's own path is the only one that is new
  only_path : (at : List (List ℕ)) → begins_path at path ≡ true → nat_lt (length (folded_path front)) (length at) ≡ true → at ≡ path
  only_path at begins deep =
      let s = split_begins at path begins in
      let whole = ap length s.1 in
      let parts = length-append at s.0 in
      let long = path_long in
      let parent_is = parent_long in
      let far : length (folded_path front) < length at = grind (arith, nat_tests, deep) in
      let none : s.0 ≡ [] = no_more s.0 (omega (arith, whole, parts, long, parent_is, far)) in
      sym (s.1 ∙ ap (λ r. at ++ r) none ∙ append-nil at)
    where
      no_more : (r : List (List ℕ)) → length r ≡ 0 → r ≡ []
      no_more [] e = refl
      no_more (x ∷ r) e = absurd (omega (arith, e))

  descriptor_long : length key.descriptor ≡ 20
  descriptor_long = by_want (want (folded_path front)) (subst (λ o. IsMade (folded_path front) o (want (folded_path front))) above (built.made (folded_path front)))
    where
      by_want : (w : Option (List ℕ × ValueMap)) → IsMade (folded_path front) (Some key) w → length key.descriptor ≡ 20
      by_want None m = absurd m
      by_want (Some w) m = m.descriptor

  new_made : (moment : ℕ) (at : List (List ℕ)) → at ≡ path → IsMade at (Some (new_row (slice_index_or (front ++ name ∷ []) (length at - 1) []) key.descriptor moment)) (Some (name, finite.empty))
  new_made moment at e =
      let long = ap length e ∙ path_long in
      let last : length at - 1 ≡ length front + 0 = omega (arith, long) in
      let named : slice_index_or (front ++ name ∷ []) (length at - 1) [] ≡ name = ap (λ n. slice_index_or (front ++ name ∷ []) n []) last ∙ behind front (name ∷ []) 0 [] in
      record { named = λ deep. named; root = λ none. absurd (omega (arith, long, none)); short = subst (λ n. length n ≤ length name) (sym named) (omega arith); class = refl; descriptor = descriptor_long; values = refl }

  made_at : (moment : ℕ) (at : List (List ℕ)) → IsMade at (new_at moment at) (updated want path (name, finite.empty) at)
  unfolding new_at path
  made_at moment at = by_parent (eq_by_cmp path_order at (folded_path front)) refl
    where
      by_path : (begins deep : Bool) → begins_path at path ≡ begins → nat_lt (length (folded_path front)) (length at) ≡ deep → (same : Bool) → eq_by_cmp path_order at path ≡ same
          → IsMade at (cond (begins && deep) (Some (new_row (slice_index_or (front ++ name ∷ []) (length at - 1) []) key.descriptor moment)) (row tree at)) (cond same (Some (name, finite.empty)) (want at))
      by_path true true b d true s = new_made moment at (only_path at b d)
      by_path true true b d false s = absurd (not_both (eq_by_cmp path_order at path) (ap (λ p. eq_by_cmp path_order p path) (only_path at b d) ∙ eq_self path) s)
      by_path true false b d true s = absurd (not_deep d (ap length (eq_is at path s)))
        where
          not_deep : nat_lt (length (folded_path front)) (length at) ≡ false → length at ≡ length path → ⊥
          not_deep far same = let long = path_long in let parent_is = parent_long in let near : length at ≤ length (folded_path front) = grind (arith, nat_tests, far) in omega (arith, same, long, parent_is, near)
      by_path true false b d false s = built.made at
      by_path false deep b d true s = absurd (not_both (begins_path at path) (ap (λ p. begins_path p path) (eq_is at path s) ∙ self_begins) b)
        where
          self_begins : begins_path path path ≡ true
          self_begins = ap (begins_path path) (sym (append-nil path)) ∙ begins-append path []
      by_path false deep b d false s = built.made at

      by_parent : (t : Bool) → eq_by_cmp path_order at (folded_path front) ≡ t
          → IsMade at (cond t (option_map (touched moment) (row tree at)) (cond (begins_path at path && nat_lt (length (folded_path front)) (length at)) (Some (new_row (slice_index_or (front ++ name ∷ []) (length at - 1) []) key.descriptor moment)) (row tree at))) (updated want path (name, finite.empty) at)
      by_parent true t =
          let apart : eq_by_cmp path_order at path ≡ false = ap (λ p. eq_by_cmp path_order p path) (eq_is at (folded_path front) t) ∙ shorter_apart (folded_path front) (folded name) [] in
          subst (λ b. IsMade at (option_map (touched moment) (row tree at)) (cond b (Some (name, finite.empty)) (want at))) (sym apart) (touched_made at moment (row tree at) (want at) (built.made at))
      by_parent false t = by_path (begins_path at path) (nat_lt (length (folded_path front)) (length at)) refl refl (eq_by_cmp path_order at path) refl

  pub create_built : (moment : ℕ) → IsBuilt (changed tree (CreateKey hive (front ++ name ∷ [])) moment) (updated want (folded_path front ++ folded name ∷ []) (name, finite.empty))
  unfolding path
  create_built moment = record {
    is_tree = changed_stays tree built.is_tree (CreateKey hive (front ++ name ∷ [])) moment;
    made = λ at. subst (λ o. IsMade at o (updated want path (name, finite.empty) at)) (sym (changed_at moment at)) (made_at moment at);
  }
