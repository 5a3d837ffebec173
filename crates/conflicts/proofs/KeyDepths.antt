-- Which keys on the way along a path are there: those up to a depth.
use Rattle.std.proofs.Common.{◌≡◌, ℕ, zero, suc, ◌+◌, ◌-◌, ◌<◌, ◌≤◌, inl, inr, List, ◌++◌, length, take, drop, Option, Some, None, IsSome, is_some, refl, sym, ◌∙◌, ap, subst, arith, length-drop}
use Rattle.std.proofs.lemmas.Bool.{cases_lt}
use Rattle.std.proofs.lemmas.List.{take-append-drop, take-append-le, length-append}
use Rattle.std.proofs.Math.Seq.{take-append-add}
use mathlib.Core.Bool.{false≢true}
use Rattle.reg_tree_parts.specs.Rows.{Row}
use Rattle.reg_tree.specs.Maps.{TreeMap, row, missing, IsTree}
use Rattle.reg_tree.specs.Operations.{depth_there}
use Rattle.reg_tree.proofs.Depths.{beginning_there, levels_missing}

module _ (tree : TreeMap) (is : IsTree tree) where
  abbrev pub Deepest : List (List ℕ) → Type 0
  Deepest path = (d : ℕ) × (d ≤ length path) × IsSome (row tree (take d path)) × (d < length path → (rest : List (List ℕ)) → row tree (take (d + 1) path ++ rest) ≡ None)

  -- the last key on the way along a path that is there
  deepest_from : (path : List (List ℕ)) (k : ℕ) → k ≤ length path → (k < length path → (rest : List (List ℕ)) → row tree (take (k + 1) path ++ rest) ≡ None) → Deepest path
  deepest_from path zero within gone = (0, omega arith, is.root, gone)
  deepest_from path (suc k) within gone = by_case (deepest_from path k (omega arith)) (row tree (take (suc k) path)) refl
    where
      by_case : ((k < length path → (rest : List (List ℕ)) → row tree (take (k + 1) path ++ rest) ≡ None) → Deepest path) → (o : Option Row) → row tree (take (suc k) path) ≡ o → Deepest path
      by_case down (Some key) e = (suc k, within, ap is_some e, gone)
      by_case down None e = down (λ lt rest. none_past rest (row tree (take (k + 1) path ++ rest)) refl)
        where
          none_past : (rest : List (List ℕ)) (o : Option Row) → row tree (take (k + 1) path ++ rest) ≡ o → row tree (take (k + 1) path ++ rest) ≡ None
          none_past rest None e' = e'
          none_past rest (Some key) e' =
              let near : IsSome (row tree (take (k + 1) path)) = beginning_there tree is (take (k + 1) path) rest (ap is_some e') in
              let same : k + 1 ≡ suc k = omega arith in
              absurd (false≢true (sym (ap is_some (ap (λ n. row tree (take n path)) same ∙ e)) ∙ near))

  pub deepest : (path : List (List ℕ)) → Deepest path
  deepest path = deepest_from path (length path) (omega arith) (λ lt. absurd (omega arith))

  pub levels : (path : List (List ℕ)) → length (missing tree path) ≡ length path - (deepest path).0
  levels path = let found = deepest path in levels_missing tree is path found.0 found.1 found.2 found.3

  pub depth_is : (path : List (List ℕ)) → (deepest path).0 ≡ depth_there tree path
  depth_is path = let found : Deepest path = deepest path in let e : length (missing tree path) ≡ length path - found.0 = levels path in let w : found.0 ≤ length path = found.1 in omega (arith, e, w)

  -- past the last key on the way nothing is there
  pub gone_past : (q r : List (List ℕ)) → depth_there tree (q ++ r) < length q → row tree q ≡ None
  gone_past q r past =
      let found : Deepest (q ++ r) = deepest (q ++ r) in
      let at : found.0 ≡ depth_there tree (q ++ r) = depth_is (q ++ r) in
      let long : length (q ++ r) ≡ length q + length r = length-append q r in
      let lt : found.0 < length (q ++ r) = omega (arith, past, at, long) in
      let le : found.0 + 1 ≤ length q = omega (arith, past, at) in
      let front : take (found.0 + 1) (q ++ r) ++ drop (found.0 + 1) q ≡ q = ap (λ xs. xs ++ drop (found.0 + 1) q) (take-append-le (found.0 + 1) q r le) ∙ take-append-drop (found.0 + 1) q in
      ap (row tree) (sym front) ∙ found.3 lt (drop (found.0 + 1) q)

  -- up to it each key is there
  pub there_up_to : (q r : List (List ℕ)) → length q ≤ depth_there tree (q ++ r) → IsSome (row tree q)
  there_up_to q r le =
      let found : Deepest (q ++ r) = deepest (q ++ r) in
      let at : found.0 ≡ depth_there tree (q ++ r) = depth_is (q ++ r) in
      let k : length q + (found.0 - length q) ≡ found.0 = omega (arith, le, at) in
      beginning_there tree is q (take (found.0 - length q) r) (subst (λ x. IsSome (row tree x)) (ap (λ n. take n (q ++ r)) (sym k) ∙ take-append-add q r (found.0 - length q)) found.2)

  -- the last key itself
  pub home_is_there : (path : List (List ℕ)) → IsSome (row tree (take (depth_there tree path) path))
  home_is_there path = subst (λ n. IsSome (row tree (take n path))) (depth_is path) (deepest path).2

  pub past_home : (path : List (List ℕ)) → length (drop (depth_there tree path) path) ≤ length (missing tree path)
  past_home path = omega (arith, length-drop (depth_there tree path) path)

  -- if a beginning is there, no more levels are missing than names lead from it
  pub few_missing : (q r : List (List ℕ)) → IsSome (row tree q) → length (missing tree (q ++ r)) ≤ length r
  few_missing q r there = elim (cases_lt (depth_there tree (q ++ r)) (length q)) [
    | inl past ↦ absurd (false≢true (sym (ap is_some (gone_past q r past)) ∙ there))
    | inr le ↦
        let found : Deepest (q ++ r) = deepest (q ++ r) in
        let e : length (missing tree (q ++ r)) ≡ length (q ++ r) - found.0 = levels (q ++ r) in
        let at : found.0 ≡ depth_there tree (q ++ r) = depth_is (q ++ r) in
        omega (arith, e, at, le, length-append q r)
  ]
