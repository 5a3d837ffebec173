-- Two operations whose claims do not conflict may be carried out in either order, each at its own moment. But for which
-- of them writes a key last, they make the same of a tree.
use Rattle.std.proofs.Common.{◌≡◌, inl, inr, ℕ, ◌+◌, ◌<◌, ◌≤◌, Bool, true, false, ◌&&◌, cond, List, [], ◌∷◌, ◌++◌, length, take, drop, Some, None, IsSome, is_some, Ok, refl, sym, ◌∙◌, ap, subst, arith, append-nil, append_assoc}
use Rattle.std.specs.Prelude.{nat_lt, ⊤}
use Rattle.std.specs.Ordering.{eq_by_cmp}
use Rattle.std.proofs.lemmas.Bool.{cases_lt, true≢false}
use Rattle.std.proofs.lemmas.List.{take-append-drop, length-take-le}
use Rattle.reg_names.specs.Names.{folded_path}
use Rattle.reg_tree_parts.specs.Orders.{path_order}
use Rattle.reg_tree_parts.specs.Rows.{Row}
use Rattle.reg_tree_parts.specs.Nodes.{begins_path}
use Rattle.reg_tree.specs.Maps.{TreeMap, row, IsTree}
use Rattle.reg_tree.specs.Operations.{depth_there, descriptor_of, tree_after, hive_of}
use Rattle.reg_tree.specs.Judgement.{judged}
use Rattle.reg_tree.specs.declared.op.Op.{Op}
use Rattle.reg_tree.specs.declared.op.Op.TheVariants.{CreateKey, DeleteKey, SetValue, DeleteValue}
use Rattle.reg_tree.specs.declared.op.Legality.TheVariants.{Legal}
use Rattle.reg_tree.proofs.Paths.{eq_is, split_begins, split_below, begins-append}
use Rattle.reg_tree.proofs.TreesAfter.{row-tree_after}
use Rattle.reg_tree.proofs.Depths.{levels_missing}
use Rattle.conflicts.specs.Skeleton as law
use Rattle.conflicts.proofs.Tests.{never, split, conflict_sym}
use Rattle.conflicts.specs.Claims.{key_at, claim_of}
use Rattle.conflicts.proofs.KeyDepths.{Deepest, deepest, depth_is, gone_past, there_up_to, home_is_there}
use Rattle.conflicts.proofs.OnSkeletons.{key_of_there}
use Rattle.conflicts.proofs.RowsAfter.{at_home, fresh, created_there}
use Rattle.conflicts.proofs.Effects.{Deed, deed, its, depth_of, home_descriptor, row_done, done, FitsRow, AreTwo, removes, makes, descriptor_stays, there_stays, gone_stays, Orders, either_done}

-- What an operation that may be carried out does to a tree

two_of : (b c : Bool) → (b && c) ≡ true → (b ≡ true) × (c ≡ true)
two_of true c h = (refl, h)
two_of false c h = never h

-- a key that a value is written to, or that is deleted, is there, and so is its parent
at_key : (tree : TreeMap) (p : List (List ℕ)) (q : List (List ℕ)) (key : Row) → row tree p ≡ Some key → eq_by_cmp path_order q p ≡ true → IsSome (row tree q)
at_key tree p q key there e = ap is_some (ap (row tree) (eq_is q p e) ∙ there)

pub fits : (tree : TreeMap) (is : IsTree tree) (op : Op) → judged tree op ≡ Ok Legal → (q : List (List ℕ)) → FitsRow (its tree op q) (row tree q)
fits tree is (CreateKey hive spelled) legal q = (at_home tree is spelled 0 q, λ new. let parts = two_of (begins_path q (folded_path spelled)) (nat_lt (depth_there tree (folded_path spelled)) (length q)) new in fresh tree is spelled 0 q parts.0 parts.1)
fits tree is (DeleteKey hive []) legal q = cc
fits tree is (DeleteKey hive (name ∷ path)) legal q =
    let known = key_of_there _ (row tree (folded_path (name ∷ path))) legal in (
      at_key tree (folded_path (name ∷ path)) q known.0 known.1,
      λ below. let parts = split_below q (folded_path (name ∷ path)) below in is.parents q parts.0 (ap is_some (ap (row tree) (sym parts.1) ∙ known.1)),
    )
fits tree is (SetValue hive path name kind bytes) legal q = let known = key_of_there _ (row tree (folded_path path)) legal in at_key tree (folded_path path) q known.0 known.1
fits tree is (DeleteValue hive path name) legal q = let known = key_of_there _ (row tree (folded_path path)) legal in at_key tree (folded_path path) q known.0 known.1

-- Claims that do not conflict

abbrev pub NoConflict : Op → Op → Type 0
NoConflict a b = law.Conflict (claim_of a) (claim_of b) → ⊥

-- what does not conflict with a creation removes nothing on its way
keeps : (a : Op) (hive : ℕ) (spelled : List (List ℕ)) → hive_of a ≡ hive → NoConflict a (CreateKey hive spelled) → (depth : ℕ) (descriptor : List ℕ) (q r : List (List ℕ)) → folded_path spelled ≡ q ++ r → removes (deed a depth descriptor q) ≡ true → ⊥
keeps (CreateKey h p) hive spelled e apart depth descriptor q r on gone = never gone
keeps (DeleteKey h p) hive spelled e apart depth descriptor q r on gone =
    apart (elim (split (key_at h p) (key_at hive spelled) e r (on ∙ ap (λ x. x ++ r) (eq_is q (folded_path p) gone))) [
      | inl same ↦ inl same
      | inr below ↦ inr (inl (refl, below))
    ])
keeps (SetValue h p name kind bytes) hive spelled e apart depth descriptor q r on gone = never gone
keeps (DeleteValue h p name) hive spelled e apart depth descriptor q r on gone = never gone

-- How far a way leads

depth_by : (tree : TreeMap) → IsTree tree → (path : List (List ℕ)) (d : ℕ) → d ≤ length path → IsSome (row tree (take d path)) → (d < length path → (rest : List (List ℕ)) → row tree (take (d + 1) path ++ rest) ≡ None) → depth_there tree path ≡ d
depth_by tree is path d within touched_path gone = omega (arith, levels_missing tree is path d within touched_path gone)

depth_within : (tree : TreeMap) (path : List (List ℕ)) → depth_there tree path ≤ length path
depth_within tree path = omega arith

-- nothing is there past the end of a way
past_end : (tree : TreeMap) → IsTree tree → (path : List (List ℕ)) → depth_there tree path < length path → (rest : List (List ℕ)) → row tree (take (depth_there tree path + 1) path ++ rest) ≡ None
past_end tree is path lt rest =
    let found : Deepest tree is path = deepest tree is path in
    let e : found.0 ≡ depth_there tree path = depth_is tree is path in
    subst (λ d. d < length path → (rest : List (List ℕ)) → row tree (take (d + 1) path ++ rest) ≡ None) e found.3 lt rest

module _ (tree : TreeMap) (is : IsTree tree) (m : ℕ) (a : Op) (legal : judged tree a ≡ Ok Legal) (after_is : IsTree (tree_after tree a m)) (hive : ℕ) (spelled : List (List ℕ)) (here : hive_of a ≡ hive) (apart : NoConflict a (CreateKey hive spelled)) where
  abbrev path : List (List ℕ)
  path = folded_path spelled

  abbrev depth : ℕ
  depth = depth_there tree path

  -- the last key on the way of the creation stays there
  home_stays : IsSome (row (tree_after tree a m) (take depth path))
  home_stays = subst IsSome (sym (row_done tree a m (take depth path)))
      (there_stays m (its tree a (take depth path)) (row tree (take depth path)) (home_is_there tree is path) (fits tree is a legal (take depth path))
      (keeps a hive spelled here apart (depth_of tree a) (home_descriptor tree a) (take depth path) (drop depth path) (sym (take-append-drop depth path))))

  -- so its way is no shorter
  pub no_shorter : depth ≤ depth_there (tree_after tree a m) path
  no_shorter = elim (cases_lt (depth_there (tree_after tree a m) path) depth) [
    | inl lt ↦
        let long : length (take depth path) ≡ depth = length-take-le depth path (depth_within tree path) in
        let less : depth_there (tree_after tree a m) (take depth path ++ drop depth path) < length (take depth path) = subst (λ p. depth_there (tree_after tree a m) p < length (take depth path)) (sym (take-append-drop depth path)) (omega (arith, lt, long)) in
        absurd (true≢false (sym home_stays ∙ ap is_some (gone_past (tree_after tree a m) after_is (take depth path) (drop depth path) less)))
    | inr ge ↦ ge
  ]

  -- and as long, if nothing is made past its end
  pub as_long : (depth < length path → (rest : List (List ℕ)) → makes (its tree a (take (depth + 1) path ++ rest)) ≡ true → ⊥) → depth_there (tree_after tree a m) path ≡ depth
  as_long unmade = depth_by (tree_after tree a m) after_is path depth (depth_within tree path) home_stays
      (λ lt rest. row_done tree a m (take (depth + 1) path ++ rest) ∙ gone_stays m (its tree a (take (depth + 1) path ++ rest)) (row tree (take (depth + 1) path ++ rest)) (past_end tree is path lt rest) (fits tree is a legal (take (depth + 1) path ++ rest)) (unmade lt rest))

  -- what the creation does is then the same
  same_home : depth_there (tree_after tree a m) path ≡ depth → descriptor_of (row (tree_after tree a m) (take (depth_there (tree_after tree a m) path) path)) ≡ descriptor_of (row tree (take depth path))
  same_home e =
      ap (λ d. descriptor_of (row (tree_after tree a m) (take d path))) e
      ∙ ap descriptor_of (row_done tree a m (take depth path))
      ∙ descriptor_stays m (its tree a (take depth path)) (row tree (take depth path)) (home_is_there tree is path) (fits tree is a legal (take depth path))
      (keeps a hive spelled here apart (depth_of tree a) (home_descriptor tree a) (take depth path) (drop depth path) (sym (take-append-drop depth path)))

  pub same_creation : depth_there (tree_after tree a m) path ≡ depth → (q : List (List ℕ)) → its (tree_after tree a m) (CreateKey hive spelled) q ≡ its tree (CreateKey hive spelled) q
  same_creation e q = λ i. deed (CreateKey hive spelled) (e i) (same_home e i) q

-- Two operations on one tree

-- if one creation makes as many levels after another as before it, so does the other
module _ (tree : TreeMap) (is : IsTree tree) (m : ℕ) (h : ℕ) (p : List (List ℕ)) (k : ℕ) (s : List (List ℕ)) (after_a : IsTree (tree_after tree (CreateKey h p) m))
    (alike : depth_there (tree_after tree (CreateKey h p) m) (folded_path s) ≡ depth_there tree (folded_path s)) where
  -- what both would make is there
  met : (q r r' : List (List ℕ)) → folded_path p ≡ q ++ r → folded_path s ≡ q ++ r' → IsSome (row tree q)
  met q r r' on on' =
      let made_there : IsSome (row (tree_after tree (CreateKey h p) m) q) =
      ap is_some (row-tree_after tree (CreateKey h p) m q) ∙ created_there tree is p m q ∙ ap (λ b. cond b true (is_some (row tree q))) (subst (λ x. begins_path q x ≡ true) (sym on) (begins-append q r)) in
      elim (cases_lt (depth_there tree (q ++ r')) (length q)) [
        | inl lt ↦
            let e : depth_there (tree_after tree (CreateKey h p) m) (q ++ r') ≡ depth_there tree (q ++ r') = subst (λ x. depth_there (tree_after tree (CreateKey h p) m) x ≡ depth_there tree x) on' alike in
            absurd (true≢false (sym made_there ∙ ap is_some (gone_past (tree_after tree (CreateKey h p) m) after_a q r' (omega (arith, lt, e)))))
        | inr ge ↦ there_up_to tree is q r' ge
      ]

  -- so they make no key both
  not_both : (q : List (List ℕ)) → makes (its tree (CreateKey h p) q) ≡ true → makes (its tree (CreateKey k s) q) ≡ true → ⊥
  not_both q one other =
      let a = two_of (begins_path q (folded_path p)) (nat_lt (depth_there tree (folded_path p)) (length q)) one in
      let b = two_of (begins_path q (folded_path s)) (nat_lt (depth_there tree (folded_path s)) (length q)) other in
      let on = split_begins q (folded_path p) a.0 in
      let on' = split_begins q (folded_path s) b.0 in
      true≢false (sym (met q on.0 on'.0 on.1 on'.1) ∙ ap is_some (fresh tree is p m q a.0 a.1))

  -- and the first makes as many after the second
  unmade : depth_there tree (folded_path p) < length (folded_path p) → (rest : List (List ℕ)) → makes (its tree (CreateKey k s) (take (depth_there tree (folded_path p) + 1) (folded_path p) ++ rest)) ≡ true → ⊥
  unmade lt rest new =
      let q : List (List ℕ) = take (depth_there tree (folded_path p) + 1) (folded_path p) in
      let b = two_of (begins_path (q ++ rest) (folded_path s)) (nat_lt (depth_there tree (folded_path s)) (length (q ++ rest))) new in
      let on' = split_begins (q ++ rest) (folded_path s) b.0 in
      let there : IsSome (row tree q) = met q (drop (depth_there tree (folded_path p) + 1) (folded_path p)) (rest ++ on'.0) (sym (take-append-drop (depth_there tree (folded_path p) + 1) (folded_path p))) (on'.1 ∙ append_assoc q rest on'.0) in
      true≢false (sym there ∙ ap is_some (subst (λ x. row tree x ≡ None) (append-nil q) (past_end tree is (folded_path p) lt [])))

-- a creation makes as many levels after another operation as before it; no other operation makes any
abbrev pub StaysAsLong : Op → TreeMap → TreeMap → Type 0
StaysAsLong (CreateKey hive spelled) tree after = depth_there after (folded_path spelled) ≡ depth_there tree (folded_path spelled)
StaysAsLong (DeleteKey hive spelled) tree after = ⊤
StaysAsLong (SetValue hive spelled name kind bytes) tree after = ⊤
StaysAsLong (DeleteValue hive spelled name) tree after = ⊤

pub conflict_back : (a b : Op) → NoConflict a b → NoConflict b a
conflict_back a b apart c = apart (conflict_sym (claim_of b) (claim_of a) c)

-- what changes one key's values is apart from what changes another's
edits_apart : (k l : law.Key) → k.hive ≡ l.hive → (law.Conflict (record { kind = law.Hold; key = k }) (record { kind = law.Hold; key = l }) → ⊥) → (q : List (List ℕ)) → eq_by_cmp path_order q k.path ≡ true → eq_by_cmp path_order q l.path ≡ true → ⊥
edits_apart k l e apart q here there = apart (inl (e, sym (eq_is q k.path here) ∙ eq_is q l.path there))

-- an operation that stays as long does the same
pub same_deed : (tree : TreeMap) (is : IsTree tree) (m : ℕ) (a : Op) → judged tree a ≡ Ok Legal → IsTree (tree_after tree a m) → (b : Op) → hive_of a ≡ hive_of b → NoConflict a b → StaysAsLong b tree (tree_after tree a m) → (q : List (List ℕ))
    → its (tree_after tree a m) b q ≡ its tree b q
same_deed tree is m a legal after_a (CreateKey k s) e apart alike q = same_creation tree is m a legal after_a k s e apart alike q
same_deed tree is m a legal after_a (DeleteKey k s) e apart alike q = refl
same_deed tree is m a legal after_a (SetValue k s name kind bytes) e apart alike q = refl
same_deed tree is m a legal after_a (DeleteValue k s name) e apart alike q = refl

module _ (tree : TreeMap) (is : IsTree tree) (m n : ℕ) (a b : Op) (e : hive_of a ≡ hive_of b) (apart : NoConflict a b) (legal_a : judged tree a ≡ Ok Legal) (legal_b : judged tree b ≡ Ok Legal)
    (after_a : IsTree (tree_after tree a m)) (after_b : IsTree (tree_after tree b n)) (alike : StaysAsLong b tree (tree_after tree a m)) where
  -- the first after the second, if the second after the first is as long as on the tree
  as_long_back : StaysAsLong a tree (tree_after tree b n)
  as_long_back = by_case a b e apart legal_b after_a after_b alike
    where
      by_case : (a b : Op) → hive_of a ≡ hive_of b → NoConflict a b → judged tree b ≡ Ok Legal → IsTree (tree_after tree a m) → IsTree (tree_after tree b n) → StaysAsLong b tree (tree_after tree a m) → StaysAsLong a tree (tree_after tree b n)
      by_case (CreateKey h p) (CreateKey k s) e apart legal after_a after_b alike =
          as_long tree is n (CreateKey k s) legal after_b h p (sym e) (conflict_back (CreateKey h p) (CreateKey k s) apart) (unmade tree is m h p k s after_a alike)
      by_case (CreateKey h p) (DeleteKey k s) e apart legal after_a after_b alike = as_long tree is n (DeleteKey k s) legal after_b h p (sym e) (conflict_back (CreateKey h p) (DeleteKey k s) apart) (λ lt rest. never)
      by_case (CreateKey h p) (SetValue k s name kind bytes) e apart legal after_a after_b alike = as_long tree is n (SetValue k s name kind bytes) legal after_b h p (sym e) (conflict_back (CreateKey h p) (SetValue k s name kind bytes) apart) (λ lt rest. never)
      by_case (CreateKey h p) (DeleteValue k s name) e apart legal after_a after_b alike = as_long tree is n (DeleteValue k s name) legal after_b h p (sym e) (conflict_back (CreateKey h p) (DeleteValue k s name) apart) (λ lt rest. never)
      by_case (DeleteKey h p) b e apart legal after_a after_b alike = tt
      by_case (SetValue h p name kind bytes) b e apart legal after_a after_b alike = tt
      by_case (DeleteValue h p name) b e apart legal after_a after_b alike = tt

  are_two : (q : List (List ℕ)) → AreTwo (its tree a q) (its tree b q)
  are_two q = by_case a b e apart after_a alike
    where
      by_case : (a b : Op) → hive_of a ≡ hive_of b → NoConflict a b → IsTree (tree_after tree a m) → StaysAsLong b tree (tree_after tree a m) → AreTwo (its tree a q) (its tree b q)
      by_case (CreateKey h p) (CreateKey k s) e apart after_a alike = not_both tree is m h p k s after_a alike q
      by_case (CreateKey h p) (DeleteKey k s) e apart after_a alike = tt
      by_case (CreateKey h p) (SetValue k s name kind bytes) e apart after_a alike = tt
      by_case (CreateKey h p) (DeleteValue k s name) e apart after_a alike = tt
      by_case (DeleteKey h p) (CreateKey k s) e apart after_a alike = tt
      by_case (DeleteKey h p) (DeleteKey k s) e apart after_a alike = tt
      by_case (DeleteKey h p) (SetValue k s name kind bytes) e apart after_a alike = tt
      by_case (DeleteKey h p) (DeleteValue k s name) e apart after_a alike = tt
      by_case (SetValue h p name kind bytes) (CreateKey k s) e apart after_a alike = tt
      by_case (SetValue h p name kind bytes) (DeleteKey k s) e apart after_a alike = tt
      by_case (SetValue h p name kind bytes) (SetValue k s other sort data_) e apart after_a alike = edits_apart (key_at h p) (key_at k s) e apart q
      by_case (SetValue h p name kind bytes) (DeleteValue k s other) e apart after_a alike = edits_apart (key_at h p) (key_at k s) e apart q
      by_case (DeleteValue h p name) (CreateKey k s) e apart after_a alike = tt
      by_case (DeleteValue h p name) (DeleteKey k s) e apart after_a alike = tt
      by_case (DeleteValue h p name) (SetValue k s other sort data_) e apart after_a alike = edits_apart (key_at h p) (key_at k s) e apart q
      by_case (DeleteValue h p name) (DeleteValue k s other) e apart after_a alike = edits_apart (key_at h p) (key_at k s) e apart q

  abbrev x : List (List ℕ) → Deed
  x q = its tree a q

  abbrev y : List (List ℕ) → Deed
  y q = its tree b q

  -- what two operations apart make of each row in either order
  pub either_tree : (q : List (List ℕ)) → Orders m (makes (its tree b q)) (row tree q) (row (tree_after tree a m) q) (row (tree_after (tree_after tree a m) b n) q) (row (tree_after (tree_after tree b n) a m) q)
  either_tree q =
      subst (λ left. Orders m (makes (y q)) (row tree q) (row (tree_after tree a m) q) left (row (tree_after (tree_after tree b n) a m) q)) (sym b_last)
      (subst (λ right. Orders m (makes (y q)) (row tree q) (row (tree_after tree a m) q) (done n (y q) (done m (x q) (row tree q))) right) (sym a_last)
      (subst (λ seen. Orders m (makes (y q)) (row tree q) seen (done n (y q) (done m (x q) (row tree q))) (done m (x q) (done n (y q) (row tree q)))) (sym (row_done tree a m q))
      (either_done m n (x q) (y q) (row tree q) (fits tree is a legal_a q) (fits tree is b legal_b q) (are_two q))))
    where
      b_last : row (tree_after (tree_after tree a m) b n) q ≡ done n (y q) (done m (x q) (row tree q))
      b_last =
          row_done (tree_after tree a m) b n q
          ∙ ap (λ d. done n d (row (tree_after tree a m) q)) (same_deed tree is m a legal_a after_a b e apart alike q)
          ∙ ap (done n (y q)) (row_done tree a m q)

      a_last : row (tree_after (tree_after tree b n) a m) q ≡ done m (x q) (done n (y q) (row tree q))
      a_last =
          row_done (tree_after tree b n) a m q
          ∙ ap (λ d. done m d (row (tree_after tree b n) q)) (same_deed tree is n b legal_b after_b a (sym e) (conflict_back a b apart) as_long_back q)
          ∙ ap (done m (x q)) (row_done tree b n q)
