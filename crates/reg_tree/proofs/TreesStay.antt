-- An operation that may be carried out keeps a tree a tree.
use Rattle.std.proofs.Common.{◌≡◌, ℕ, zero, suc, ◌+◌, ◌-◌, ◌<◌, ◌≤◌, Bool, true, false, not, ◌&&◌, ◌⊎◌, inl, inr, cond, List, [], ◌∷◌, ◌++◌, length, take, Option, Some, None, IsSome, is_some, Result, Ok, Err, refl, sym, ◌∙◌, ap, subst, append_assoc, arith}
use Rattle.std.specs.Prelude.{nat_lt, slice_index_or}
use Rattle.std.specs.Ordering.{eq_by_cmp}
use Rattle.std.specs.Option.{option_map}
use Rattle.std.proofs.lemmas.Bool.{and_parts}
use Rattle.std.proofs.lemmas.Bool.Decides.{nat_tests}
use Rattle.std.proofs.lemmas.List.{length-append}
use mathlib.Core.Bool.{false≢true}
use Rattle.reg_names.specs.Names.{folded, folded_path}
use Rattle.refusals.specs.declared.refusal.Refusal.{Refusal}
use Rattle.reg_tree_parts.specs.Orders.{path_order}
use Rattle.reg_tree_parts.specs.Rows.{Row}
use Rattle.reg_tree_parts.specs.NewRows.{new_row}
use Rattle.reg_tree_parts.specs.Nodes.{begins_path, one_below}
use Rattle.reg_tree.specs.Maps.{TreeMap, row, subkeys, missing, IsTree}
use Rattle.reg_tree.specs.Operations.{touched, depth_there, descriptor_of, row_created, row_deleted, row_edited, tree_after}
use Rattle.reg_tree.specs.Judgement.{judged, judged_there, judged_delete, judged_delete_at, changed, changed_if}
use Rattle.reg_tree.specs.declared.op.Op.{Op}
use Rattle.reg_tree.specs.declared.op.Op.TheVariants.{CreateKey, DeleteKey, SetValue, DeleteValue}
use Rattle.reg_tree.specs.declared.op.Legality.{Legality}
use Rattle.reg_tree.specs.declared.op.Legality.TheVariants.{Legal, Opened}
use Rattle.reg_tree.proofs.Depths.{beginning_there, levels_missing}
use Rattle.reg_tree.proofs.Paths.{told, eq_is, eq_self, begins-append, split_begins}
use Rattle.std.proofs.Math.Seq.{take-append_seam}
use Rattle.std.proofs.Common.{eqb}
use Rattle.refusals.specs.declared.refusal.Refusal.TheVariants.{Fixed, HasSubkeys}
use Rattle.reg_tree_parts.specs.ValueEdits.{values_with, values_without}
use Rattle.reg_tree.proofs.Changes.{nothing_below}
use Rattle.reg_tree.proofs.TreesAfter.{row-tree_after}

-- rows that make a tree, at each path
pub record Rooted (rows : List (List ℕ) → Option Row) : Type 0 where
  pub root : IsSome (rows [])
  pub parents : (path : List (List ℕ)) (name : List ℕ) → IsSome (rows (path ++ name ∷ [])) → IsSome (rows path)
  pub named : (path : List (List ℕ)) (name : List ℕ) (key : Row) → rows (path ++ name ∷ []) ≡ Some key → folded key.name ≡ name

-- a tree that has rows of this kind is one
pub tree_of_rows : (tree : TreeMap) (rows : List (List ℕ) → Option Row) → ((q : List (List ℕ)) → row tree q ≡ rows q) → Rooted rows → IsTree tree
tree_of_rows tree rows are rooted = record {
  root = subst IsSome (sym (are [])) rooted.root;
  parents = λ path name there. subst IsSome (sym (are path)) (rooted.parents path name (subst IsSome (are (path ++ name ∷ [])) there));
  named = λ path name key there. rooted.named path name key (sym (are (path ++ name ∷ [])) ∙ there);
}

-- what is mapped is there if what it comes from is, and the other way round
map_there : {A B : Type 0} (f : A → B) (o : Option A) → IsSome o → IsSome (option_map f o)
map_there f None there = there
map_there f (Some x) there = refl

pub was_there : {A B : Type 0} (f : A → B) (o : Option A) → IsSome (option_map f o) → IsSome o
was_there f None there = there
was_there f (Some x) there = refl

-- a row that an edit which keeps the name made has the name of one that was there
same_names : (edit : Row → Row) → ((k : Row) → folded (edit k).name ≡ folded k.name) → (o : Option Row) (n : List ℕ) → ((k : Row) → o ≡ Some k → folded k.name ≡ n) → (key : Row) → option_map edit o ≡ Some key → folded key.name ≡ n
same_names edit keeps None n was key e = cc
same_names edit keeps (Some k) n was key e =
    let same : edit k ≡ key = cc in
    sym (ap (λ r. folded r.name) same) ∙ keeps k ∙ was k refl

module _ (tree : TreeMap) (is : IsTree tree) where
  -- an edit of a row
  pub edited_rooted : (edit : Row → Row) → ((k : Row) → folded (edit k).name ≡ folded k.name) → (p : List (List ℕ)) (moment : ℕ) → Rooted (row_edited edit tree p moment)
  edited_rooted edit keeps p moment = record {
    root = stays (eq_by_cmp path_order [] p) [] is.root;
    parents = λ path name there. stays (eq_by_cmp path_order path p) path (is.parents path name (came (eq_by_cmp path_order (path ++ name ∷ []) p) (path ++ name ∷ []) there));
    named = λ path name key there. names (eq_by_cmp path_order (path ++ name ∷ []) p) path name key there;
  }
    where
      stays : (b : Bool) (q : List (List ℕ)) → IsSome (row tree q) → IsSome (cond b (option_map (λ key. touched moment (edit key)) (row tree q)) (row tree q))
      stays true q there = map_there _ (row tree q) there
      stays false q there = there

      came : (b : Bool) (q : List (List ℕ)) → IsSome (cond b (option_map (λ key. touched moment (edit key)) (row tree q)) (row tree q)) → IsSome (row tree q)
      came true q there = was_there _ (row tree q) there
      came false q there = there

      names : (b : Bool) (path : List (List ℕ)) (name : List ℕ) (key : Row) → cond b (option_map (λ key. touched moment (edit key)) (row tree (path ++ name ∷ []))) (row tree (path ++ name ∷ [])) ≡ Some key → folded key.name ≡ name
      names true path name key there = same_names (λ key. touched moment (edit key)) keeps (row tree (path ++ name ∷ [])) name (is.named path name) key there
      names false path name key there = is.named path name key there

  -- a deletion of a key below the root without subkeys
  deleted_rooted : (n : List ℕ) (p : List (List ℕ)) (moment : ℕ) → length (subkeys tree (n ∷ p)) ≡ 0 → Rooted (row_deleted tree (n ∷ p) moment)
  deleted_rooted n p moment alone = record {
    root = stays false (one_below [] (n ∷ p)) [] refl is.root;
    parents = λ path name there. stays (eq_by_cmp path_order path (n ∷ p)) (one_below path (n ∷ p)) path (not_deleted path name there) (is.parents path name (came (eq_by_cmp path_order (path ++ name ∷ []) (n ∷ p)) (one_below (path ++ name ∷ []) (n ∷ p)) (path ++ name ∷ []) there));
    named = λ path name key there. names (eq_by_cmp path_order (path ++ name ∷ []) (n ∷ p)) (one_below (path ++ name ∷ []) (n ∷ p)) path name key there;
  }
    where
      left : Bool → Bool → List (List ℕ) → Option Row
      left a b q = cond a None (cond b (option_map (touched moment) (row tree q)) (row tree q))

      stays : (a b : Bool) (q : List (List ℕ)) → a ≡ false → IsSome (row tree q) → IsSome (cond a None (cond b (option_map (touched moment) (row tree q)) (row tree q)))
      stays true b q off there = absurd (false≢true (sym off))
      stays false true q off there = map_there _ (row tree q) there
      stays false false q off there = there

      came : (a b : Bool) (q : List (List ℕ)) → IsSome (cond a None (cond b (option_map (touched moment) (row tree q)) (row tree q))) → IsSome (row tree q)
      came true b q there = absurd (false≢true there)
      came false true q there = was_there _ (row tree q) there
      came false false q there = there

      not_deleted : (path : List (List ℕ)) (name : List ℕ) → IsSome (row_deleted tree (n ∷ p) moment (path ++ name ∷ [])) → eq_by_cmp path_order path (n ∷ p) ≡ false
      not_deleted path name there = elim (told (eq_by_cmp path_order path (n ∷ p))) [
        | inl same ↦
            let gone : row tree (path ++ name ∷ []) ≡ None = ap (λ q. row tree (q ++ name ∷ [])) (eq_is path (n ∷ p) same) ∙ nothing_below tree is (n ∷ p) alone name [] in
            absurd (false≢true (subst IsSome gone (came (eq_by_cmp path_order (path ++ name ∷ []) (n ∷ p)) (one_below (path ++ name ∷ []) (n ∷ p)) (path ++ name ∷ []) there)))
        | inr apart ↦ apart
      ]

      names : (a b : Bool) (path : List (List ℕ)) (name : List ℕ) (key : Row) → cond a None (cond b (option_map (touched moment) (row tree (path ++ name ∷ []))) (row tree (path ++ name ∷ []))) ≡ Some key → folded key.name ≡ name
      names true b path name key there = cc
      names false true path name key there = same_names (touched moment) (λ k. refl) (row tree (path ++ name ∷ [])) name (is.named path name) key there
      names false false path name key there = is.named path name key there

  -- the last key on the way along a path that is there
  last_there : (path : List (List ℕ)) (k : ℕ) → k ≤ length path → (k < length path → (rest : List (List ℕ)) → row tree (take (k + 1) path ++ rest) ≡ None)
      → (d : ℕ) × (d ≤ length path) × IsSome (row tree (take d path)) × (d < length path → (rest : List (List ℕ)) → row tree (take (d + 1) path ++ rest) ≡ None)
  last_there path zero within gone = (0, omega arith, is.root, gone)
  last_there path (suc k) within gone = by_case (last_there path k (omega arith)) (row tree (take (suc k) path)) refl
    where
      by_case : ((k < length path → (rest : List (List ℕ)) → row tree (take (k + 1) path ++ rest) ≡ None) → (d : ℕ) × (d ≤ length path) × IsSome (row tree (take d path)) × (d < length path → (rest : List (List ℕ)) → row tree (take (d + 1) path ++ rest) ≡ None))
          → (o : Option Row) → row tree (take (suc k) path) ≡ o → (d : ℕ) × (d ≤ length path) × IsSome (row tree (take d path)) × (d < length path → (rest : List (List ℕ)) → row tree (take (d + 1) path ++ rest) ≡ None)
      by_case down (Some key) e = (suc k, within, ap is_some e, gone)
      by_case down None e = down (λ lt rest. none_past rest (row tree (take (k + 1) path ++ rest)) refl)
        where
          none_past : (rest : List (List ℕ)) (o : Option Row) → row tree (take (k + 1) path ++ rest) ≡ o → row tree (take (k + 1) path ++ rest) ≡ None
          none_past rest None e' = e'
          none_past rest (Some key) e' =
              let near : IsSome (row tree (take (k + 1) path)) = beginning_there tree is (take (k + 1) path) rest (ap is_some e') in
              let same : k + 1 ≡ suc k = omega arith in
              absurd (false≢true (sym (ap is_some (ap (λ n. row tree (take n path)) same ∙ e)) ∙ near))

  -- so the key that a creation touches is there
  pub home_there : (path : List (List ℕ)) → IsSome (row tree (take (depth_there tree path) path))
  home_there path =
      let found = last_there path (length path) (omega arith) (λ lt. absurd (omega arith)) in
      let missed : length (missing tree path) ≡ length path - found.0 = levels_missing tree is path found.0 found.1 found.2 found.3 in
      let depth : found.0 ≡ depth_there tree path = omega (arith, missed, found.1) in
      subst (λ n. IsSome (row tree (take n path))) depth found.2

  -- the path before a name with which another path begins
  before_name : (path : List (List ℕ)) (name : List ℕ) (whole : List (List ℕ)) → begins_path (path ++ name ∷ []) whole ≡ true → (r : List (List ℕ)) × (whole ≡ path ++ name ∷ r)
  before_name path name whole on =
      let more = split_begins (path ++ name ∷ []) whole on in
      (more.0, more.1 ∙ append_assoc path (name ∷ []) more.0)

  -- the name at that index, as it is spelled
  spelled_there : (spelled : List (List ℕ)) (path : List (List ℕ)) (name : List ℕ) (r : List (List ℕ)) → folded_path spelled ≡ path ++ name ∷ r → folded (slice_index_or spelled (length path) []) ≡ name
  spelled_there [] [] name r e = cc
  spelled_there [] (x ∷ path) name r e = cc
  spelled_there (s ∷ spelled) [] name r e = cc
  spelled_there (s ∷ spelled) (x ∷ path) name r e =
      let tail : folded_path spelled ≡ path ++ name ∷ r = cc in
      spelled_there spelled path name r tail

  -- a creation
  module _ (spelled : List (List ℕ)) (moment : ℕ) where
    made : Bool → Bool → List (List ℕ) → Option Row
    made a b q = cond a (option_map (touched moment) (row tree q)) (cond b (Some (new_row (slice_index_or spelled (length q - 1) []) (descriptor_of (row tree (take (depth_there tree (folded_path spelled)) (folded_path spelled)))) moment)) (row tree q))

    stays : (a b : Bool) (q : List (List ℕ)) → IsSome (row tree q) → IsSome (made a b q)
    unfolding made
    stays true b q there = map_there _ (row tree q) there
    stays false true q there = refl
    stays false false q there = there

    created_parent : (path : List (List ℕ)) (name : List ℕ) (a b : Bool) → (b ≡ true → (begins_path (path ++ name ∷ []) (folded_path spelled) ≡ true) × (nat_lt (depth_there tree (folded_path spelled)) (length (path ++ name ∷ [])) ≡ true)) → IsSome (made a b (path ++ name ∷ []))
        → IsSome (row tree path) ⊎ ((begins_path path (folded_path spelled) ≡ true) × (path ≡ take (length path) (folded_path spelled)) × (depth_there tree (folded_path spelled) ≤ length path))
    unfolding made
    created_parent path name true b fresh there = inl (is.parents path name (was_there _ (row tree (path ++ name ∷ [])) there))
    created_parent path name false false fresh there = inl (is.parents path name there)
    created_parent path name false true fresh there =
        let on = (fresh refl).0 in
        let lt : nat_lt (depth_there tree (folded_path spelled)) (length (path ++ name ∷ [])) ≡ true = (fresh refl).1 in
        let more = before_name path name (folded_path spelled) on in
        inr (ap (begins_path path) more.1 ∙ begins-append path (name ∷ more.0), sym (ap (take (length path)) more.1 ∙ take-append_seam path (name ∷ more.0)), grind (arith, nat_tests, length-append path (name ∷ [])))

    created_here : (path : List (List ℕ)) → IsSome (row tree path) ⊎ ((begins_path path (folded_path spelled) ≡ true) × (path ≡ take (length path) (folded_path spelled)) × (depth_there tree (folded_path spelled) ≤ length path)) → IsSome (row_created tree spelled moment path)
    unfolding made
    created_here path (inl there) = stays (eq_by_cmp path_order path (take (depth_there tree (folded_path spelled)) (folded_path spelled))) (begins_path path (folded_path spelled) && nat_lt (depth_there tree (folded_path spelled)) (length path)) path there
    created_here path (inr (on, front, le)) = by_case (eq_by_cmp path_order path (take (depth_there tree (folded_path spelled)) (folded_path spelled))) refl (told (nat_lt (depth_there tree (folded_path spelled)) (length path)))
      where
        by_case : (a : Bool) → eq_by_cmp path_order path (take (depth_there tree (folded_path spelled)) (folded_path spelled)) ≡ a → (nat_lt (depth_there tree (folded_path spelled)) (length path) ≡ true) ⊎ (nat_lt (depth_there tree (folded_path spelled)) (length path) ≡ false)
            → IsSome (cond a (option_map (touched moment) (row tree path)) (cond (begins_path path (folded_path spelled) && nat_lt (depth_there tree (folded_path spelled)) (length path)) (Some (new_row (slice_index_or spelled (length path - 1) []) (descriptor_of (row tree (take (depth_there tree (folded_path spelled)) (folded_path spelled)))) moment)) (row tree path)))
        by_case true same lt = map_there _ (row tree path) (subst (λ q. IsSome (row tree q)) (sym (eq_is path (take (depth_there tree (folded_path spelled)) (folded_path spelled)) same)) (home_there (folded_path spelled)))
        by_case false apart (inl lt) = ap (λ b. is_some (cond b (Some (new_row (slice_index_or spelled (length path - 1) []) (descriptor_of (row tree (take (depth_there tree (folded_path spelled)) (folded_path spelled)))) moment)) (row tree path))) (ap (λ b. b && nat_lt (depth_there tree (folded_path spelled)) (length path)) on ∙ lt)
        by_case false apart (inr no_more) =
            let same : length path ≡ depth_there tree (folded_path spelled) = grind (arith, nat_tests) in
            let touched_path : path ≡ take (depth_there tree (folded_path spelled)) (folded_path spelled) = front ∙ ap (λ n. take n (folded_path spelled)) same in
            absurd (false≢true (sym apart ∙ ap (eq_by_cmp path_order path) (sym touched_path) ∙ eq_self path))

    created_named : (path : List (List ℕ)) (name : List ℕ) (key : Row) (a b : Bool) → (b ≡ true → begins_path (path ++ name ∷ []) (folded_path spelled) ≡ true) → made a b (path ++ name ∷ []) ≡ Some key → folded key.name ≡ name
    unfolding made
    created_named path name key true b fresh there = same_names (touched moment) (λ k. refl) (row tree (path ++ name ∷ [])) name (is.named path name) key there
    created_named path name key false false fresh there = is.named path name key there
    created_named path name key false true fresh there =
        let more = before_name path name (folded_path spelled) (fresh refl) in
        let place : length (path ++ name ∷ []) - 1 ≡ length path = omega (arith, length-append path (name ∷ [])) in
        let new : new_row (slice_index_or spelled (length (path ++ name ∷ []) - 1) []) (descriptor_of (row tree (take (depth_there tree (folded_path spelled)) (folded_path spelled)))) moment ≡ key = cc in
        sym (ap (λ r. folded r.name) new) ∙ ap (λ n. folded (slice_index_or spelled n [])) place ∙ spelled_there spelled path name more.0 more.1

    created_rooted : Rooted (row_created tree spelled moment)
    unfolding made
    created_rooted = record {
      root = created_here [] (inl is.root);
      parents = λ path name there. created_here path (created_parent path name (eq_by_cmp path_order (path ++ name ∷ []) (take (depth_there tree (folded_path spelled)) (folded_path spelled))) (begins_path (path ++ name ∷ []) (folded_path spelled) && nat_lt (depth_there tree (folded_path spelled)) (length (path ++ name ∷ []))) (λ e. and_parts _ _ e) there);
      named = λ path name key there. created_named path name key (eq_by_cmp path_order (path ++ name ∷ []) (take (depth_there tree (folded_path spelled)) (folded_path spelled))) (begins_path (path ++ name ∷ []) (folded_path spelled) && nat_lt (depth_there tree (folded_path spelled)) (length (path ++ name ∷ []))) (λ e. (and_parts _ _ e).0) there;
    }

  -- a key that may be deleted is below the root and has no subkeys
  pub deletable : (spelled : List (List ℕ)) → judged_delete_at tree spelled ≡ Ok Legal → (0 < length spelled) × IsSome (row tree (folded_path spelled)) × (length (subkeys tree (folded_path spelled)) ≡ 0)
  deletable [] e = cc
  deletable (s ∷ spelled) e = by_case (row tree (folded_path (s ∷ spelled))) refl e
    where
      alone : (a : Bool) (n : ℕ) (b : Bool) → eqb n 0 ≡ b → cond {A = Result Legality Refusal} a (Err Fixed) (cond (not b) (Err HasSubkeys) (Ok Legal)) ≡ Ok Legal → n ≡ 0
      alone true n b t e = cc
      alone false n true t e = grind (arith, nat_tests)
      alone false n false t e = cc

      by_case : (o : Option Row) → row tree (folded_path (s ∷ spelled)) ≡ o → judged_there o (λ key. judged_delete key.flags (subkeys tree (folded_path (s ∷ spelled)))) ≡ Ok Legal → (0 < length (s ∷ spelled)) × IsSome (row tree (folded_path (s ∷ spelled))) × (length (subkeys tree (folded_path (s ∷ spelled))) ≡ 0)
      by_case None t e = cc
      by_case (Some key) t e = (omega arith, ap is_some t, alone _ (length (subkeys tree (folded_path (s ∷ spelled)))) _ refl e)

  -- an operation that may be carried out leaves a tree
  pub keeps : (op : Op) (moment : ℕ) → judged tree op ≡ Ok Legal → IsTree (tree_after tree op moment)
  keeps (CreateKey hive spelled) moment e = tree_of_rows _ (row_created tree spelled moment) (row-tree_after tree (CreateKey hive spelled) moment) (created_rooted spelled moment)
  keeps (DeleteKey hive []) moment e = cc
  keeps (DeleteKey hive (s ∷ spelled)) moment e = tree_of_rows _ (row_deleted tree (folded_path (s ∷ spelled)) moment) (row-tree_after tree (DeleteKey hive (s ∷ spelled)) moment) (deleted_rooted (folded s) (folded_path spelled) moment (deletable (s ∷ spelled) e).2)
  keeps (SetValue hive spelled name kind bytes) moment e =
      tree_of_rows _ (row_edited (λ key. record key { values = values_with key.values name kind bytes }) tree (folded_path spelled) moment) (row-tree_after tree (SetValue hive spelled name kind bytes) moment) (edited_rooted (λ key. record key { values = values_with key.values name kind bytes }) (λ k. refl) (folded_path spelled) moment)
  keeps (DeleteValue hive spelled name) moment e =
      tree_of_rows _ (row_edited (λ key. record key { values = values_without key.values name }) tree (folded_path spelled) moment) (row-tree_after tree (DeleteValue hive spelled name) moment) (edited_rooted (λ key. record key { values = values_without key.values name }) (λ k. refl) (folded_path spelled) moment)

  -- and any operation does, since one that may not be carried out changes nothing
  pub changed_stays : (op : Op) (moment : ℕ) → IsTree (changed tree op moment)
  changed_stays op moment = by_case (judged tree op) refl
    where
      by_case : (j : Result Legality Refusal) → judged tree op ≡ j → IsTree (changed_if j (tree_after tree op moment) tree)
      by_case (Ok Legal) e = keeps op moment e
      by_case (Ok Opened) e = is
      by_case (Err refusal) e = is
