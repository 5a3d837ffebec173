-- The commits that a tree has, as they are read of it.
use Rattle.std.proofs.Common.{◌≡◌, ◌≢◌, ℕ, zero, suc, ◌+◌, ◌<◌, ◌≤◌, ◌==◌, nat_le, nat_eq, true, false, not, List, [], ◌∷◌, map, length, Contains, Some, refl, sym, ◌∙◌, ap, subst, arith, length-append, Global}
use Rattle.std.specs.List.{AllByRecursion, IsDistinct, list_all}
use Rattle.std.specs.List.Sorted.{IsPermutation, IsNonDecreasingBy}
use Rattle.std.specs.FinMap as finite
use Rattle.std.specs.FinMap.{entries-from_sorted}
use Rattle.std.specs.declared.vec.Vec.{Vec}
use Rattle.std.proofs.lemmas.Bool.{and_parts, false≢true, false_from_ne_true, not-true, eq-eqb, leb-true, le-leb, and_from}
use Rattle.std.proofs.lemmas.Bool.Decides.{nat_tests}
use Rattle.std.proofs.lemmas.List.{length-map}
use Rattle.std.proofs.lemmas.List.Sorted.{IsPermutation-map, IsPermutation-sym, Contains-permutation, length_permutation}
use Rattle.std.proofs.lemmas.Map.Keys.{IsDistinct-IsPermutation}
use Rattle.reg_names.specs.Names.{folded}
use Rattle.reg_tree_parts.specs.declared.value.Value.{Value}
use Rattle.reg_tree_parts.specs.Orders.{name_order, path_order}
use Rattle.reg_tree_parts.specs.Rows.{Row, ValueMap}
use Rattle.reg_tree_parts.specs.Nodes.{Entries, IsNode, AreNodes, HasSubkeys, row_at, below, all_below, entries_of}
use Rattle.reg_tree_parts.proofs.Keys.{names_total, names_apart}
use Rattle.reg_tree.specs.Maps.{TreeMap}
use Rattle.reg_tree.specs.Encodable.{IsEncodable}
use Rattle.commit_outcomes.specs.Commits.{Commit, AreKept, AreUpTo}
use Rattle.commit_outcomes.specs.Trees.{HasCommits, root_values, commit_of, is_commit_value, are_distinct, are_outcomes}
use Rattle.commit_outcomes.specs.CommitLists.{named_commit, named_commits, NumbersRise, tell_commits}
use Rattle.commit_outcomes.specs.ListRoom.{TellsCommits}
use Rattle.commit_outcomes.specs.declared.commit_list.TheConstants.{MOST_COMMITS}
use Rattle.commit_outcomes.specs.declared.kept_commit.KeptCommit.{KeptCommit}
use Rattle.commit_outcomes.proofs.Found.{value_passes, found_value, value_found_at}
use Rattle.commit_outcomes.proofs.ReadTrees.{Lists, Passes, passes_of, listed_kept, listed_up, values_listed, tree_passes, root_filed, map_member, member_map, maps}
use Rattle.commit_outcomes.proofs.Places.{number_at, rise_named, named_rise, rise_places}
use Rattle.commit_outcomes.proofs.Roots.{values_long}

-- A root alone

root_row : (entries : Entries) (node : IsNode entries) → row_at entries [] ≡ Some node.row
root_row entries node = ap (λ es. row_at es []) node.whole

no_subkeys : (xs : List (List ℕ × Entries)) → length xs ≡ 0 → xs ≡ []
no_subkeys [] e = refl
no_subkeys (x ∷ xs) e = absurd (omega (arith, e))

pub alone_of : (entries : Entries) (tree : TreeMap) (subkeys : List (List ℕ × Entries)) → IsNode entries → tree ≡ finite.from_sorted entries → HasSubkeys entries subkeys → length subkeys ≡ 0 → finite.keys tree ≡ [] ∷ []
alone_of entries tree subkeys node same has none =
    let whole : entries ≡ ([], node.row) ∷ [] = has.whole node.row (root_row entries node) ∙ ap (entries_of node.row) (no_subkeys subkeys none) in
    ap finite.keys same ∙ ap (map (λ e. e.0)) (entries-from_sorted path_order entries node.rises ∙ whole)

some_below : (k : List ℕ × Entries) (ks : List (List ℕ × Entries)) → IsNode k.1 → 0 < length (all_below (k ∷ ks))
some_below k ks node =
    let first : length (below k.0 k.1) ≡ length k.1 = length-map k.1 (λ e. (k.0 ∷ e.0, e.1)) in
    let some : length k.1 ≡ suc (length node.others) = ap length node.whole in
    let all : length (all_below (k ∷ ks)) ≡ length (below k.0 k.1) + length (all_below ks) = length-append (below k.0 k.1) (all_below ks) in
    omega (arith, first, some, all)

pub not_alone : (number : ℕ) (entries : Entries) (tree : TreeMap) (subkeys : List (List ℕ × Entries)) → IsNode entries → tree ≡ finite.from_sorted entries → HasSubkeys entries subkeys → length subkeys ≢ 0 → are_outcomes number tree ≡ false
not_alone number entries tree subkeys node same has some = false_from_ne_true (are_outcomes number tree) (λ is.
    let alone = (tree_passes number tree is).alone in
    let keys : map (λ (e : List (List ℕ) × Row). e.0) entries ≡ [] ∷ [] = ap (map (λ e. e.0)) (sym (entries-from_sorted path_order entries node.rises)) ∙ ap finite.keys (sym same) ∙ alone in
    let long : length entries ≡ 1 = sym (length-map entries (λ e. e.0)) ∙ ap length keys in
    let whole : length entries ≡ suc (length (all_below subkeys)) = ap length (has.whole node.row (root_row entries node)) in
    by_case subkeys has.nodes some (omega (arith, long, whole)))
  where
    by_case : (ks : List (List ℕ × Entries)) → AreNodes ks → length ks ≢ 0 → length (all_below ks) ≡ 0 → ⊥
    by_case [] nodes some none = some refl
    by_case (k ∷ ks) nodes some none = let more = some_below k ks nodes.0 in omega (arith, more, none)

-- Values that tell of commits, and numbers that rise

module _ (number : ℕ) (tree : TreeMap) (values : ValueMap) (old new : Vec KeptCommit Global) (is : root_values tree ≡ values) (can : IsEncodable tree) (tells : TellsCommits number values old) (same : IsPermutation old.items new.items) where
  moved : IsPermutation (named_commits old.items) (named_commits new.items)
  moved = IsPermutation-map named_commit old.items new.items same

  told : (nat_le (finite.len values) MOST_COMMITS ≡ true) × (list_all (is_commit_value number) (finite.values values) ≡ true)
  told = and_parts (nat_le (finite.len values) MOST_COMMITS) (list_all (is_commit_value number) (finite.values values)) tells.tell

  lists : NumbersRise new.items → Lists values (named_commits new.items)
  lists rise = record {
    rise = rise_named new.items rise;
    from = λ c has.
        let there = Contains-permutation (named_commits new.items) (named_commits old.items) c (IsPermutation-sym (named_commits old.items) (named_commits new.items) moved) has in
        let v = member_map commit_of (finite.values values) c (subst (λ l. Contains l c) tells.are there) in
        let at = value_found_at name_order names_total names_apart values v.0 v.1 in
        (at.0, v.0, at.1, v.2);
    to = λ q v at.
        let there = map_member commit_of (finite.values values) v (found_value name_order names_total names_apart values q v at) in
        Contains-permutation (named_commits old.items) (named_commits new.items) (commit_of v) moved (subst (λ l. Contains l (commit_of v)) (sym tells.are) there);
  }

  filed : (q : List ℕ) (v : Value) → finite.get values q ≡ Some v → folded v.name ≡ q
  filed q v at = root_filed tree can q v (ap (λ vs. finite.get vs q) is ∙ at)

  each : (q : List ℕ) (v : Value) → finite.get values q ≡ Some v → Passes number v
  each q v at = passes_of number v (value_passes name_order names_total names_apart values (is_commit_value number) told.1 q v at)

  few : length (named_commits new.items) ≤ MOST_COMMITS
  few =
      let most : finite.len values ≤ MOST_COMMITS = leb-true (finite.len values) MOST_COMMITS told.0 in
      let long : length (named_commits old.items) ≡ length (finite.values values) = ap length tells.are ∙ length-map (finite.values values) commit_of in
      let whole : length (named_commits new.items) ≡ length (named_commits old.items) = length_permutation (named_commits old.items) (named_commits new.items) moved in
      omega (arith, most, long, whole, values_long values)

  pub kept_read : NumbersRise new.items → AreKept (named_commits new.items)
  kept_read rise = listed_kept number values (named_commits new.items) (lists rise) filed each few

  pub has_read : finite.keys tree ≡ [] ∷ [] → NumbersRise new.items → HasCommits (named_commits new.items) tree × AreUpTo number (named_commits new.items)
  has_read alone rise = (
    record { alone = alone; values = is ∙ values_listed number values (named_commits new.items) (lists rise) filed each; are = kept_read rise },
    listed_up number values (named_commits new.items) (lists rise) filed each,
  )

-- Numbers of which no two are the same rise if they do not fall

all_other : (n : ℕ) (ns : List ℕ) → list_all (λ m. not (n == m)) ns ≡ true → AllByRecursion (λ m. nat_eq n m ≡ false) ns
all_other n [] e = tt
all_other n (m ∷ ns) e = let parts = and_parts (not (n == m)) (list_all (λ k. not (n == k)) ns) e in (not-true (n == m) parts.0, all_other n ns parts.1)

distinct_from : (ns : List ℕ) → are_distinct ns ≡ true → IsDistinct nat_eq ns
unfolding IsDistinct
distinct_from [] e = tt
distinct_from (n ∷ ns) e = let parts = and_parts (list_all (λ m. not (n == m)) ns) (are_distinct ns) e in (all_other n ns parts.0, distinct_from ns parts.1)

neighbours_apart : (commits : List KeptCommit) → IsDistinct nat_eq (map (λ (c : KeptCommit). c.number) commits) → (k : ℕ) (d : KeptCommit) → k + 1 < length commits → number_at commits k d ≢ number_at commits (suc k) d
unfolding IsDistinct
neighbours_apart [] apart k d lt e = omega (arith, lt)
neighbours_apart (c ∷ []) apart k d lt e = omega (arith, lt)
neighbours_apart (c ∷ x ∷ commits) apart zero d lt e = false≢true (sym apart.0.0 ∙ eq-eqb c.number x.number e)
neighbours_apart (c ∷ x ∷ commits) apart (suc k) d lt e = neighbours_apart (x ∷ commits) apart.1 k d (omega (arith, lt)) e

rise_if_apart : (commits : List KeptCommit) → IsDistinct nat_eq (map (λ (c : KeptCommit). c.number) commits) → IsNonDecreasingBy (λ (c : KeptCommit). c.number) commits → NumbersRise commits
rise_if_apart commits apart up = named_rise commits (rise_places commits (λ k d lt.
    let le : number_at commits k d ≤ number_at commits (suc k) d = up k (suc k) d (omega arith) (omega (arith, lt)) in
    let other : number_at commits k d ≢ number_at commits (suc k) d = neighbours_apart commits apart k d lt in
    omega (arith, le, other)))

module _ (number : ℕ) (tree : TreeMap) (values : ValueMap) (is : root_values tree ≡ values) where
  -- values that do not tell of commits are of no tree of outcomes
  pub not_told : tell_commits number values ≡ false → are_outcomes number tree ≡ false
  not_told fails = false_from_ne_true (are_outcomes number tree) (λ passed.
      let pass = tree_passes number tree passed in
      let tells : tell_commits number values ≡ true = ap (tell_commits number) (sym is) ∙ and_from (nat_le (finite.len (root_values tree)) MOST_COMMITS) (list_all (is_commit_value number) (finite.values (root_values tree)))
      (le-leb (finite.len (root_values tree)) MOST_COMMITS pass.few) pass.each in
      false≢true (sym fails ∙ tells))

  -- nor are those whose commits have one number
  pub not_rising : (old new : Vec KeptCommit Global) → TellsCommits number values old → IsPermutation old.items new.items → IsNonDecreasingBy (λ (c : KeptCommit). c.number) new.items → (NumbersRise new.items → ⊥) → are_outcomes number tree ≡ false
  not_rising old new tells same up fails = false_from_ne_true (are_outcomes number tree) (λ passed.
      let distinct : are_distinct (map (λ v. (commit_of v).0) (finite.values (root_values tree))) ≡ true = (tree_passes number tree passed).distinct in
      let numbers : map (λ v. (commit_of v).0) (finite.values values) ≡ map (λ (c : KeptCommit). c.number) old.items =
      sym (maps commit_of (λ (c : Commit). c.0) (finite.values values)) ∙ ap (map (λ (c : Commit). c.0)) (sym tells.are) ∙ maps named_commit (λ (c : Commit). c.0) old.items in
      let apart : are_distinct (map (λ (c : KeptCommit). c.number) old.items) ≡ true = ap are_distinct (sym numbers) ∙ ap (λ vs. are_distinct (map (λ v. (commit_of v).0) (finite.values vs))) (sym is) ∙ distinct in
      let moved_apart = IsDistinct-IsPermutation nat_eq flips (map (λ (c : KeptCommit). c.number) old.items) (map (λ (c : KeptCommit). c.number) new.items) (IsPermutation-map (λ (c : KeptCommit). c.number) old.items new.items same) (distinct_from (map (λ (c : KeptCommit). c.number) old.items) apart) in
      fails (rise_if_apart new.items moved_apart up))
    where
      flips : (x y : ℕ) → nat_eq x y ≡ nat_eq y x
      flips x y = grind (arith, nat_tests)
