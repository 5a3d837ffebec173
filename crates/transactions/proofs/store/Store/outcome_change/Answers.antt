use Rattle.std.proofs.Common.{◌≡◌, ◌+◌, ◌<◌, ◌≤◌, ◌^◌, ℕ, true, List, Some, Option, refl, sym, ◌∙◌, ap, subst, arith}
use Rattle.std.specs.Prelude.{Contains, slice_get, ◌↔◌, min}
use Rattle.reg_tree.specs.Encodings.{ops_encoded_len}
use Rattle.reg_tree.specs.Judgement.{applied, any_outweighs}
use Rattle.reg_tree.specs.Maps.{TreeMap}
use Rattle.reg_tree.specs.declared.op.Op.{Op}
use Rattle.commit_outcomes.specs.Units.{unit_name}
use Rattle.commit_outcomes.specs.Commits.{Commit}
use Rattle.commit_outcomes.specs.Trees.{HasCommits, number_in}
use Rattle.commit_outcomes.specs.Operations.{outcome_ops}
use Rattle.store_model.specs.Machine.{Machine, outcome_tree, trees_now, last_number}
use Rattle.transactions.specs.Stores.{OutcomesMatch, StoreView}
use Rattle.transactions.specs.Prepared.{unit_ops}
use Rattle.transactions.specs.contracts.store.Store.{the_view}
use Rattle.transactions.proofs.Outcomes.{tree_has, far_up, all_below, match_of, unit_ops_are, bytes_kept}
use Rattle.transactions.proofs.store.Store.outcome_change.Goals as goal

pub outcome_ops-requires-clause-earlier : goal.outcome_ops-requires-clause-earlier
outcome_ops-requires-clause-earlier c = λ n.
    let m = c.args.self.now.machine in
    let commits = c.in-Some.commits in
    let tree = c.in-Some-tree_after.tree.now in
    let same : (the_view c.self.inside).machine ≡ m = ap (λ (v : StoreView). v.machine) c.self.view_is in
    let kept : OutcomesMatch (Some commits) m = match_of c.self.inside.outcomes commits (the_view c.self.inside).machine m same c.in-Some.is c.self.invariant.1 in
    let has : (tree ≡ outcome_tree m.bounds (trees_now m)) × HasCommits commits tree =
    tree_has m commits c.args.trees tree kept c.requires.same (ap (λ (x : Machine). slice_get c.args.trees x.bounds.hives) (sym same) ∙ sym c.in-Some-tree_after.ensures) in
    let found : c.in_ok-earlier.earlier ≡ number_in tree c.args.unit.now = c.in_ok-earlier.ensures commits has.1 in
    subst (λ (e : Option ℕ). (e ≡ Some n) ↔ Contains commits (n, unit_name c.args.unit.now)) (sym found)
    (c.trees_have_commits.ensures.looked_up tree commits c.args.unit.now n has.1 (far_up m commits kept))

pub returns-clause-ok : goal.returns-clause-ok
returns-clause-ok c =
    let m = c.args.self.now.machine in
    let commits = c.in-Some.commits in
    let tree = c.in-Some-tree_after.tree.now in
    let same : (the_view c.self.inside).machine ≡ m = ap (λ (v : StoreView). v.machine) c.self.view_is in
    let kept : OutcomesMatch (Some commits) m = match_of c.self.inside.outcomes commits (the_view c.self.inside).machine m same c.in-Some.is c.self.invariant.1 in
    let has : (tree ≡ outcome_tree m.bounds (trees_now m)) × HasCommits commits tree =
    tree_has m commits c.args.trees tree kept c.requires.same (ap (λ (x : Machine). slice_get c.args.trees x.bounds.hives) (sym same) ∙ sym c.in-Some-tree_after.ensures) in
    let found : c.in_ok-earlier.earlier ≡ number_in tree c.args.unit.now = c.in_ok-earlier.ensures commits has.1 in
    let last = outcome_tree m.bounds (trees_now m) in
    let number : c.number-number.result + 1 ≡ last_number m + 1 = ap (λ n. n + 1) (c.number-number.ensures ∙ c.self.invariant.0.number ∙ ap last_number same) in
    let made : c.in_ok-ops.ops.items ≡ outcome_ops m.bounds.hives last (last_number m + 1, unit_name c.args.unit.now) =
    c.in_ok-ops.ensures last (subst (HasCommits commits) has.0 has.1)
    ∙ ap (λ (x : Machine). outcome_ops x.bounds.hives last (c.number-number.result + 1, unit_name c.args.unit.now)) same
    ∙ ap (λ n. outcome_ops m.bounds.hives last (n, unit_name c.args.unit.now)) number in
    let there = c.commits_are_kept.ensures.there m.bounds.hives last commits (last_number m + 1, unit_name c.args.unit.now) kept.1 (c.units_have_names.ensures.named c.args.unit.now) (all_below m commits kept) (omega (arith, kept.3)) in
    let few : ops_encoded_len c.in_ok-ops.ops.items ≤ 100 = subst (λ (l : List Op). ops_encoded_len l ≤ 100) (sym made) there.1 in
    record {
      ops = made ∙ sym (unit_ops_are m c.args.unit.now kept.0);
      long = omega (arith, c.text_len.ensures, ap (λ (l : List Op). ops_encoded_len l) c.deref-2.ensures.value, few);
      few = omega (arith, c.text_len.ensures, ap (λ (l : List Op). ops_encoded_len l) c.deref-2.ensures.value, few, bytes_kept m kept.0);
      light = ap (λ (l : List Op). any_outweighs c.args.trees l c.args.moment) (sym c.deref.ensures.value) ∙ c.in_ok-made.ensures.ok.0;
      trees = c.in_ok-made.ensures.ok.1 ∙ ap (λ (l : List Op). applied c.args.trees l c.args.moment) c.deref.ensures.value;
      earlier = λ keeps. found ∙ ap (λ (t : TreeMap). number_in t c.args.unit.now) has.0;
    }
