use Rattle.std.proofs.Common.{◌≡◌, ◌+◌, ◌≤◌, false, List, [], ◌∷◌, IfSome, IfNone, refl, sym, ◌∙◌, ap, subst}
use Rattle.std.specs.FinMap as finite
use Rattle.reg_tree_parts.specs.Nodes.{subkeys_of}
use Rattle.commit_outcomes.specs.Commits.{Commit, AreKept, AreUpTo}
use Rattle.commit_outcomes.specs.Trees.{HasCommits}
use Rattle.commit_outcomes.specs.CommitLists.{NumbersRise, named_commits, tell_commits}
use Rattle.commit_outcomes.specs.declared.kept_commit.KeptCommit.{KeptCommit}
use Rattle.commit_outcomes.specs.ListRoom.{TellsCommits}
use Rattle.commit_outcomes.specs.declared.commit_list.TheConstants.{MOST_COMMITS}
use Rattle.commit_outcomes.proofs.Roots.{root_values_are}
use Rattle.commit_outcomes.proofs.TreeCommits.{passes}
use Rattle.commit_outcomes.proofs.OfTrees.{alone_of, not_alone, not_told, not_rising, kept_read, has_read}
use Rattle.commit_outcomes.proofs.commit_list.CommitList.of.Goals as goal
use Rattle.commit_outcomes.proofs.commit_list.CommitList.of.Goals.{In_default, Then-rises}

pub returns-then-subkey_count-ne0-clause-none : goal.returns-then-subkey_count-ne0-clause-none
returns-then-subkey_count-ne0-clause-none c =
    let entries = c.root-root.result.now in
    not_alone c.args.number entries c.args.tree.now (subkeys_of entries) c.root-root.ensures.node c.root-root.ensures.same c.subkey_count.ensures.has (λ e. c.if-subkey_count-ne0.true (c.subkey_count.ensures.subkeys ∙ e))

pub returns-in_default-clause-none : goal.returns-in_default-clause-none
returns-in_default-clause-none c =
    let values = root_values_are c.args.tree.now c.root-root.result.now c.key.result.now c.root-root.ensures.node c.root-root.ensures.same c.key.ensures.here ∙ sym c.values.ensures in
    not_told c.args.number c.args.tree.now c.values.result.now values (subst (λ o. IfNone o (tell_commits c.args.number c.values.result.now ≡ false)) c.in_default.is c.in_ok-commits.ensures.none)

pub invariant_of-result : goal.invariant_of-result
invariant_of-result c =
    let values = root_values_are c.args.tree.now c.root-root.result.now c.key.result.now c.root-root.ensures.node c.root-root.ensures.same c.key.ensures.here ∙ sym c.values.ensures in
    let tells : TellsCommits c.args.number c.values.result.now c.in-Some.commits = subst (λ o. IfSome o (TellsCommits c.args.number c.values.result.now)) c.in-Some.is c.in_ok-commits.ensures.some in
    let rise : NumbersRise c.in_order.new.commits.items = subst NumbersRise c.deref.ensures.value (c.if-rises.ensures.rise refl) in
    record {
      are = subst (λ (xs : List KeptCommit). AreKept (named_commits xs)) (sym c.from_vec-commits.ensures.items)
          (kept_read c.args.number c.args.tree.now c.values.result.now c.in-Some.commits c.in_order.new.commits values c.root-root.ensures.encodable tells c.in_order.ensures.same rise);
      room = subst (λ n. MOST_COMMITS + 1 ≤ n) (sym (c.from_vec-commits.ensures.capacity ∙ c.in_order.ensures.capacity)) tells.room;
    }

pub returns-then-rises-clause-some : goal.returns-then-rises-clause-some
returns-then-rises-clause-some c =
    let values = root_values_are c.args.tree.now c.root-root.result.now c.key.result.now c.root-root.ensures.node c.root-root.ensures.same c.key.ensures.here ∙ sym c.values.ensures in
    let tells : TellsCommits c.args.number c.values.result.now c.in-Some.commits = subst (λ o. IfSome o (TellsCommits c.args.number c.values.result.now)) c.in-Some.is c.in_ok-commits.ensures.some in
    let rise : NumbersRise c.in_order.new.commits.items = subst NumbersRise c.deref.ensures.value (c.if-rises.ensures.rise refl) in
    let entries = c.root-root.result.now in
    let alone : finite.keys c.args.tree.now ≡ [] ∷ [] = alone_of entries c.args.tree.now (subkeys_of entries) c.root-root.ensures.node c.root-root.ensures.same c.subkey_count.ensures.has (sym c.subkey_count.ensures.subkeys ∙ c.if-subkey_count-ne0.false) in
    let has = has_read c.args.number c.args.tree.now c.values.result.now c.in-Some.commits c.in_order.new.commits values c.root-root.ensures.encodable tells c.in_order.ensures.same alone rise in
    let ringed = ap named_commits (sym c.from_vec-commits.ensures.items) in (
      passes c.args.number c.args.tree.now (named_commits c.in_order.new.commits.items) has.0 has.1 c.ranges.number.fits,
      subst (λ (l : List Commit). HasCommits l c.args.tree.now) ringed has.0,
      subst (AreUpTo c.args.number) ringed has.1,
    )

pub returns-else-rises-clause-none : goal.returns-else-rises-clause-none
returns-else-rises-clause-none c =
    let values = root_values_are c.args.tree.now c.root-root.result.now c.key.result.now c.root-root.ensures.node c.root-root.ensures.same c.key.ensures.here ∙ sym c.values.ensures in
    let tells : TellsCommits c.args.number c.values.result.now c.in-Some.commits = subst (λ o. IfSome o (TellsCommits c.args.number c.values.result.now)) c.in-Some.is c.in_ok-commits.ensures.some in
    not_rising c.args.number c.args.tree.now c.values.result.now values c.in-Some.commits c.in_order.new.commits tells c.in_order.ensures.same c.in_order.ensures.sorted
    (λ rise. c.if-rises.ensures.not refl (subst NumbersRise (sym c.deref.ensures.value) rise))
