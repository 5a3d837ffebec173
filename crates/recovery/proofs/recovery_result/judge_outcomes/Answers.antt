use Rattle.std.proofs.Common.{◌≡◌, ◌∙◌, inl, inr, ap, sym, subst, slice_get, Some}
use Rattle.std.proofs.lemmas.Option.{slice_get-get_or}
use Rattle.std.proofs.lemmas.Result.{IfErr-weaker}
use Rattle.commit_journal.specs.Journals.{store_of}
use Rattle.recovery.specs.Reading.{IsRefusedAsOutcomes}
use Rattle.recovery.proofs.recovery_result.judge_outcomes.Goals as goal

pub returns-in-Some-clause-fails : goal.returns-in-Some-clause-fails
returns-in-Some-clause-fails c =
    let place = (store_of c.args.read.now.journal).hives in
    let tree = c.in-Some.tree.now in
    let at = c.in-Some.ensures.lookup.3 in
    let there = subst (λ n. slice_get c.args.read.now.replay.trees.items n ≡ Some tree) (c.from.ensures ∙ c.hives-hive.ensures)
    (subst (λ ts. slice_get ts c.from.result ≡ Some tree) c.deref.ensures.value (slice_get-get_or c.deref.result.now c.from.result tree at.0 ∙ ap Some (sym (at.1 tree)))) in
    IfErr-weaker c.judge_tree.result _ _ (λ why refused. elim (refused) [
      | inl memory ↦ inl memory
      | inr wrong ↦ inr (
        tree,
        there,
        subst (λ n. IsRefusedAsOutcomes c.args.number n tree why) c.hives-hive.ensures wrong,
      )
    ]) c.judge_tree.ensures.fails
