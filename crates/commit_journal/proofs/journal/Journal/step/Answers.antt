use Rattle.std.proofs.Common.{⊎_elim, []}
use Rattle.change_codec.specs.ModelChanges.{timed_elements}
use Rattle.commit_journal.proofs.Progress.{continues}
use Rattle.commit_journal.proofs.journal.Journal.step.Goals as goal

pub returns-then-not-is_at_rest-clause-says : goal.returns-then-not-is_at_rest-clause-says
returns-then-not-is_at_rest-clause-says g c = c.go_on.ensures.says c.args.first (timed_elements c.args.handed.now)

pub returns-then-not-is_at_rest-clause-no_change : goal.returns-then-not-is_at_rest-clause-no_change
returns-then-not-is_at_rest-clause-no_change g c = λ either.
    let loud = c.if-not-is_at_rest.true in
    ⊎_elim c.go_on.ensures.no_change (λ none. absurd (continues _ _ _ (c.go_on.ensures.says 0 []) (λ n. let quiet = c.is_at_rest.ensures.none.1 n in (cc)) none)) either
