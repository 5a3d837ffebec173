-- The outcome is that of the logs that were read.
use Rattle.std.proofs.Common.{inr, subst}
use Rattle.std.proofs.lemmas.Result.{IfOk-weaker, IfErr-weaker}
use Rattle.recovery_report.specs.declared.judgement.RecoveryOutcome.{RecoveryOutcome}
use Rattle.regtx_c.specs.Recoveries.{IsOutcomeOf}
use Rattle.regtx_c.proofs.Recoveries.{outcome_of}
use Rattle.regtx_c.proofs.recovery.recovered.Goals as goal

pub returns-clause-made : goal.returns-clause-made
returns-clause-made c =
    let its = outcome_of c.args.file.now c.args.logs.now c.in_ok-read.read.items c.deref.result.now c.in_ok-found.found c.in_ok-read.ensures.read c.deref.ensures.value c.in_ok-found.ensures.recovers in
    IfOk-weaker c.bytes_of.result _ _ (λ bytes has. (c.in_ok-found.found.outcome, its, has)) c.bytes_of.ensures.made

pub returns-clause-refused : goal.returns-clause-refused
returns-clause-refused c =
    let its = outcome_of c.args.file.now c.args.logs.now c.in_ok-read.read.items c.deref.result.now c.in_ok-found.found c.in_ok-read.ensures.read c.deref.ensures.value c.in_ok-found.ensures.recovers in
    IfErr-weaker c.bytes_of.result _ _ (λ why is. inr (subst (λ (outcome : RecoveryOutcome). IsOutcomeOf c.args.file.now c.args.logs.now outcome) is its)) c.bytes_of.ensures.refused
