use Rattle.std.proofs.Common.{Some, None, false, subst}
use Rattle.store_driver.specs.Waits.{IsWaited, IsAsked}
use Rattle.store_driver.proofs.Later.{later_on, later_same}
use Rattle.store_driver.proofs.WaitRuns.{question_refused, step_refused, one_step_more, still_accepted, handed_on}
use Rattle.store_driver.proofs.durable_wait.wait.Goals as goal

pub returns-in_err-has_receipt-clause-waited : goal.returns-in_err-has_receipt-clause-waited
returns-in_err-has_receipt-clause-waited g c =
    let refusal = c.in_err-has_receipt.field-0.0 in
    let old = c.args.engine.now.machine in
    let new = c.has_receipt.new.engine.machine in
    handed_on (λ x. IsWaited old c.args.number None new) (λ why. IsWaited old c.args.number (Some why) new) c.from_residual.result refusal c.from_residual.ensures.1
    (c.loop-engine.invariant.2 (Some refusal) new (question_refused c.loop-engine.engine.machine new c.args.number refusal c.in_err-has_receipt.ensures.asked))

pub returns-in_err-step-clause-waited : goal.returns-in_err-step-clause-waited
returns-in_err-step-clause-waited g c =
    let refusal = c.in_err-step.field-0.0 in
    let old = c.args.engine.now.machine in
    let here = c.loop-engine.engine.machine in
    let mid = c.has_receipt.new.engine.machine in
    let new = c.step.new.engine.machine in
    let asked : IsAsked here c.args.number false mid = subst (λ has. IsAsked here c.args.number has mid) c.if-not-branch.true c.in_ok-has_receipt.ensures.asked in
    handed_on (λ x. IsWaited old c.args.number None new) (λ why. IsWaited old c.args.number (Some why) new) c.from_residual-in_err-step.result refusal c.from_residual-in_err-step.ensures.1
    (c.loop-engine.invariant.2 (Some refusal) new (step_refused here mid new c.args.number refusal asked c.in_err-step.ensures.made))

pub loop-engine-preserved : goal.loop-engine-preserved
loop-engine-preserved g c =
    let D = g.D.Disk in
    let old = c.loop-engine.engine.machine in
    let mid = c.has_receipt.new.engine.machine in
    let next = c.step.new.engine.machine in
    let asked : IsAsked old c.args.number false mid = subst (λ has. IsAsked old c.args.number has mid) c.if-not-branch.true c.in_ok-has_receipt.ensures.asked in (
      still_accepted old mid next c.args.number asked c.in_ok-step.ensures.made c.loop-engine.invariant.0,
      later_on D.faithful D.failures c.args.engine.now c.loop-engine.engine c.step.new.engine c.loop-engine.invariant.1 (later_on D.faithful D.failures c.loop-engine.engine c.has_receipt.new.engine c.step.new.engine c.has_receipt.ensures.later c.step.ensures.later),
      λ ended new waited. c.loop-engine.invariant.2 ended new (one_step_more old mid next c.args.number ended new asked c.in_ok-step.ensures.made waited),
    )

pub returns-in_err-has_receipt-clause-later : goal.returns-in_err-has_receipt-clause-later
returns-in_err-has_receipt-clause-later g c = let D = g.D.Disk in later_on D.faithful D.failures c.args.engine.now c.loop-engine.engine c.has_receipt.new.engine c.loop-engine.invariant.1 c.has_receipt.ensures.later

pub returns-in_err-step-clause-later : goal.returns-in_err-step-clause-later
returns-in_err-step-clause-later g c =
    let D = g.D.Disk in
    later_on D.faithful D.failures c.args.engine.now c.loop-engine.engine c.step.new.engine c.loop-engine.invariant.1 (later_on D.faithful D.failures c.loop-engine.engine c.has_receipt.new.engine c.step.new.engine c.has_receipt.ensures.later c.step.ensures.later)

pub returns-clause-later : goal.returns-clause-later
returns-clause-later g c = let D = g.D.Disk in later_on D.faithful D.failures c.args.engine.now c.loop-engine.engine c.has_receipt.new.engine c.loop-engine.invariant.1 c.has_receipt.ensures.later

pub loop-engine-init : goal.loop-engine-init
loop-engine-init g c = let D = g.D.Disk in (c.requires, later_same D.faithful D.failures c.args.engine.now, λ ended new waited. waited)
