use Rattle.std.proofs.Common.{Some, None}
use Rattle.store_driver.proofs.Later.{later_on, later_same}
use Rattle.store_driver.proofs.StepRuns.{none_made, one_before, one_refused}
use Rattle.store_driver.proofs.background_work.run_until_idle.Goals as goal

pub returns-in_default-clause-works : goal.returns-in_default-clause-works
returns-in_default-clause-works g c = c.loop.invariant.1 None c.loop.engine.machine (none_made c.loop.engine.machine)

pub returns-in-Some-make_step-clause-works : goal.returns-in-Some-make_step-clause-works
returns-in-Some-make_step-clause-works g c =
    let new = c.make_step.new.engine.machine in
    c.loop.invariant.1 (Some c.in-Some-make_step.refusal) new (one_refused c.loop.engine.machine new c.in-Some.event c.in-Some-make_step.refusal c.in-Some.ensures c.in-Some-make_step.ensures.step)

pub loop-preserved : goal.loop-preserved
loop-preserved g c =
    let D = g.D.Disk in
    let made = c.in_default-make_step.ensures.step in (
      later_on D.faithful D.failures c.args.engine.now c.loop.engine c.make_step.new.engine c.loop.invariant.0 c.make_step.ensures.later,
      λ ended new on. c.loop.invariant.1 ended new (one_before c.loop.engine.machine c.make_step.new.engine.machine new c.in-Some.event made.0 ended c.in-Some.ensures made.1 made.2 on),
    )

pub returns-clause-works : goal.returns-clause-works
returns-clause-works g c = c.loop.invariant.1 None c.loop.engine.machine (none_made c.loop.engine.machine)

pub returns-in-Some-make_step-clause-later : goal.returns-in-Some-make_step-clause-later
returns-in-Some-make_step-clause-later g c = let D = g.D.Disk in later_on D.faithful D.failures c.args.engine.now c.loop.engine c.make_step.new.engine c.loop.invariant.0 c.make_step.ensures.later

pub loop-init : goal.loop-init
loop-init g c = let D = g.D.Disk in (later_same D.faithful D.failures c.args.engine.now, λ ended new on. on)
