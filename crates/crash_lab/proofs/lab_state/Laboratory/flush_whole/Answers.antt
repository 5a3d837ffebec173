use Rattle.std.proofs.Common.{◌∙◌, true≢false, refl, sym, subst, arith}
use Rattle.store_model.specs.declared.event.Event.TheVariants as event
use Rattle.reply_lines.specs.declared.reply.ReplyLine.TheVariants as reply
use Rattle.script_runner.specs.Interpreters.{script_of}
use Rattle.script_runner.specs.Scripts.{Asks}
use Rattle.crash_lab.specs.Experiments.{most_steps}
use Rattle.crash_lab.proofs.Flushing.{last_step, step_before, none_left}
use Rattle.crash_lab.proofs.lab_state.Laboratory.flush_whole.Goals as goal

pub loop-made-init : goal.loop-made-init
loop-made-init c = (refl, refl, λ reported new flushed. record { steps = flushed })

pub returns-then-not-is_more-clause-reported : goal.returns-then-not-is_more-clause-reported
returns-then-not-is_more-clause-reported c =
    let new = script_of c.ask-reported.new.self in
    c.loop-made.invariant.2 c.ask-reported.result new
    (last_step most_steps c.loop-made._made c.args.hive (script_of c.loop-made.self.interpreter) new c.ask-reported.result c.loop-made-test.true c.ask-reported.ensures.reported
    (λ more. true≢false (sym (c.is_more.ensures.1 more) ∙ c.if-not-is_more.true)))

pub loop-made-preserved : goal.loop-made-preserved
loop-made-preserved c =
    let old = script_of c.loop-made.self.interpreter in
    let mid = script_of c.ask-reported.new.self in
    let asked : Asks old (event.FlusherStep c.args.hive) reply.StepMore mid = subst (λ reported. Asks old (event.FlusherStep c.args.hive) reported mid) (c.is_more.ensures.0 c.if-not-is_more.false) c.ask-reported.ensures.reported in
    (c.loop-made.invariant.0, c.loop-made.invariant.1, λ reported new on. c.loop-made.invariant.2 reported new (step_before most_steps c.loop-made._made c.args.hive old mid new reported c.loop-made-test.true asked on))

pub returns-clause-reported : goal.returns-clause-reported
returns-clause-reported c =
    let script = script_of c.loop-made.self.interpreter in
    c.loop-made.invariant.2 reply.StepMore script (none_left most_steps c.loop-made._made c.args.hive script (omega (arith, c.loop-made-test.false)))
