use Rattle.std.proofs.Common.{◌∙◌, ℕ, [], refl, Option, rules, subst}
use Rattle.std.specs.Prelude.{IfSome}
use Rattle.store_model.specs.Steps.{Step}
use Rattle.store_model.specs.declared.event.Event.TheVariants as event
use Rattle.store_model.specs.declared.event.Reply.TheVariants as reply
use Rattle.histories.proofs.Leading.{leads_from}
use Rattle.registry_runner.specs.Folding.{HistoryStays}
use Rattle.registry_runner.proofs.Folding.{folded_at, stays_again, stays_same, unasked_on}
use Rattle.registry_runner.proofs.parts.fold.Goals as goal

pub loop-init : goal.loop-init
loop-init g c =
    let E = g.E.StoreEngine in
    let engine = c.args.engine.now in
    (stays_same (E.state engine).machine (E.state engine).machine refl, refl, ([], leads_from (E.state engine) (E.safe engine) (E.faithful engine) c.keeps_a_prefix.ensures, refl))

pub returns-in-Some-2-clause-folded : goal.returns-in-Some-2-clause-folded
returns-in-Some-2-clause-folded g c =
    let E = g.E.StoreEngine in
    let old = (E.state c.loop.engine).machine in
    let new = (E.state c.ask_fold.new.engine).machine in
    let number = c.in-Some-2.number in
    let step = subst (λ (made : Option ℕ). IfSome made (λ number. Step old event.Fold (reply.Folded number) new)) c.in-Some-2.is c.in_ok-number.ensures.folded in
    folded_at (E.state c.args.engine.now).machine old new number c.loop.invariant.0 c.requires.sessions step

pub returns-in-Some-2-clause-history : goal.returns-in-Some-2-clause-history
returns-in-Some-2-clause-history g c =
    let E = g.E.StoreEngine in
    let first = c.args.engine.now in
    let begin = c.loop.engine in
    let asked = c.ask_fold.new.engine in
    unasked_on (E.state first) (E.state begin) (E.state asked)
    (E.safe first) (E.safe begin) (E.safe asked) (E.faithful first) (E.faithful begin) (E.faithful asked) c.loop.invariant.2 c.ask_fold.ensures.history

pub returns-in_err-number-clause-history : goal.returns-in_err-number-clause-history
returns-in_err-number-clause-history g c =
    let E = g.E.StoreEngine in
    let first = c.args.engine.now in
    let begin = c.loop.engine in
    let asked = c.ask_fold.new.engine in
    unasked_on (E.state first) (E.state begin) (E.state asked)
    (E.safe first) (E.safe begin) (E.safe asked) (E.faithful first) (E.faithful begin) (E.faithful asked) c.loop.invariant.2 c.ask_fold.ensures.history

pub returns-in_err-make_durable-clause-history : goal.returns-in_err-make_durable-clause-history
returns-in_err-make_durable-clause-history g c =
    let E = g.E.StoreEngine in
    let first = c.args.engine.now in
    let begin = c.loop.engine in
    let asked = c.ask_fold.new.engine in
    let made = c.make_durable.new.engine in
    unasked_on (E.state first) (E.state asked) (E.state made)
    (E.safe first) (E.safe asked) (E.safe made) (E.faithful first) (E.faithful asked) (E.faithful made) (unasked_on (E.state first) (E.state begin) (E.state asked)
    (E.safe first) (E.safe begin) (E.safe asked) (E.faithful first) (E.faithful begin) (E.faithful asked) c.loop.invariant.2 c.ask_fold.ensures.history) c.make_durable.ensures.history

pub loop-preserved : goal.loop-preserved
loop-preserved g c =
    let E = g.E.StoreEngine in
    let first = c.args.engine.now in
    let begin = c.loop.engine in
    let asked = c.ask_fold.new.engine in
    let made = c.make_durable.new.engine in
    let waited : HistoryStays (E.state begin).machine (E.state asked).machine = search rules in (
      stays_again (E.state first).machine (E.state asked).machine (E.state made).machine (stays_again (E.state first).machine (E.state begin).machine (E.state asked).machine c.loop.invariant.0 waited) c.make_durable.ensures.stays,
      c.make_durable.ensures.store ∙ c.ask_fold.ensures.store ∙ c.loop.invariant.1,
      unasked_on (E.state first) (E.state asked) (E.state made)
          (E.safe first) (E.safe asked) (E.safe made) (E.faithful first) (E.faithful asked) (E.faithful made) (unasked_on (E.state first) (E.state begin) (E.state asked)
          (E.safe first) (E.safe begin) (E.safe asked) (E.faithful first) (E.faithful begin) (E.faithful asked) c.loop.invariant.2 c.ask_fold.ensures.history) c.make_durable.ensures.history,
    )
