use Rattle.std.proofs.Common.{[], arith, refl, subst, sym}
use mathlib.Core.List.{IsPrefix}
use Rattle.engine_invariant.specs.Engines.{EngineView}
use Rattle.ktm_calls.specs.Moments.{no_sight}
use Rattle.registry_runner.specs.Parts.{SeesAllAsked}
use Rattle.registry_runner.specs.Running.{EndsPartAfter}
use Rattle.registry_runner.specs.declared.parts.PartEnd.TheVariants.{RunEnded}
use Rattle.registry_runner.proofs.Ending.{begins_not}
use Rattle.registry_runner.proofs.PartProofs.{none_led, not_made}
use Rattle.registry_runner.proofs.part_run.run_part.Goals as goal

pub returns-in-Err-clause-ends : goal.returns-in-Err-clause-ends
returns-in-Err-clause-ends g c =
    let O = g.O.Origin in
    let S = g.O.Start in
    let E = g.E.StoreEngine in
    let contents = g.W.Write.contents in
    let known = g.B.Read.remaining c.args.reader.now in
    let before = contents c.args.writer.now in
    let ran = c.write_refusal-ran in
    let after = contents ran.new.writer in
    let engine = c.args.engine in
    let now = E.state engine in
    let nothing : SeesAllAsked S.sole S.start no_sight [] = record { begins = record { list = (S.start.machine.accepted, refl); history = ([], refl) }; asked = λ so. ([], (λ k d l. absurd (omega (arith, l))), refl) } in
    let ends : EndsPartAfter [] c.args.start S.sole S.start O.trees O.number O.hives known before (RunEnded ran.result) known after = (
      no_sight,
      nothing,
      λ whole past stands. begins_not whole past c.args.start S.sole S.start O.trees O.number O.hives known before after c.in-Err.why ran.result (not_made S.sole whole past S.start O.trees O.number O.hives c.in-Err.why c.in-Err.ensures.refused.0 stands) ran.ensures,
    ) in
    rw c.in-Err.ensures.refused.1 (
      [],
      none_led S.start now S.safe (E.safe engine) S.faithful (E.faithful engine) c.requires.start c.requires.faithful c.requires.safe c.keeps_a_prefix.ensures,
      ends,
    )

pub returns-clause-ends : goal.returns-clause-ends
returns-clause-ends g c =
    let E = g.E.StoreEngine in
    let run = c.run_by-end in
    let ended = c.end-engine in
    let stood = ended.ensures.seen in (
      ended.result.events.log,
      ended.ensures.history,
      (
        run.result.1,
        record { begins = record { list = subst (λ (p : EngineView). IsPrefix run.result.1.list p.machine.accepted) (sym ended.ensures.history.now_is) stood.0; history = stood.1 }; asked = ended.ensures.asked },
        λ whole past. run.ensures whole past,
      ),
    )
