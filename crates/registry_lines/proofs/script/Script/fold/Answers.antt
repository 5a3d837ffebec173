use Rattle.std.proofs.Common.{◌∙◌, inr, refl, sym}
use Rattle.registry_lines.specs.Interpreters.{script_of}
use Rattle.registry_lines.proofs.script.Script.fold.Goals as goal

pub returns : goal.returns
returns g c =
    let flushed = c.flush-reply in
    let step = c.step_refusal-refusal in
    inr (script_of flushed.new.self, (flushed.result, flushed.ensures, sym c.is_refusal.ensures ∙ c.if-is_refusal.false), (step.ensures.goes_on, step.ensures.probes, step.ensures.session), step.result, step.ensures.may, refl)
