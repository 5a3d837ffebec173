use Rattle.std.proofs.Common.{ℕ, List, sym, ap, subst, ◌∙◌}
use Rattle.std.specs.Io.KnownBytes.{Appends}
use Rattle.reply_lines.proofs.Written.{appends_both, appends_nothing}
use Rattle.reg_export.specs.Fields.{field_text}
use Rattle.reg_export.proofs.FieldTexts.{field_step}
use Rattle.reg_export.proofs.tsv_names.write_units.Goals as goal

pub loop-first-init : goal.loop-first-init
loop-first-init g c = λ after later. later

pub loop-first-preserved : goal.loop-first-preserved
loop-first-preserved g c = λ after later. c.loop-first.invariant after
    (appends_both _ _ _ _ _ _ c.in_ok-write_first.ensures later (sym (field_step c.in-Some.first c.in-Some.others.now c.in-Some.ensures.first c.in-Some.ensures.whole) ∙ ap field_text c.in-Some.ensures.parts))

pub returns : goal.returns
returns g c =
    let known = g.W.Write.contents c.loop-first.writer in
    c.loop-first.invariant known (subst (λ (us : List ℕ). Appends known known (field_text us)) (sym c.in_default.ensures.parts) (appends_nothing known))
