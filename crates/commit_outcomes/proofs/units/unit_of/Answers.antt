use Rattle.std.proofs.Common.{is_some, unwrap_or, [], sym, ◌∙◌, ap}
use Rattle.std.proofs.lemmas.Bool.{false_from_ne_true, false≢true}
use Rattle.uuid.specs.Text.{parsed}
use Rattle.commit_outcomes.specs.Units as units
use Rattle.commit_outcomes.proofs.UnitNames.{text_if, no_text, text_parts, parsed_is, parses}
use Rattle.commit_outcomes.proofs.units.unit_of.Goals as goal

pub returns-in_err-text-clause-is : goal.returns-in_err-text-clause-is
returns-in_err-text-clause-is c = ap is_some c.from_residual.ensures ∙ sym (no_text c.args.name.now (c.in_err-text.ensures ∙ ap text_if c.units.ensures))

pub returns-in-Ok-clause-is : goal.returns-in-Ok-clause-is
returns-in-Ok-clause-is c =
    let parts = text_parts c.args.name.now c.in_ok-text.text (c.in_ok-text.ensures ∙ ap text_if c.units.ensures) in
    sym (parsed_is c.args.name.now parts.1 parts.2 c.in-Ok.unit (ap parsed (sym parts.0) ∙ sym c.in-Ok.ensures.bytes))

pub returns-in-Ok-clause-named : goal.returns-in-Ok-clause-named
returns-in-Ok-clause-named c =
    let parts = text_parts c.args.name.now c.in_ok-text.text (c.in_ok-text.ensures ∙ ap text_if c.units.ensures) in
    let unit = parses c.args.name.now (parsed_is c.args.name.now parts.1 parts.2 c.in-Ok.unit (ap parsed (sym parts.0) ∙ sym c.in-Ok.ensures.bytes)) in
    ap units.unit_name (ap (λ o. unwrap_or o []) (c.in-Ok.ensures.bytes ∙ ap parsed parts.0 ∙ unit.1)) ∙ unit.2

pub returns-in-Err-clause-is : goal.returns-in-Err-clause-is
returns-in-Err-clause-is c =
    let parts = text_parts c.args.name.now c.in_ok-text.text (c.in_ok-text.ensures ∙ ap text_if c.units.ensures) in
    sym (false_from_ne_true (units.is_unit_name c.args.name.now) (λ is.
    let unit = parses c.args.name.now is in
    false≢true (c.in-Err.ensures.ok.1 (unit.0, ap parsed parts.0 ∙ unit.1))))
