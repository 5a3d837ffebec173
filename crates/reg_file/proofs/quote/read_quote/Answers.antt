use Rattle.std.proofs.Common.{◌∙◌, sym, ap}
use Rattle.reg_file.specs.Scanning.{quote_at, onto_quote}
use Rattle.reg_file.proofs.Scans.{quote_unit, quote_escaped}
use Rattle.reg_file.proofs.quote.read_quote.Goals as goal

pub loop-unit-preserved : goal.loop-unit-preserved
loop-unit-preserved c =
    ap (λ escaped. onto_quote c.push-else-unit-eq0.new.self (quote_at escaped c.in-Some.others.now)) c.if-escaped.false
    ∙ quote_unit c.loop-unit.text c.push-else-unit-eq0.new.self c.in-Some.unit.now c.in-Some.others.now c.loop-unit.rest.now (c.in-Some.ensures.cases).0 c.in_ok-push-2.ensures c.if-unit-eq34.false c.if-unit-eq92.false c.if-unit-eq0.false
    ∙ ap (λ escaped. onto_quote c.loop-unit.text (quote_at escaped c.loop-unit.rest.now)) (sym c.if-escaped.false) ∙ c.loop-unit.invariant

pub loop-unit-preserved-then-escaped : goal.loop-unit-preserved-then-escaped
loop-unit-preserved-then-escaped c =
    quote_escaped c.loop-unit.text c.push.new.self c.in-Some.unit.now c.in-Some.others.now c.loop-unit.rest.now (c.in-Some.ensures.cases).0 c.in_ok-push.ensures (sym c.if-not-is_escaped.ensures)
    ∙ ap (λ escaped. onto_quote c.loop-unit.text (quote_at escaped c.loop-unit.rest.now)) (sym c.if-escaped.true) ∙ c.loop-unit.invariant
