use Rattle.std.proofs.Common.{◌∙◌, sym, ap, inl, inr}
use Rattle.reg_file.specs.Reading.{closed_name}
use Rattle.reg_file.specs.Views.{quote_view}
use Rattle.reg_file.proofs.Values.{name_quote}
use Rattle.reg_file.proofs.value_line.read_name.Goals as goal

pub returns-in-Closed : goal.returns-in-Closed
returns-in-Closed c =
    ap (λ end. closed_name (quote_view end c.read_quote.new.text)) (sym c.in-Closed.is)
    ∙ name_quote c.args.line.now c.in-Some-eq34-default.others.now c.new-name.result c.in-Some-eq34-default.field-0-0.now (quote_view c.in_ok-rest-in-Some-eq34-default.field-0 c.read_quote.new.text)
    (c.in-Some-eq34-default.ensures.cases).0 c.in-Some-eq34-default.field-0-0-test c.new-name.ensures c.in_ok-rest-in-Some-eq34-default.ensures

pub returns-in-Some-eq34-default : goal.returns-in-Some-eq34-default
returns-in-Some-eq34-default c =
    let text = c.read_quote.new.text in
    let end = c.in_ok-rest-in-Some-eq34-default.field-0 in
    let read = name_quote c.args.line.now c.in-Some-eq34-default.others.now c.new-name.result c.in-Some-eq34-default.field-0-0.now (quote_view end text) (c.in-Some-eq34-default.ensures.cases).0 c.in-Some-eq34-default.field-0-0-test c.new-name.ensures c.in_ok-rest-in-Some-eq34-default.ensures in
    elim c.in-Open.is [
      | inl open_end ↦ ap (λ e. closed_name (quote_view e text)) (sym open_end) ∙ read
      | inr wrong ↦ ap (λ e. closed_name (quote_view e text)) (sym wrong) ∙ read
    ]
