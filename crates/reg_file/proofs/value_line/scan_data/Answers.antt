use Rattle.std.proofs.Common.{◌∙◌}
use Rattle.std.proofs.lemmas.Result.{IfOk-weaker}
use Rattle.reg_file.proofs.Values.{data_quote}
use Rattle.reg_file.proofs.value_line.scan_data.Goals as goal

pub returns-in-Some-eq34-default : goal.returns-in-Some-eq34-default
returns-in-Some-eq34-default c =
    let same = data_quote c.args.old c.args.name c.args.line.now c.in-Some-eq34-default.rest.now c.new.result c.in-Some-eq34-default.field-0-0.now (c.in-Some-eq34-default.ensures.cases).0 c.in-Some-eq34-default.field-0-0-test c.new.ensures in
    IfOk-weaker c.scan_text.result _ _ (λ scan e. e ∙ same) c.scan_text.ensures
