use Rattle.std.proofs.Common.{◌∙◌}
use Rattle.std.proofs.lemmas.Result.{IfOk-weaker}
use Rattle.reg_file.specs.Views.{list_view}
use Rattle.reg_file.proofs.Values.{first_bytes}
use Rattle.reg_file.proofs.value_line.scan_first.Goals as goal

pub returns : goal.returns
returns c =
    let same = first_bytes c.args.old c.args.name c.args.kind c.args.line.now c.new-bytes.result (list_view c.in_ok-end.end c.read_first.new.bytes) c.new-bytes.ensures c.in_ok-end.ensures in
    IfOk-weaker c.scan_bytes.result _ _ (λ scan e. e ∙ same) c.scan_bytes.ensures
