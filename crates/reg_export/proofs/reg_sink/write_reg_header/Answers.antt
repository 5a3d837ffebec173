use Rattle.key_walk.proofs.Rows.{on_ok}
use Rattle.reg_export.specs.RegTexts.{reg_header}
use Rattle.reg_export.specs.SinkLaws.{file_begun}
use Rattle.reg_export.proofs.reg_sink.write_reg_header.Goals as goal

pub returns : goal.returns
returns g c = on_ok c.write_text.result (λ written. file_begun c.args.encoding _ _ _ reg_header c.in_ok-write_mark.ensures written) c.write_text.ensures
