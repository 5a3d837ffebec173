use Rattle.std.proofs.Common.{◌∙◌}
use Rattle.key_walk.proofs.Rows.{on_ok}
use Rattle.reg_export.specs.SinkLaws.{prints_both}
use Rattle.reg_export.proofs.Columns.{list_line}
use Rattle.reg_export.proofs.reg_data.write_list.Goals as goal

pub returns : goal.returns
returns g c =
    let label = c.as_bytes-label.ensures.value ∙ c.as_str.ensures.value ∙ c.in-Ok.ensures in
    on_ok c.write_bytes.result (λ list. prints_both c.args.encoding _ _ _ _ _ _ c.in_ok-write_text.ensures list (list_line c.args.column c.saturating_add.result c.args.kind c.as_bytes-label.result.now c.args.bytes.now label c.saturating_add.ensures)) c.write_bytes.ensures
