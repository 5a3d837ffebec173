use Rattle.std.proofs.Common.{refl}
use Rattle.key_walk.proofs.Rows.{on_ok}
use Rattle.reg_export.specs.SinkLaws.{prints_both}
use Rattle.reg_export.proofs.Columns.{value_line}
use Rattle.reg_export.proofs.reg_value.write_value.Goals as goal

pub returns : goal.returns
returns g c = on_ok c.write_text.result (λ end. prints_both c.args.encoding _ _ _ _ _ _ (prints_both c.args.encoding _ _ _ _ _ _ c.in_ok-write_head.ensures c.in_ok-write_data.ensures refl) end
    (value_line c.args.value.now c.units-name.result.now c.bytes.result.now c.head_columns.result c.units-name.ensures c.bytes.ensures c.head_columns.ensures)) c.write_text.ensures
