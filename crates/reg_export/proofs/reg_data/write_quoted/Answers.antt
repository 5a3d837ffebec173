use Rattle.std.proofs.Common.{refl}
use Rattle.key_walk.proofs.Rows.{on_ok}
use Rattle.reg_export.specs.SinkLaws.{prints_both}
use Rattle.reg_export.proofs.reg_data.write_quoted.Goals as goal

pub returns : goal.returns
returns g c = on_ok c.write_text-2.result (λ end. prints_both c.args.encoding _ _ _ _ _ _ (prints_both c.args.encoding _ _ _ _ _ _ c.in_ok-write_text.ensures c.in_ok-write_quoted_byte_units.ensures refl) end refl) c.write_text-2.ensures
