use Rattle.std.proofs.Common.{refl}
use Rattle.reply_lines.proofs.Written.{appends_both}
use Rattle.key_walk.proofs.Rows.{on_ok}
use Rattle.reg_export.specs.ByteUnits.{units_of}
use Rattle.reg_export.proofs.Texts.{json_parted}
use Rattle.reg_export.proofs.json_value.write_texts.Goals as goal

pub returns : goal.returns
returns g c = on_ok c.write_all-2.result (λ end. appends_both _ _ _ _ _ _ (appends_both _ _ _ _ _ _ c.in_ok-write_all.ensures.bytes c.in_ok-write_byte_units.ensures refl) end
    (json_parted (units_of c.args.bytes.now))) c.write_all-2.ensures.bytes
