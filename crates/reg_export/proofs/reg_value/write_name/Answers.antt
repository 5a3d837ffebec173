use Rattle.std.proofs.Common.{Bool, ap, refl, codes}
use Rattle.std.specs.Prelude.{if◌then◌else◌}
use Rattle.key_walk.proofs.Rows.{on_ok}
use Rattle.reg_export.specs.RegTexts.{quoted}
use Rattle.reg_export.specs.SinkLaws.{prints_both}
use Rattle.reg_export.proofs.reg_value.write_name.Goals as goal

pub returns : goal.returns
returns g c = on_ok c.write_text-3.result (λ end. prints_both c.args.encoding _ _ _ _ _ _ (prints_both c.args.encoding _ _ _ _ _ _ c.in_ok-write_text.ensures c.in_ok-write_quoted_units.ensures refl) end
    (ap (λ (b : Bool). if b then codes "@" else quoted c.args.name.now) c.if-is_empty.ensures)) c.write_text-3.ensures
