use Rattle.std.proofs.Common.{map, refl}
use Rattle.std.specs.List.{flat_map}
use Rattle.key_walk.proofs.Rows.{on_ok}
use Rattle.reg_export.specs.RegTexts.{reg_header, reg_hive_lines}
use Rattle.reg_export.specs.Hives.{keys_of}
use Rattle.reg_export.specs.SinkLaws.{file_both}
use Rattle.reg_export.proofs.whole_file.write_file.Goals as goal

pub returns : goal.returns
returns g c =
    on_ok c.write_hives.result (λ hives. file_both c.args.encoding _ _ _ reg_header (flat_map reg_hive_lines (map keys_of c.args.hives.now)) _ c.in_ok-write_reg_header.ensures hives refl) c.write_hives.ensures
