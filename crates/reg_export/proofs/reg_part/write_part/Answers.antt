use Rattle.std.proofs.Common.{List, ℕ, sym, ap, ◌++◌}
use Rattle.std.proofs.lemmas.List.{append-nil}
use Rattle.reg_names.specs.Names.{folded_path}
use Rattle.key_walk.proofs.Rows.{on_ok}
use Rattle.reg_export.specs.RegTexts.{reg_header, reg_hive_lines}
use Rattle.reg_export.specs.Hives.{keys_below}
use Rattle.reg_export.specs.SinkLaws.{file_both}
use Rattle.reg_export.proofs.reg_part.write_part.Goals as goal

pub returns : goal.returns
returns g c =
    let lines = reg_hive_lines (keys_below c.args.hive.now (folded_path c.args.path.now)) in
    on_ok c.write_lines.result (λ written. file_both c.args.encoding _ _ _ reg_header lines _ c.in_ok-write_reg_header.ensures written (ap (λ (t : List ℕ). reg_header ++ t) (sym (append-nil lines)))) c.write_lines.ensures
