use Rattle.std.proofs.Common.{List, ℕ, sym, ap, ◌++◌, Some}
use Rattle.std.specs.List.{flat_map}
use Rattle.std.proofs.lemmas.List.{append-nil}
use Rattle.std.proofs.lemmas.Result.{IfOk-weaker}
use Rattle.reg_export.specs.RegTexts.{reg_header, reg_key_lines}
use Rattle.reg_export.specs.SinkLaws.{file_both}
use Rattle.salvage_report.specs.Told.{rows_shown}
use Rattle.salvage_report.proofs.forms.print_reg.Goals as goal

pub returns : goal.returns
returns g c = IfOk-weaker c.print_reg_lines.result _ _ (λ totals its.
    let lines = flat_map (reg_key_lines c.args.prefix.now) (rows_shown (Some c.args.encoding, c.args.path.now) its.0) in
    (its.0, its.1, file_both c.args.encoding _ _ _ reg_header lines _ c.in-Ok.ensures its.2 (ap (λ (t : List ℕ). reg_header ++ t) (sym (append-nil lines))))) c.print_reg_lines.ensures
