use Rattle.std.proofs.Common.{List, ℕ, sym, ap, ◌++◌}
use Rattle.std.specs.List.{flat_map}
use Rattle.std.proofs.lemmas.List.{append-nil}
use Rattle.key_walk.specs.KeyRows.{tree_rows}
use Rattle.reg_export.specs.RegTexts.{reg_header, reg_key_lines}
use Rattle.reg_export.specs.SinkLaws.{file_both}
use Rattle.key_walk.specs.KeyPaths.{names_on}
use Rattle.hive_walk.specs.Walks.{rows_under}
use Rattle.store_export.proofs.FilePrints.{printed_so}
use Rattle.store_export.proofs.hive_part.print_reg.Goals as goal

pub returns : goal.returns
returns g c = λ tree encodes.
    let lines = flat_map (reg_key_lines c.args.prefix.now) (rows_under (names_on c.args.way.now) (tree_rows tree)) in
    printed_so c.print_reg_lines.result (λ written. file_both c.args.encoding _ _ _ reg_header lines _ c.in_ok-write_reg_header.ensures written
    (ap (λ (t : List ℕ). reg_header ++ t) (sym (append-nil lines)))) (c.print_reg_lines.ensures tree encodes)
