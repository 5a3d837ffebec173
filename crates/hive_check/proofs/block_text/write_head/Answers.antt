use Rattle.hive_check.specs.BlockTexts.{bins_line, numbers_line, sum_line, version_line}
use Rattle.hive_check.proofs.Texts.{four_written, on_ok}
use Rattle.hive_check.proofs.block_text.write_head.Goals as goal

pub returns : goal.returns
returns g c =
    let report = c.args.report.now in
    on_ok c.write_numbers.result (four_written _ _ _ _ _ (version_line report.block) (bins_line report.block) (sum_line report) (numbers_line report.block) c.in_ok-write_version.ensures c.in_ok-write_bins.ensures c.in_ok-write_sum.ensures) c.write_numbers.ensures
