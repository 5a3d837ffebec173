use Rattle.std.proofs.Common.{List, Option, ◌∙◌, ap, map, subst}
use Rattle.base_block.specs.declared.block.BaseBlock.{BaseBlock}
use Rattle.hive_page_logs.specs.PageLogs.{PagesSeen, page_view}
use Rattle.recovery_report.specs.Outcomes.{IsOutcome}
use Rattle.recovery_report.specs.Recoveries.{first_block, log_report, waiting_of}
use Rattle.recovery_report.specs.declared.report.Waiting.{Waiting}
use Rattle.recovery_report.proofs.Blocks.{block_read}
use Rattle.recovery_report.proofs.report.recover.Goals as goal

pub returns-clause-recovers : goal.returns-clause-recovers
returns-clause-recovers c =
    let file = c.args.file.now in
    let logs = c.args.logs.now in
    let limits = c.args.limits in
    let read = block_read file c.read_first-block.result c.read_first-block.ensures.some c.read_first-block.ensures.none in
    let its = c.outcome_of-runs.result in
    let Views : List (Option PagesSeen) → Type 0 = λ views. IsOutcome file (first_block file) limits logs views its.runs.items its.pages its.outcome in
    let Blocks : Option BaseBlock → Type 0 = λ block. IsOutcome file block limits logs (map page_view c.deref.result.now) its.runs.items its.pages its.outcome in
    record {
      block = read;
      logs_are = c.in_ok-found.ensures.reports ∙ ap (λ (waiting : Option Waiting). map (log_report waiting) logs) (c.numbers_wanted.ensures ∙ ap (λ (block : Option BaseBlock). waiting_of block limits logs) read);
      outcome_is = subst Views (ap (map page_view) c.deref.ensures.value ∙ c.in_ok-found.ensures.pages) (subst Blocks read c.outcome_of-runs.ensures);
    }
