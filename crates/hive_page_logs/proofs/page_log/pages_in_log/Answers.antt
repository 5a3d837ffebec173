use Rattle.std.proofs.Common.{Result, IfOk, sym, ◌∙◌, subst}
use Rattle.hive_page_logs.specs.PageLogs.{IsWholeOr, PagesSeen}
use Rattle.hive_page_logs.specs.declared.page_log.PageFault.{PageFault}
use Rattle.hive_page_logs.proofs.Read.{log_behind}
use Rattle.hive_page_logs.proofs.page_log.pages_in_log.Goals as goal

pub returns-in-None-clause-read : goal.returns-in-None-clause-read
returns-in-None-clause-read c =
    let bytes = c.args.bytes.now in
    let Read : Result PagesSeen PageFault → Type 0 = λ wanted. IfOk c.behind_block.result (IsWholeOr bytes wanted) in
    subst Read (log_behind bytes c.in-Some.block c.in-Some.ensures.some.0 c.in-Some.ensures.some.1 (sym c.block_fault.ensures ∙ c.in-None.is)) c.behind_block.ensures.read
