use Rattle.std.proofs.Common.{◌≡◌, map, take}
use Rattle.hive_page_logs.specs.PageLogs.{page_view, page_view_of}
use Rattle.recovery_report.specs.Recoveries.{log_report}
use Rattle.recovery_report.proofs.report.logs_found.Given as goal

-- what is told of the logs so far, and what they are as logs of pages
abbrev pub invariant-logs : goal.invariant-logs
invariant-logs l = (l.reports.items ≡ map (log_report l.fn.waiting) (take l.index l.logs)) × (map page_view l.pages.items ≡ map page_view_of (take l.index l.logs))
