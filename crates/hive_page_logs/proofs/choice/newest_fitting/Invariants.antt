use Rattle.std.proofs.Common.{◌≡◌, None, drop, map}
use Rattle.std.specs.Prelude.{option_map}
use Rattle.hive_page_logs.specs.Choices.{newest_of}
use Rattle.hive_page_logs.specs.PageLogs.{page_view, whole_seen}
use Rattle.hive_page_logs.proofs.choice.newest_fitting.Given as goal

abbrev pub invariant-logs : goal.invariant-logs
invariant-logs l = newest_of l.fn.time l.fn.limits (option_map (λ log. whole_seen log.now) l.best) (map page_view (drop l.index l.logs)) ≡ newest_of l.fn.time l.fn.limits None (map page_view l.logs)
