use Rattle.std.proofs.Common.{◌≡◌, ℕ, Option}
use Rattle.hive_log_entries.specs.Pages.{page_start}
use Rattle.hive_recovery.specs.Laid.{HoldsImage, pages_laid}
use Rattle.hive_recovery.proofs.bins.lay_entry.Given as goal

abbrev pub invariant-pages : goal.invariant-pages
invariant-pages l = (l.start ≡ page_start l.entry l.index) × ((image : ℕ → Option ℕ) → HoldsImage l.initial.cells image → HoldsImage l.cells (pages_laid image l.entry l.index))
