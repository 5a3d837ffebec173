use Rattle.std.proofs.Common.{◌≡◌, ◌≤◌, length, true}
use Rattle.hive_log_entries.specs.Pages.{page_start, pages_stand}
use Rattle.hive_log_entries.proofs.pages.are_pages_within.Given as goal

-- the pages before the index stand, and theirs end within the entry
abbrev pub invariant-pages : goal.invariant-pages
invariant-pages l = (l.end ≡ page_start l.bytes l.index) × (l.end ≤ length l.bytes) × (pages_stand l.bytes l.index ≡ true)
