use Rattle.std.proofs.Common.{ℕ, List, ◌<◌, subst, sym}
use Rattle.hive_log_entries.specs.Pages.{page_count}
use Rattle.hive_log_entries.proofs.Stops.{reference_there}
use Rattle.hive_log_entries.proofs.entry.LogEntry.reference.Goals as goal

pub reference-requires : goal.reference-requires
reference-requires c =
    let Inside : List ℕ → Type 0 = λ bytes. c.args.index < page_count bytes in
    reference_there c.self.inside.bytes.now c.args.index c.self.invariant.1 (subst Inside (sym c.self.view_is) c.requires)
