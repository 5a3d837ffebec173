use Rattle.std.proofs.Common.{◌∙◌}
use Rattle.persistent_map.proofs.Entries.{singles, entries_are}
use Rattle.persistent_map.proofs.map.SharedMap.from_vec.Goals as goal

pub of_entries-requires : goal.of_entries-requires
of_entries-requires g c = entries_are g.E.MapEntry.key g.E.MapEntry.entry_weight c.args.items.items

pub returns-clause-entries : goal.returns-clause-entries
returns-clause-entries g c = c.in_ok-made.ensures.entries ∙ singles g.E.MapEntry.key c.args.items.items
