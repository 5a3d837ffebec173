use Rattle.std.proofs.Common.{◌≡◌, take}
use Rattle.hive_records.specs.Numbers.{words_from}
use Rattle.hive_lookup.proofs.lists.offsets_in.Given as goal

abbrev pub invariant-loop-index : goal.invariant-loop-index
invariant-loop-index l = l.listed.items ≡ take l.index (words_from l.list 0 4 l.count)
