use Rattle.std.proofs.Common.{◌≡◌, ◌≤◌, ◌*◌, length}
use Rattle.hive_load_parts.specs.CellReads.{marks_of}
use Rattle.key_walk.specs.KeyPaths.{names_on}
use Rattle.hive_salvage.specs.Events.{Tells}
use Rattle.hive_salvage.specs.Salvage.{LeavesAre}
use Rattle.hive_salvage.proofs.subkeys.from_leaves.Given as goal

abbrev pub invariant-loop-leaf : goal.invariant-loop-leaf
invariant-loop-leaf g l = record {
  covers : length l.seen ≡ length l.fn.seen;
  few : l.listed ≤ 65_535 * l.leaf;
  steps : Tells g.S.SalvageSink.Took l.fn.sink l.sink l.image.bytes (λ cells told. LeavesAre cells (names_on l.path) l.list l.leaf ((marks_of l.fn.seen, l.fn.siblings.items), 0) ((marks_of l.seen, l.siblings.items), l.listed) told);
}
