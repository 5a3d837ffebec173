use Rattle.std.proofs.Common.{◌≡◌, length}
use Rattle.hive_load_parts.specs.CellReads.{marks_of}
use Rattle.key_walk.specs.KeyPaths.{names_on}
use Rattle.hive_salvage.specs.Events.{Tells}
use Rattle.hive_salvage.specs.Salvage.{ListNames}
use Rattle.hive_salvage.proofs.subkeys.from_elements.Given as goal

abbrev pub invariant-loop-place : goal.invariant-loop-place
invariant-loop-place g l = record {
  covers : length l.seen ≡ length l.fn.seen;
  steps : Tells g.S.SalvageSink.Took l.fn.sink l.sink l.image.bytes (λ cells told. ListNames cells (names_on l.path) l.leaf l.list l.place (marks_of l.fn.seen, l.fn.siblings.items) (marks_of l.seen, l.siblings.items) told);
}
