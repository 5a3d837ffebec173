use Rattle.std.proofs.Common.{◌≡◌, ◌+◌, ◌*◌, length}
use Rattle.hive_load_parts.specs.CellReads.{marks_of}
use Rattle.hive_load_parts.specs.Descriptors.{AreDescriptors}
use Rattle.key_walk.specs.KeyPaths.{names_on}
use Rattle.hive_salvage.specs.Events.{Steps, Tells}
use Rattle.hive_salvage.specs.Salvage.{DeeperThan, InTurn}
use Rattle.hive_salvage.proofs.walk.+salvaging.Given as goal

abbrev pub decreases-salvage_key : goal.decreases-salvage_key
decreases-salvage_key g l = 3 * l.levels + 2

abbrev pub decreases-salvage_keys : goal.decreases-salvage_keys
decreases-salvage_keys g l = 3 * l.levels + 1

abbrev pub decreases-salvage_sibling : goal.decreases-salvage_sibling
decreases-salvage_sibling g l = 3 * l.levels

abbrev pub invariant-salvage_keys-loop-place : goal.invariant-salvage_keys-loop-place
invariant-salvage_keys-loop-place g l = record {
  covers : length l.seen ≡ length l.fn.seen;
  known : AreDescriptors l.image.bytes l.known;
  steps : Tells g.S.SalvageSink.Took l.fn.sink l.sink l.image.bytes (λ cells told. Steps (InTurn cells (DeeperThan l.split cells l.levels) (names_on l.above) l.siblings) l.place (marks_of l.fn.seen) (marks_of l.seen) told);
}
