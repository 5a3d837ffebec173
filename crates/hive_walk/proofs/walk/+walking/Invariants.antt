use Rattle.std.proofs.Common.{◌≡◌, ◌+◌, ◌*◌, length, take}
use Rattle.std.specs.List.{flat_map}
use Rattle.std.specs.List.Sorted.{IsPermutation}
use Rattle.reg_tree_parts.specs.Rows.{Row}
use Rattle.hive_cells.specs.Bins.{Cells, Shows}
use Rattle.hive_tree_model.specs.Keys.{Keys, own_cells}
use Rattle.hive_load_parts.specs.CellReads.{marks_of}
use Rattle.hive_load_parts.specs.Descriptors.{AreDescriptors}
use Rattle.key_walk.specs.KeyPaths.{names_on}
use Rattle.key_walk.specs.KeyRows.{subkey_rows}
use Rattle.hive_walk.specs.Siblings.{siblings_in}
use Rattle.hive_walk.specs.Walks.{KeysAreSound, AreUnmarked, MarksOnly, nodes_of_siblings}
use Rattle.hive_walk.proofs.Walked.{cells_of}
use Rattle.hive_walk.proofs.walk.+walking.Given as goal

abbrev pub decreases-walk_key : goal.decreases-walk_key
decreases-walk_key g l = 2 * l.levels + 1

abbrev pub decreases-walk_keys : goal.decreases-walk_keys
decreases-walk_keys g l = 2 * l.levels

-- the subkeys so far were taken with all keys below them
abbrev pub invariant-walk_keys-loop-sibling : goal.invariant-walk_keys-loop-sibling
invariant-walk_keys-loop-sibling g l = record {
  covers : length l.seen ≡ length l.fn.seen;
  known : AreDescriptors l.image.bytes l.known;
  took : (cells : Cells) → Shows l.image.bytes cells → (keys : Keys Row) → KeysAreSound l.split cells l.levels keys → IsPermutation (siblings_in keys) l.siblings →
      AreUnmarked (marks_of l.fn.seen) (own_cells keys) →
      MarksOnly (marks_of l.fn.seen) (marks_of l.seen) (cells_of keys (take l.sibling-index l.siblings))
      × g.S.KeySink.Took l.fn.sink l.sink (flat_map (subkey_rows (names_on l.above)) (take l.sibling-index (nodes_of_siblings keys l.siblings)));
}
