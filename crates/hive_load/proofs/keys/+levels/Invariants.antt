use Rattle.std.proofs.Common.{◌≡◌, ◌≤◌, ◌+◌, ◌*◌, length, take}
use Rattle.reg_tree_parts.specs.Nodes.{subkey_entries, AreNodes}
use Rattle.hive_cells.specs.Bins.{Cells, Shows}
use Rattle.hive_load_parts.specs.CellReads.{marks_of, set_flags, Spreads}
use Rattle.hive_load_parts.specs.Descriptors.{AreDescriptors}
use Rattle.hive_load.specs.Answers.{LoadsKeys}
use Rattle.hive_load.proofs.keys.+levels.Given as goal

abbrev pub decreases-load_key : goal.decreases-load_key
decreases-load_key l = 2 * l.levels

abbrev pub decreases-load_keys : goal.decreases-load_keys
decreases-load_keys l = 2 * l.levels + 1

abbrev pub invariant-load_keys-loop-at : goal.invariant-load_keys-loop-at
invariant-load_keys-loop-at l = record {
  covers : length l.seen ≡ length l.fn.seen;
  known : AreDescriptors l.image.bytes l.known;
  spreads : Spreads l.image.bytes l.fn.seen l.seen;
  works : l.looks + 2 * set_flags l.fn.seen ≤ l.fn.looks + 2 * set_flags l.seen;
  nodes : AreNodes (subkey_entries l.nodes.items);
  loaded : (cells : Cells) → Shows l.image.bytes cells → LoadsKeys l.split cells (marks_of l.fn.seen) (marks_of l.seen) l.fn.known l.known l.levels (take l.at-index l.offsets) (subkey_entries l.nodes.items);
}
