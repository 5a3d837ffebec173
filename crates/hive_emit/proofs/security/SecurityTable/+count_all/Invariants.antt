use Rattle.std.proofs.Common.{◌≡◌, ◌≤◌, ◌+◌, [], length, take, sum_by, Some}
use Rattle.reg_tree_parts.specs.Rows.{Row}
use Rattle.reg_tree_parts.specs.Nodes.{all_below, row_at, subkeys_of}
use Rattle.hive_emit.specs.EmittedKeys.{IsCounted, AreCounted, Keeps, AreShort}
use Rattle.hive_emit.specs.Forms.{has_descriptor, keys_with}
use Rattle.hive_emit.specs.SecurityTables.{tallies, Counts, AreSome}
use Rattle.hive_emit.specs.KeyCosts.{securities_cost, row_security_cost, descriptors_cost}
use Rattle.hive_emit.proofs.security.SecurityTable.+count_all.Given as goal

abbrev pub invariant-loop-index : goal.invariant-loop-index
invariant-loop-index l = record {
  own : (row : Row) → row_at l.node [] ≡ Some row → IsCounted l.self row;
  subkey_list : AreCounted l.self (all_below (take l.index (subkeys_of l.node)));
  keeps : Keeps l.fn.self l.self;
  cost : (row : Row) → row_at l.node [] ≡ Some row → securities_cost l.self ≤ securities_cost l.fn.self + row_security_cost row + sum_by (λ k. descriptors_cost k.1) (take l.index (subkeys_of l.node));
  short : AreShort l.fn.self → AreShort l.self;
  counts : (row : Row) → row_at l.node [] ≡ Some row → Counts (tallies l.fn.self) (tallies l.self) (1 + sum_by (λ k. length k.1) (take l.index (subkeys_of l.node))) (λ d. has_descriptor d row + sum_by (λ k. keys_with d k.1) (take l.index (subkeys_of l.node)));
  some : AreSome (tallies l.fn.self) → AreSome (tallies l.self);
}

abbrev pub decreases-count_all : goal.decreases-count_all
decreases-count_all l = length l.node.now
