use Rattle.std.proofs.Common.{◌≡◌, ◌+◌, List, ℕ, length, take, sum_by, refl, ap, subst, arith}
use Rattle.std.proofs.lemmas.List.{take_all}
use Rattle.reg_tree_parts.specs.Rows.{Row}
use Rattle.reg_tree_parts.specs.Nodes.{Entries, all_below, subkeys_of}
use Rattle.hive_emit.specs.EmittedKeys.{IsCounted, AreCounted}
use Rattle.hive_emit.proofs.Owns.{row_same, own_can}
use Rattle.hive_emit.proofs.KeyProofs.{can_subkey, subkeys_can, subkey_there}
use Rattle.hive_emit.proofs.SecurityTables.{counted_kept, row_kept, counted_next, counted_whole}
use Rattle.hive_emit.specs.KeyCosts.{row_security_cost, descriptors_cost}
use Rattle.hive_emit.specs.Forms.{has_descriptor, keys_with}
use Rattle.hive_emit.specs.SecurityTables.{tallies, Counts}
use Rattle.hive_emit.proofs.Counting.{counts_as, counts_then, subkey_next, node_long, node_with}
use Rattle.hive_emit.proofs.KeySums.{descriptors_next, node_sum}
use Rattle.hive_emit.proofs.security.SecurityTable.+count_all.Goals as goal

pub loop-index-init : goal.loop-index-init
loop-index-init t c = record {
  own = λ row e. subst (λ (r : Row). IsCounted c.count_key.new.self r) (row_same c.args.node.now c.key.result.now row c.key.ensures.here e) c.in_ok-count_key.ensures.counted;
  subkey_list = tt;
  keeps = c.in_ok-count_key.ensures.keeps;
  cost = λ row e. omega (arith, c.in_ok-count_key.ensures.cost, ap row_security_cost (row_same c.args.node.now c.key.result.now row c.key.ensures.here e));
  counts = λ row e. subst (λ (r : Row). Counts (tallies c.args.self.now) (tallies c.count_key.new.self) 1 (λ d. has_descriptor d r + 0)) (row_same c.args.node.now c.key.result.now row c.key.ensures.here e)
      (counts_as (tallies c.args.self.now) (tallies c.count_key.new.self) 1 1 (λ d. has_descriptor d c.key.result.now) (λ d. has_descriptor d c.key.result.now + 0) refl (λ d. omega arith) c.in_ok-count_key.ensures.counts);
  some = c.in_ok-count_key.ensures.some;
  short = c.in_ok-count_key.ensures.short (own_can c.args.node.now c.key.result.now c.key.ensures.node c.key.ensures.here c.requires.can).short;
}

pub unreachable-requires : goal.unreachable-requires
unreachable-requires t c = subkey_there (subkeys_of c.args.node.now) c.loop-index.index (omega (arith, c.loop-index-test.true, c.subkey_count-index-end.ensures.subkeys)) c.in_default.ensures.at

pub count_all-requires : goal.count_all-requires
count_all-requires t c = (omega (arith, c.decreases, c.in-Some.ensures.smaller), can_subkey (subkeys_of c.args.node.now) c.loop-index.index c.in-Some.subkey.now c.in-Some.ensures.at (subkeys_can c.args.node.now c.key.result.now c.in-Some.ensures.has c.key.ensures.here c.requires.can))

pub loop-index-preserved : goal.loop-index-preserved
loop-index-preserved t c = record {
  own = λ row e. row_kept c.loop-index.self c.count_all.new.self row c.in_ok-count_all.ensures.keeps (c.loop-index.invariant.own row e);
  subkey_list = counted_next c.count_all.new.self (subkeys_of c.args.node.now) c.loop-index.index c.in-Some.subkey.now c.in-Some.ensures.has.named c.in-Some.ensures.at (counted_kept c.loop-index.self c.count_all.new.self (all_below (take c.loop-index.index (subkeys_of c.args.node.now))) c.in_ok-count_all.ensures.keeps c.loop-index.invariant.subkey_list) c.in_ok-count_all.ensures.counted;
  keeps = λ d has. c.in_ok-count_all.ensures.keeps d (c.loop-index.invariant.keeps d has);
  cost = λ row e. omega (arith, c.loop-index.invariant.cost row e, c.in_ok-count_all.ensures.cost, descriptors_next (subkeys_of c.args.node.now) c.loop-index.index c.in-Some.subkey.now c.in-Some.ensures.has.named c.in-Some.ensures.at);
  short = λ s. c.in_ok-count_all.ensures.short (c.loop-index.invariant.short s);
  counts = λ row e. counts_as (tallies c.args.self.now) (tallies c.count_all.new.self) _ _ _ _
      (omega (arith, subkey_next (λ es. length es) (subkeys_of c.args.node.now) c.loop-index.index c.in-Some.subkey.now c.in-Some.ensures.has.named c.in-Some.ensures.at))
      (λ d. omega (arith, subkey_next (keys_with d) (subkeys_of c.args.node.now) c.loop-index.index c.in-Some.subkey.now c.in-Some.ensures.has.named c.in-Some.ensures.at))
      (counts_then (tallies c.args.self.now) (tallies c.loop-index.self) (tallies c.count_all.new.self) (1 + sum_by (λ k. length k.1) (take c.loop-index.index (subkeys_of c.args.node.now))) (length c.in-Some.subkey.now) (λ d. has_descriptor d row + sum_by (λ k. keys_with d k.1) (take c.loop-index.index (subkeys_of c.args.node.now))) (λ d. keys_with d c.in-Some.subkey.now) (c.loop-index.invariant.counts row e) c.in_ok-count_all.ensures.counts);
  some = λ s. c.in_ok-count_all.ensures.some (c.loop-index.invariant.some s);
}

pub returns-clause-counted : goal.returns-clause-counted
returns-clause-counted t c = counted_whole c.loop-index.self c.args.node.now c.key.result.now c.subkey_count-index-end.ensures.has c.key.ensures.here (c.loop-index.invariant.own c.key.result.now c.key.ensures.here)
    (subst (λ (ks : List (List ℕ × Entries)). AreCounted c.loop-index.self (all_below ks)) (take_all c.loop-index.index (subkeys_of c.args.node.now) (omega (arith, c.loop-index-test.false, c.subkey_count-index-end.ensures.subkeys))) c.loop-index.invariant.subkey_list)

pub returns-clause-cost : goal.returns-clause-cost
returns-clause-cost t c =
    let all = ap (sum_by (λ k. descriptors_cost k.1)) (take_all c.loop-index.index (subkeys_of c.args.node.now) (omega (arith, c.loop-index-test.false, c.subkey_count-index-end.ensures.subkeys))) in
    omega (arith, c.loop-index.invariant.cost c.key.result.now c.key.ensures.here, all, node_sum row_security_cost c.args.node.now c.key.result.now c.subkey_count-index-end.ensures.has c.key.ensures.here)

pub returns-clause-counts : goal.returns-clause-counts
returns-clause-counts t c =
    let ks = subkeys_of c.args.node.now in
    let all : take c.loop-index.index ks ≡ ks = take_all c.loop-index.index ks (omega (arith, c.loop-index-test.false, c.subkey_count-index-end.ensures.subkeys)) in
    counts_as (tallies c.args.self.now) (tallies c.loop-index.self) (1 + sum_by (λ k. length k.1) (take c.loop-index.index ks)) (length c.args.node.now) (λ d. has_descriptor d c.key.result.now + sum_by (λ k. keys_with d k.1) (take c.loop-index.index ks)) (λ d. keys_with d c.args.node.now)
    (omega (arith, ap (sum_by (λ k. length k.1)) all, node_long c.args.node.now c.key.result.now c.subkey_count-index-end.ensures.has c.key.ensures.here))
    (λ d. omega (arith, ap (sum_by (λ k. keys_with d k.1)) all, node_with d c.args.node.now c.key.result.now c.subkey_count-index-end.ensures.has c.key.ensures.here))
    (c.loop-index.invariant.counts c.key.result.now c.key.ensures.here)
