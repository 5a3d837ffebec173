use Rattle.std.proofs.Common.{sum_by, ap, arith}
use Rattle.std.proofs.lemmas.List.{take_all}
use Rattle.reg_tree_parts.specs.Nodes.{subkeys_of}
use Rattle.hive_emit.specs.KeyCosts.{row_cost, keys_cost}
use Rattle.hive_emit.proofs.Owns.{row_same, own_can}
use Rattle.hive_emit.proofs.KeyProofs.{subkeys_can, can_subkey, subkey_there}
use Rattle.hive_emit.proofs.KeySums.{own_least, keys_sum, below_within, below_next}
use Rattle.hive_emit.proofs.key_costs.+keys_cost.Goals as goal

pub row_cost-sum-requires : goal.row_cost-sum-requires
row_cost-sum-requires t c = record {
  can = own_can c.args.node.now c.key.result.now c.key.ensures.node c.key.ensures.here c.requires.can;
  fits = omega (arith, own_least c.args.node.now c.key.result.now c.key.ensures.node c.key.ensures.here, c.requires.fits);
}

pub loop-index-init : goal.loop-index-init
loop-index-init t c = λ row e. omega (arith, c.row_cost-sum.ensures, ap row_cost (row_same c.args.node.now c.key.result.now row c.key.ensures.here e))

pub unreachable-requires : goal.unreachable-requires
unreachable-requires t c = subkey_there (subkeys_of c.args.node.now) c.loop-index.index (omega (arith, c.loop-index-test.true, c.subkey_count-index-end.ensures.subkeys)) c.in_default.ensures.at

pub keys_cost-requires : goal.keys_cost-requires
keys_cost-requires t c = (
  omega (arith, c.decreases, c.in-Some.ensures.smaller),
  (
    can_subkey (subkeys_of c.args.node.now) c.loop-index.index c.in-Some.subkey.now c.in-Some.ensures.at (subkeys_can c.args.node.now c.key.result.now c.in-Some.ensures.has c.key.ensures.here c.requires.can),
    omega (arith, keys_sum c.args.node.now c.key.result.now c.subkey_count-index-end.ensures.has c.key.ensures.here, below_within (subkeys_of c.args.node.now) c.loop-index.index c.in-Some.subkey.now c.in-Some.ensures.has.named c.in-Some.ensures.at, c.requires.fits),
  ),
)

pub loop-index-preserved : goal.loop-index-preserved
loop-index-preserved t c = λ row e. omega (arith, c.loop-index.invariant row e, c.keys_cost.ensures, below_next (subkeys_of c.args.node.now) c.loop-index.index c.in-Some.subkey.now c.in-Some.ensures.has.named c.in-Some.ensures.at)

pub overflow_add-sum : goal.overflow_add-sum
overflow_add-sum t c =
    omega (arith, c.loop-index.invariant c.key.result.now c.key.ensures.here, c.keys_cost.ensures, keys_sum c.args.node.now c.key.result.now c.subkey_count-index-end.ensures.has c.key.ensures.here, below_within (subkeys_of c.args.node.now) c.loop-index.index c.in-Some.subkey.now c.in-Some.ensures.has.named c.in-Some.ensures.at, c.loop-index-test.true, c.subkey_count-index-end.ensures.subkeys, c.requires.fits)

pub overflow_add-sum-in-loop-index : goal.overflow_add-sum-in-loop-index
overflow_add-sum-in-loop-index t c =
    omega (arith, c.loop-index.invariant c.key.result.now c.key.ensures.here, c.keys_cost.ensures, keys_sum c.args.node.now c.key.result.now c.subkey_count-index-end.ensures.has c.key.ensures.here, below_within (subkeys_of c.args.node.now) c.loop-index.index c.in-Some.subkey.now c.in-Some.ensures.has.named c.in-Some.ensures.at, c.loop-index-test.true, c.subkey_count-index-end.ensures.subkeys, c.requires.fits)

pub returns : goal.returns
returns t c =
    let all = ap (sum_by (λ k. keys_cost k.1)) (take_all c.loop-index.index (subkeys_of c.args.node.now) (omega (arith, c.loop-index-test.false, c.subkey_count-index-end.ensures.subkeys))) in
    omega (arith, c.loop-index.invariant c.key.result.now c.key.ensures.here, all, keys_sum c.args.node.now c.key.result.now c.subkey_count-index-end.ensures.has c.key.ensures.here, c.loop-index-test.false, c.subkey_count-index-end.ensures.subkeys)
