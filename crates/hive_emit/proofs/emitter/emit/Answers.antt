use Rattle.std.proofs.Common.{◌≡◌, ◌+◌, ◌*◌, ◌≤◌, List, [], length, ap, arith, sym, subst}
use Rattle.std.specs.FinMap as finite
use Rattle.refusals.specs.declared.limits.TheConstants.{MOST_WEIGHT}
use Rattle.reg_tree_parts.specs.Nodes.{Entries, IsNode}
use Rattle.reg_tree.specs.Maps.{TreeMap, weight}
use Rattle.hive_emit.specs.CellWrites.{HasFreeRoomAt, HasFreeRoom}
use Rattle.hive_emit.specs.declared.security.SecurityEntry.{SecurityEntry}
use Rattle.hive_emit.specs.Forms.{keys_with}
use Rattle.hive_emit.specs.SecurityTables.{tallies, Counts, AreSome}
use Rattle.hive_emit.specs.EmittedKeys.{AreShort}
use Rattle.hive_emit.specs.KeyCosts.{keys_cost, securities_cost, descriptors_cost}
use Rattle.hive_emit.proofs.KeySums.{tree_light}
use Rattle.hive_emit.proofs.SecurityTables.{counted_kept}
use Rattle.hive_emit.proofs.Wholes.{root_weight, tree_can, tree_few, stands_at_end}
use Rattle.hive_emit.proofs.Ends.{formed_at_end}
use Rattle.hive_emit.proofs.emitter.emit.Goals as goal

-- what security cells and keys of a tree within the weight take
taken : (tree : TreeMap) (root : Entries) (old counted : List SecurityEntry) → IsNode root → tree ≡ finite.from_sorted root → weight tree ≤ MOST_WEIGHT → old ≡ [] → securities_cost counted ≤ securities_cost old + descriptors_cost root → securities_cost counted + keys_cost root ≤ 2 * MOST_WEIGHT
taken tree root old counted node same light none cost = omega (arith, root_weight tree root node same light, tree_light root, cost, ap securities_cost none)

pub count_all-requires : goal.count_all-requires
count_all-requires c = record { can = tree_can c.args.tree.now c.root-root.result.now c.root-root.ensures.node c.root-root.ensures.same c.root-root.ensures.encodable (omega (arith, c.weight.ensures, c.if-weight-gt-MOST_WEIGHT.false)) }

pub cost-requires : goal.cost-requires
cost-requires c =
    let all = taken c.args.tree.now c.root-root.result.now c.new-securities.result c.count_all.new.self c.root-root.ensures.node c.root-root.ensures.same (omega (arith, c.weight.ensures, c.if-weight-gt-MOST_WEIGHT.false)) c.new-securities.ensures c.in_ok-count_all.ensures.cost in
    omega (arith, all)

pub keys_cost-requires : goal.keys_cost-requires
keys_cost-requires c =
    let light : weight c.args.tree.now ≤ MOST_WEIGHT = omega (arith, c.weight.ensures, c.if-weight-gt-MOST_WEIGHT.false) in
    let all = taken c.args.tree.now c.root-root.result.now c.new-securities.result c.count_all.new.self c.root-root.ensures.node c.root-root.ensures.same light c.new-securities.ensures c.in_ok-count_all.ensures.cost in
    record {
      can = tree_can c.args.tree.now c.root-root.result.now c.root-root.ensures.node c.root-root.ensures.same c.root-root.ensures.encodable light;
      fits = omega (arith, all);
    }

pub put-requires : goal.put-requires
put-requires c =
    let all = taken c.args.tree.now c.root-root.result.now c.new-securities.result c.count_all.new.self c.root-root.ensures.node c.root-root.ensures.same (omega (arith, c.weight.ensures, c.if-weight-gt-MOST_WEIGHT.false)) c.new-securities.ensures c.in_ok-count_all.ensures.cost in
    record {
      short = c.in_ok-count_all.ensures.short (subst AreShort (sym c.new-securities.ensures) tt);
      fits = omega (arith, all);
    }

pub put_key-requires-clause-can : goal.put_key-requires-clause-can
put_key-requires-clause-can c = tree_can c.args.tree.now c.root-root.result.now c.root-root.ensures.node c.root-root.ensures.same c.root-root.ensures.encodable (omega (arith, c.weight.ensures, c.if-weight-gt-MOST_WEIGHT.false))

pub put_key-requires-clause-counted : goal.put_key-requires-clause-counted
put_key-requires-clause-counted c = counted_kept c.count_all.new.self c.put.new.self c.root-root.result.now c.in-Ok.ensures.keeps c.in_ok-count_all.ensures.counted

pub put_key-requires-clause-few : goal.put_key-requires-clause-few
put_key-requires-clause-few c = tree_few c.args.tree.now c.root-root.result.now c.root-root.ensures.node c.root-root.ensures.same (omega (arith, c.weight.ensures, c.if-weight-gt-MOST_WEIGHT.false))

pub returns-clause-stands : goal.returns-clause-stands
returns-clause-stands c = λ minor new. stands_at_end c.in_ok-image.image.bytes c.put.new.image.bytes c.put_key.new.image.bytes c.put.new.self c.in-Ok-put_key.at minor c.args.tree.now c.root-root.result.now c.tiles.ensures.shown.0 c.tiles.ensures.shown.1 new c.root-root.ensures.node c.root-root.ensures.same c.tiles-2.ensures.tiles c.in-Ok.ensures.held c.in-Ok-put_key.ensures.made

pub overflow_add-cost : goal.overflow_add-cost
overflow_add-cost c =
    let all = taken c.args.tree.now c.root-root.result.now c.new-securities.result c.count_all.new.self c.root-root.ensures.node c.root-root.ensures.same (omega (arith, c.weight.ensures, c.if-weight-gt-MOST_WEIGHT.false)) c.new-securities.ensures c.in_ok-count_all.ensures.cost in
    omega (arith, all, c.cost.ensures, c.keys_cost.ensures)

pub room-requires-clause-needed : goal.room-requires-clause-needed
room-requires-clause-needed c =
    let all = taken c.args.tree.now c.root-root.result.now c.new-securities.result c.count_all.new.self c.root-root.ensures.node c.root-root.ensures.same (omega (arith, c.weight.ensures, c.if-weight-gt-MOST_WEIGHT.false)) c.new-securities.ensures c.in_ok-count_all.ensures.cost in
    omega (arith, all, c.cost.ensures, c.keys_cost.ensures)

pub returns-clause-limit : goal.returns-clause-limit
returns-clause-limit c =
    let needed : c.cost.result + c.keys_cost.result ≡ securities_cost c.count_all.new.self + (keys_cost c.root-root.result.now + 0) = omega (arith, c.cost.ensures, c.keys_cost.ensures) in
    let first : HasFreeRoom c.in_ok-image.image.bytes (securities_cost c.count_all.new.self + (keys_cost c.root-root.result.now + 0)) = (32, subst (HasFreeRoomAt c.in_ok-image.image.bytes 32) needed c.in_ok-image.ensures.roomy) in
    let last : HasFreeRoom c.put_key.new.image.bytes 0 = c.in-Ok-put_key.ensures.uses 0 (c.in-Ok.ensures.uses (keys_cost c.root-root.result.now + 0) first) in
    last.1.limit

pub returns-clause-formed : goal.returns-clause-formed
returns-clause-formed c =
    let root = c.root-root.result.now in
    let needed : c.cost.result + c.keys_cost.result ≡ securities_cost c.count_all.new.self + keys_cost root = omega (arith, c.cost.ensures, c.keys_cost.ensures) in
    formed_at_end c.in_ok-image.image.bytes c.put.new.image.bytes c.put_key.new.image.bytes c.count_all.new.self c.put.new.self c.in-Ok-put_key.at c.args.tree.now root c.tiles.ensures.shown.0 c.tiles.ensures.shown.1 c.root-root.ensures.node c.root-root.ensures.same
    (record {
      few = tree_few c.args.tree.now root c.root-root.ensures.node c.root-root.ensures.same (omega (arith, c.weight.ensures, c.if-weight-gt-MOST_WEIGHT.false));
      counts = subst (λ (old : List SecurityEntry). Counts (tallies old) (tallies c.count_all.new.self) (length root) (λ d. keys_with d root)) c.new-securities.ensures c.in_ok-count_all.ensures.counts;
      some = c.in_ok-count_all.ensures.some (subst (λ (old : List SecurityEntry). AreSome (tallies old)) (sym c.new-securities.ensures) tt);
      same = c.in-Ok.ensures.same;
      apart = c.in-Ok.ensures.apart;
      planned = c.in-Ok.ensures.ring (keys_cost root) (subst (HasFreeRoomAt c.in_ok-image.image.bytes 32) needed c.in_ok-image.ensures.roomy);
    })
    c.in-Ok.ensures.held c.in-Ok-put_key.ensures.made
