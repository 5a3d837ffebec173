use Rattle.std.proofs.Common.{◌≡◌, ◌≤◌, ◌<◌, min, ℕ, refl, arith, rules}
use Rattle.refusals.specs.declared.limits.TheConstants.{MOST_WEIGHT}
use Rattle.std.below.core.specs.declared.int.u64.TheConstants.{MAX}
use Rattle.reg_tree.specs.Maps.{weight}
use Rattle.hive_load.proofs.tree.judge_weight.Goals as goal

heavy : (all kept : ℕ) → kept ≡ min all MAX → MOST_WEIGHT < kept → MOST_WEIGHT < all
heavy all kept e h = search (rules, arith)

light : (all kept : ℕ) → kept ≡ min all MAX → kept ≤ MOST_WEIGHT → all ≤ MOST_WEIGHT
light all kept e h = search (rules, arith)

pub returns-then-weight-gt-MOST_WEIGHT : goal.returns-then-weight-gt-MOST_WEIGHT
returns-then-weight-gt-MOST_WEIGHT c = (refl, heavy (weight c.args.tree.now) c.weight.result c.weight.ensures c.if-weight-gt-MOST_WEIGHT.true)

pub returns : goal.returns
returns c = light (weight c.args.tree.now) c.weight.result c.weight.ensures c.if-weight-gt-MOST_WEIGHT.false
