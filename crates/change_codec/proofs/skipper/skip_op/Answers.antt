use Rattle.std.proofs.Common.{◌∙◌}
use Rattle.change_codec.specs.Readers.{both, number_at}
use Rattle.change_codec.specs.Encoding.{hive_at, path_at, head_at, by_kind}
use Rattle.change_codec.proofs.Taken.{then_some, both_some}
use Rattle.change_codec.proofs.skipper.skip_op.Goals as goal

pub returns : goal.returns
returns c =
    let kind = c.in_ok-kind in
    let hive = c.in_ok-hive in
    let path = c.in_ok-rest in
    let op = c.in_ok-rest-2.ensures hive.hive path.ensures.0 in (
      op.0,
      then_some (head_at c.args.hives) (λ head. by_kind head.0 head.1.0 head.1.1) c.args.bytes.now (kind.kind, (hive.hive, path.ensures.0)) path.rest.now
          (both_some (number_at 1) (both (hive_at c.args.hives) path_at) c.args.bytes.now kind.kind kind.rest.now (hive.hive, path.ensures.0) path.rest.now kind.ensures
          (both_some (hive_at c.args.hives) path_at kind.rest.now hive.hive hive.rest.now path.ensures.0 path.rest.now hive.ensures path.ensures.1))
          ∙ op.1,
      op.2,
    )
