use Rattle.std.proofs.Common.{◌∙◌}
use Rattle.change_codec.specs.Readers.{both, repeat, number_at, counted_at}
use Rattle.change_codec.specs.Encoding.{op_at}
use Rattle.change_codec.proofs.Taken.{then_some, both_some}
use Rattle.change_codec.proofs.skipper.skip_fields.Goals as goal

pub returns : goal.returns
returns c =
    let len = c.in_ok-len in
    let moment = c.in_ok-rest in
    let count = c.in_ok-count in
    let ops = c.in_ok-rest-2 in
    let op = op_at c.args.hives in (
      moment.field-0-0,
      ops.ensures.0,
      both_some (number_at 4) (both (number_at 8) (counted_at 4 op)) c.args.bytes.now len.len len.rest.now (moment.field-0-0, ops.ensures.0) ops.rest.now len.ensures
          (both_some (number_at 8) (counted_at 4 op) len.rest.now moment.field-0-0 moment.rest.now ops.ensures.0 ops.rest.now moment.ensures
          (then_some (number_at 4) (λ n. repeat n op) moment.rest.now count.count count.rest.now count.ensures ∙ ops.ensures.1)),
      ops.ensures.2,
    )
