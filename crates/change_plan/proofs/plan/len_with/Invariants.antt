use Rattle.std.proofs.Common.{◌≡◌, ◌+◌, min, take, sum_by}
use Rattle.reg_tree.specs.Encodings.{op_encoded_len}
use Rattle.change_plan.proofs.plan.len_with.Given as goal

abbrev pub invariant-loop-op : goal.invariant-loop-op
invariant-loop-op l = l.total ≡ min (l.bytes + sum_by op_encoded_len (take l.op-index l.ops)) 18446744073709551615
