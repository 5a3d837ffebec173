use Rattle.std.proofs.Common.{◌≡◌, min, take, sum_by}
use Rattle.reg_tree.specs.Encodings.{op_encoded_len}
use Rattle.transactions.proofs.store.outcomes.text_len.Given as goal

abbrev pub invariant-loop-op : goal.invariant-loop-op
invariant-loop-op l = l.total ≡ min (sum_by op_encoded_len (take l.op-index l.ops)) 18446744073709551615
