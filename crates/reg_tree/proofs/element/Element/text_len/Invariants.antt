use Rattle.std.proofs.Common.{◌≡◌, ◌+◌, min, take, sum_by}
use Rattle.reg_tree.specs.Encodings.{op_encoded_len}
use Rattle.reg_tree.proofs.element.Element.text_len.Given as goal

abbrev pub invariant-loop-op : goal.invariant-loop-op
invariant-loop-op l = l.total ≡ min (16 + sum_by op_encoded_len (take l.op-index l.op-items)) 18446744073709551615
