use Rattle.std.proofs.Common.{◌≡◌, ◌+◌, min, take, length, sum_by}
use Rattle.reg_tree.proofs.op.encoded_path_len.Given as goal

abbrev pub invariant-loop-name : goal.invariant-loop-name
invariant-loop-name l = l.total ≡ min (2 + sum_by (λ name. 1 + length name) (take l.name-index l.name-items)) 18446744073709551615
