use Rattle.std.proofs.Common.{◌≡◌, map, Some}
use Rattle.value_syntax.specs.Data.{all_pair_bytes}
use Rattle.value_syntax.proofs.hex_pairs.hex_bytes.Given as goal

-- the bytes of the parts so far
abbrev pub invariant-loop-part : goal.invariant-loop-part
invariant-loop-part l = all_pair_bytes (map (λ part. part.now) l.yielded) ≡ Some l.bytes.items
