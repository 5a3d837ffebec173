-- What fits by its types, and because it isn't too long.
use Rattle.std.proofs.Common.{ℕ, ◌^◌, ◌<◌, ◌≤◌, List, [], ◌∷◌, length}
use Rattle.std.specs.List.{AllByRecursion}
use Rattle.reg_tree.specs.declared.op.Op.{Op}
use Rattle.reg_tree.specs.declared.element.Element.{Element}
use Rattle.reg_tree.specs.Operations.{hive_of}
use Rattle.reg_tree.specs.Encodings.{element_encoded_len}
use Rattle.change_codec.specs.Encoding.{OpFits, HasEncoding, Fits}

ops_fit : (hives : ℕ) (ops : List Op) → AllByRecursion HasEncoding ops → AllByRecursion (λ op. hive_of op < hives) ops → AllByRecursion (OpFits hives) ops
ops_fit hives [] has there = tt
ops_fit hives (op ∷ ops) has there = (record { hive = there.0; path = has.0.path; tail = has.0.tail }, ops_fit hives ops has.1 there.1)

-- the hive of an operation in memory is a byte
pub in_a_byte : (ops : List Op) → AllByRecursion HasEncoding ops → AllByRecursion (λ op. hive_of op < 256) ops
in_a_byte [] has = tt
in_a_byte (op ∷ ops) has = (has.0.hive, in_a_byte ops has.1)

pub may_fit : (hives : ℕ) (e : Element) → 1 ≤ length e.ops → AllByRecursion HasEncoding e.ops → AllByRecursion (λ op. hive_of op < hives) e.ops → e.moment < 256 ^ 8 → element_encoded_len e < 256 ^ 4 → Fits hives e
may_fit hives e some has there moment size = record { some = some; ops = ops_fit hives e.ops has there; moment = moment; size = size }
