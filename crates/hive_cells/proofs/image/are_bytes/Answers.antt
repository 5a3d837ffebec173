use Rattle.std.proofs.Common.{◌<◌, ℕ, suc, List, [], ◌∷◌, length, get_or, arith}
use Rattle.std.specs.List.{AllByRecursion}
use Rattle.hive_cells.proofs.image.are_bytes.Goals as goal

all_below : (bytes : List ℕ) → ((k : ℕ) → k < length bytes → get_or bytes k 0 < 256) → AllByRecursion (λ b. b < 0x100) bytes
all_below [] h = tt
all_below (b ∷ bytes) h = (h 0 (omega arith), all_below bytes (λ k lt. h (suc k) (omega arith)))

pub returns : goal.returns
returns c = all_below c.args.bytes.now (λ k lt. let h = c.type_inv.bytes k in omega (arith, h))
