-- The first block of a file, as it is read.
use Rattle.std.proofs.Common.{◌≡◌, ◌≤◌, ◌<◌, ℕ, List, take, length, Option, Some, None, sym, ◌∙◌, ap, if◌then◌else◌}
use Rattle.std.specs.Prelude.{IfSome, IfNone}
use Rattle.std.proofs.lemmas.Bool.{lt-ltb, le-ltb}
use Rattle.base_block.specs.Layout.{block_at}
use Rattle.base_block.specs.declared.block.BaseBlock.{BaseBlock}
use Rattle.recovery_report.specs.Recoveries.{first_block}

pub block_read : (file : List ℕ) (block : Option BaseBlock) → IfSome block (λ its. (its ≡ block_at (take 512 file)) × (512 ≤ length file)) → IfNone block (length file < 512) → block ≡ first_block file
block_read file None some short = ap (λ b. if b then None else Some (block_at (take 512 file))) (sym (lt-ltb (length file) 512 short))
block_read file (Some its) (same, long) none = ap Some same ∙ ap (λ b. if b then None else Some (block_at (take 512 file))) (sym (le-ltb (length file) 512 long))
