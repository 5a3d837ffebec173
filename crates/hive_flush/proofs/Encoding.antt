-- An image that encodes the tree in memory still does so.
use Rattle.std.proofs.Common.{◌≡◌, ℕ, List, sym, subst}
use Rattle.base_block.specs.declared.block.BaseBlock.{BaseBlock}
use Rattle.reg_tree.specs.Maps.{TreeMap}
use Rattle.hive_savepoint.specs.Savepoints.{SavedBytes}
use Rattle.hive_load.specs.Limits.{BinsEncodeTreeInLimits}

-- an image that encodes the tree from a block's root on, in some way
abbrev pub Encodes : SavedBytes → BaseBlock → TreeMap → Type 0
Encodes image block tree = ∥ BinsEncodeTreeInLimits image.bytes block.root block.minor tree ∥₁

pub encodes_as : (bytes : List ℕ) (root minor : ℕ) (image : SavedBytes) (block : BaseBlock) (tree : TreeMap) → image.bytes ≡ bytes → block.root ≡ root → block.minor ≡ minor → ∥ BinsEncodeTreeInLimits bytes root minor tree ∥₁ → Encodes image block tree
encodes_as bytes root minor image block tree b r m encodes =
    subst (λ (n : ℕ). ∥ BinsEncodeTreeInLimits image.bytes block.root n tree ∥₁) (sym m)
    (subst (λ (n : ℕ). ∥ BinsEncodeTreeInLimits image.bytes n minor tree ∥₁) (sym r)
    (subst (λ (l : List ℕ). ∥ BinsEncodeTreeInLimits l root minor tree ∥₁) (sym b) encodes))
