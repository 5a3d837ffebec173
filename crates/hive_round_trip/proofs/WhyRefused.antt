-- Why an image that encodes a tree within the limits is refused, if it is.
use Rattle.std.proofs.Common.{◌≡◌, ◌≢◌, inl, inr, ℕ, List}
use Rattle.refusals.specs.declared.refusal.Refusal.{Refusal}
use Rattle.refusals.specs.declared.refusal.Refusal.TheVariants as refusal
use Rattle.reg_tree.specs.Maps.{TreeMap}
use Rattle.hive_records.specs.Images.{BinsEncodeTree, FaultFor}
use Rattle.hive_load.specs.Limits.{TreeIsInLimits, LoadRefused}

pub memory_alone : (bytes : List ℕ) (root minor : ℕ) (tree : TreeMap) (why : Refusal)
    → ((bytes : List ℕ) (root minor : ℕ) (why : Refusal) → LoadRefused bytes root minor why → why ≢ refusal.NoMemory → (tree : TreeMap) → BinsEncodeTree bytes root minor tree → TreeIsInLimits tree → ⊥)
    → ((bytes : List ℕ) (root minor : ℕ) (tree : TreeMap) (why : Refusal) → FaultFor bytes root minor why → BinsEncodeTree bytes root minor tree → ⊥)
    → BinsEncodeTree bytes root minor tree → TreeIsInLimits tree → LoadRefused bytes root minor why → why ≡ refusal.NoMemory
memory_alone bytes root minor tree why excluded fault stands within (inl memory) = memory
memory_alone bytes root minor tree why excluded fault stands within (inr (inl large)) =
    absurd (excluded bytes root minor why (inr (inl large)) (λ memory. let same = large.0 in let never : ⊥ = cc in never) tree stands within)
memory_alone bytes root minor tree why excluded fault stands within (inr (inr stood)) = absurd (fault bytes root minor tree why stood stands)
