-- An image in which a fault stands encodes no tree, or one with a longer path than may be.
use Rattle.std.proofs.Common.{◌≢◌, inl, inr, ℕ, List, subst, arith}
use Rattle.refusals.specs.declared.refusal.Refusal.{Refusal}
use Rattle.refusals.specs.declared.refusal.Refusal.TheVariants.{TooLarge}
use Rattle.refusals.specs.declared.limits.TheConstants.{MOST_PATH_NAMES}
use Rattle.reg_tree.specs.Maps.{TreeMap}
use Rattle.hive_cells.specs.Bins.{Cells, Shows}
use Rattle.hive_tree_model.specs.Encodings.{CellsEncodeTree}
use Rattle.hive_tree_model.proofs.Depths.{deep}
use Rattle.hive_records.specs.KeyNodes.{keys_in}
use Rattle.hive_records.specs.Images.{splits, BinsEncodeTree}
use Rattle.hive_records.proofs.Images.{same_cells, image_fault}
use Rattle.hive_load.specs.Limits.{TreeIsInLimits}
use Rattle.hive_walk.specs.Judgements.{StandsIn}

pub excludes : (bytes : List ℕ) (root minor : ℕ) (cells : Cells) → Shows bytes cells → (why : Refusal) → StandsIn (splits minor) cells root why → why ≢ TooLarge → (tree : TreeMap) → BinsEncodeTree bytes root minor tree → ⊥
excludes bytes root minor cells shows why (inl h) some tree s = some h.0
excludes bytes root minor cells shows why (inr f) some tree s = image_fault bytes root minor tree why (cells, shows, f) s

pub excludes_short : (bytes : List ℕ) (root minor : ℕ) (cells : Cells) → Shows bytes cells → (why : Refusal) → StandsIn (splits minor) cells root why → (tree : TreeMap) → BinsEncodeTree bytes root minor tree → TreeIsInLimits tree → ⊥
excludes_short bytes root minor cells shows why (inl h) tree s w =
    let here : CellsEncodeTree (keys_in (splits minor) cells) root tree = subst (λ (z : Cells). CellsEncodeTree (keys_in (splits minor) z) root tree) (same_cells bytes s.1 cells s.2 shows) s.3 in
    let found = deep (keys_in (splits minor) cells) root tree here MOST_PATH_NAMES h.1 in
    let short = w.shallow found.0 found.1 found.2 in
    let long = found.3 in absurd (omega (arith, short, long))
excludes_short bytes root minor cells shows why (inr f) tree s w = image_fault bytes root minor tree why (cells, shows, f) s
