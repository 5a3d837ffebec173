-- Files that may hold a tree of any weight, beside those within the limits.
use Rattle.std.proofs.Common.{◌≡◌, ◌<◌, inl, inr, ℕ, List, refl, sym, ◌∙◌, ap, subst}
use Rattle.std.specs.Prelude.{◌≢◌}
use Rattle.refusals.specs.declared.refusal.Refusal.{Refusal}
use Rattle.refusals.specs.declared.refusal.Refusal.TheVariants as refusal
use Rattle.refusals.specs.declared.limits.TheConstants.{MOST_WEIGHT}
use Rattle.base_block.specs.declared.block.BaseBlock.{BaseBlock}
use Rattle.reg_tree.specs.Maps.{TreeMap, weight}
use Rattle.hive_records.specs.Images.{BinsEncodeTree}
use Rattle.hive_load.specs.Limits.{BinsEncodeShallowTree, ShallowBinsRefused}
use Rattle.hive_load.proofs.Ends.{refused_too}
use Rattle.hive_file_reader.specs.Hives.{FileHasBins, FileHoldsHive, FileHoldsNoHive, FileHoldsShallowTree, FileHoldsNoShallowTree, lacks_bins, not_tiled, no_bins, not_loaded, lacks_tiled, unloaded}
use Rattle.hive_file_reader.specs.Readings.{FileRefusedAs, ShallowFileRefused, ShallowFileRefusedAs, of_hive}
use Rattle.hive_file_reader.proofs.Files.{same_bins, lacks_none}

pub data_refused : (file bins : List ℕ) (block : BaseBlock) (why : Refusal) → FileHasBins file block bins → ShallowBinsRefused bins block.root block.minor why → ShallowFileRefused file why
data_refused file bins block why has (inl untiled) = inr (lacks_tiled why (not_tiled why block bins has untiled))
data_refused file bins block why has (inr refused) = inr (unloaded why block bins has refused)

-- ---- the limit of weight

-- a file that holds no tree of any weight holds none within the limits
holds_neither : (file : List ℕ) (why : Refusal) → FileHoldsNoShallowTree file why → FileHoldsNoHive file why
holds_neither file why (lacks_tiled _ none) = no_bins why none
holds_neither file why (unloaded _ block bins has refused) = not_loaded why block bins has (refused_too bins block.root block.minor why refused)

pub refused_within : (hive : ℕ) (file : List ℕ) (why : Refusal) → ShallowFileRefusedAs hive file why → FileRefusedAs hive file why
refused_within hive file why (plain, inl memory, told) = (plain, inl memory, told)
refused_within hive file why (plain, inr none, told) = (plain, inr (holds_neither file plain none), told)

-- a file whose tree is too heavy
pub too_heavy : (hive : ℕ) (file bins : List ℕ) (block : BaseBlock) (tree : TreeMap) (why : Refusal) → FileHasBins file block bins → BinsEncodeTree bins block.root block.minor tree
    → (why ≡ refusal.TooLarge) × (MOST_WEIGHT < weight tree) → FileRefusedAs hive file why
too_heavy hive file bins block tree why has stands heavy =
    (refusal.TooLarge, inr (not_loaded refusal.TooLarge block bins has (inr (inl (refl, inl (tree, stands, heavy.1))))), heavy.0)

pub holds_within : (file : List ℕ) (tree : TreeMap) → FileHoldsHive file tree → FileHoldsShallowTree file tree
holds_within file tree holds = record { block = holds.block; bins = holds.bins; has = holds.has; own = holds.own; tree_is = (holds.tree_is.0, holds.tree_is.1.shallow) }

-- ---- a file holds a tree of any weight or none

pub same_shallow_tree : ((bytes : List ℕ) (root minor : ℕ) (t u : TreeMap) → BinsEncodeTree bytes root minor t → BinsEncodeTree bytes root minor u → t ≡ u) → (file : List ℕ) (tree other : TreeMap) → FileHoldsShallowTree file tree → FileHoldsShallowTree file other → tree ≡ other
same_shallow_tree one file tree other holds also =
    let blocks : holds.block ≡ also.block = holds.own.read ∙ sym also.own.read in
    let bins : holds.bins ≡ also.bins = same_bins file holds.bins also.bins holds.block also.block holds.own also.own in
    one also.bins also.block.root also.block.minor tree other
    (subst (λ (b : BaseBlock). BinsEncodeTree also.bins b.root b.minor tree) blocks (subst (λ (l : List ℕ). BinsEncodeTree l holds.block.root holds.block.minor tree) bins holds.tree_is.0))
    also.tree_is.0

-- the bins data that are refused are those of the tree
other_bins : ((bytes : List ℕ) (root minor : ℕ) (why : Refusal) → ShallowBinsRefused bytes root minor why → why ≢ refusal.NoMemory → (tree : TreeMap) → BinsEncodeShallowTree bytes root minor tree → ⊥)
    → (file : List ℕ) (why : Refusal) (block : BaseBlock) (bins : List ℕ) → FileHasBins file block bins → ShallowBinsRefused bins block.root block.minor why → why ≢ refusal.NoMemory → (tree : TreeMap) → FileHoldsShallowTree file tree → ⊥
other_bins law file why block bins has refused some tree holds =
    let blocks : block ≡ holds.block = has.0.read ∙ sym holds.has.read in
    let same : bins ≡ holds.bins = same_bins file bins holds.bins block holds.block has.1 holds.own in
    law holds.bins holds.block.root holds.block.minor why
    (subst (λ (b : BaseBlock). ShallowBinsRefused holds.bins b.root b.minor why) blocks (subst (λ (l : List ℕ). ShallowBinsRefused l block.root block.minor why) same refused)) some tree holds.tree_is

none_held : ((bytes : List ℕ) (root minor : ℕ) (why : Refusal) → ShallowBinsRefused bytes root minor why → why ≢ refusal.NoMemory → (tree : TreeMap) → BinsEncodeShallowTree bytes root minor tree → ⊥)
    → (file : List ℕ) (why : Refusal) → FileHoldsNoShallowTree file why → why ≢ refusal.NoMemory → (tree : TreeMap) → FileHoldsShallowTree file tree → ⊥
none_held law file why (lacks_tiled _ (lacks_bins _ lacks)) some tree holds = lacks_none file holds.block why holds.has holds.own.long lacks
none_held law file why (lacks_tiled _ (not_tiled _ block bins has refused)) some tree holds = other_bins law file why block bins has (inl refused) some tree holds
none_held law file why (unloaded _ block bins has refused) some tree holds = other_bins law file why block bins has (inr refused) some tree holds

pub none_held_as : ((bytes : List ℕ) (root minor : ℕ) (why : Refusal) → ShallowBinsRefused bytes root minor why → why ≢ refusal.NoMemory → (tree : TreeMap) → BinsEncodeShallowTree bytes root minor tree → ⊥)
    → (hive : ℕ) (file : List ℕ) (why : Refusal) → ShallowFileRefusedAs hive file why → why ≢ refusal.NoMemory → (tree : TreeMap) → FileHoldsShallowTree file tree → ⊥
none_held_as law hive file why (plain, inl memory, told) some tree holds = some (told ∙ ap (of_hive hive) memory)
none_held_as law hive file why (plain, inr stands, told) some tree holds = none_held law file plain stands (λ memory. some (told ∙ ap (of_hive hive) memory)) tree holds
