-- What a report's status says of the file.
use Rattle.std.proofs.Common.{◌≡◌, ◌≢◌, inl, inr, true, false, ℕ, ◌≤◌, Bool, List, take, drop, refl, sym, ◌∙◌, ap, subst, arith}
use Rattle.std.specs.Prelude.{nat_le, if◌then◌else◌}
use Rattle.std.proofs.lemmas.Bool.{leb-false, leb-true}
use Rattle.refusals.specs.declared.refusal.Refusal.{Refusal}
use Rattle.refusals.specs.declared.refusal.Refusal.TheVariants as refusal
use Rattle.refusals.specs.declared.refusal.Cause.TheVariants as cause
use Rattle.refusals.specs.declared.limits.TheConstants.{MOST_WEIGHT}
use Rattle.base_block.specs.declared.block.BaseBlock.{BaseBlock}
use Rattle.reply_lines.specs.declared.status.Status.TheVariants as status
use Rattle.reg_tree.specs.Maps.{TreeMap, weight}
use Rattle.hive_records.specs.Images.{BinsEncodeTree}
use Rattle.hive_load.specs.Limits.{BinsEncodeTreeInLimits, TreeIsInLimits}
use Rattle.hive_file_reader.specs.Hives.{FileHasBins, FileHoldsHive, FileHoldsNoHive, lacks_bins, no_bins, not_tiled}
use Rattle.hive_walk.specs.declared.errors.Fault.{Fault}
use Rattle.hive_walk.specs.declared.errors.ImageError.TheVariants as image_error
use Rattle.hive_walk.specs.Judgements.{ImageRefused}
use Rattle.hive_check.specs.declared.cell_counts.TileFault.{TileFault}
use Rattle.hive_check.specs.declared.cell_counts.TileFault.TheVariants as tile_fault
use Rattle.hive_check.specs.declared.finding.Finding.{Finding}
use Rattle.hive_check.specs.declared.finding.Finding.TheVariants as finding
use Rattle.hive_check.specs.CellCounts.{IsTileFault}
use Rattle.hive_check.specs.KeyCounts.{capped}
use Rattle.hive_check.specs.Findings.{IsFinding, LacksMemory, finding_status}

not_clean : status.Refused ≡ status.Clean → ⊥
not_clean e = cc

if_clean : (b : Bool) → (if b then status.Clean else status.Refused) ≡ status.Clean → b ≡ true
if_clean true e = refl
if_clean false e = absurd (not_clean e)

if_refused : (b : Bool) → (if b then status.Clean else status.Refused) ≡ status.Refused → b ≡ false
if_refused true e = absurd (not_clean (sym e))
if_refused false e = refl

light : (n w : ℕ) → nat_le n MOST_WEIGHT ≡ true → n ≡ capped w → w ≤ MOST_WEIGHT
light n w few is = omega (arith, leb-true n MOST_WEIGHT few, is)

heavy : (n w : ℕ) → nat_le n MOST_WEIGHT ≡ false → n ≡ capped w → w ≤ MOST_WEIGHT → ⊥
heavy n w many is few = omega (arith, leb-false n MOST_WEIGHT many, is, few)

pub whole_found : (file : List ℕ) (its : Finding) → IsFinding file its → finding_status its ≡ status.Clean → (tree : TreeMap) × FileHoldsHive file tree
whole_found file (finding.Refused why) is clean = absurd (not_clean clean)
whole_found file (finding.Untiled fault) is clean = absurd (not_clean clean)
whole_found file (finding.Unwalked cells error) is clean = absurd (not_clean clean)
whole_found file (finding.Walked cells keys) (block, bins, has, (counted, (tree, encodes, short, counts))) clean = (
  tree,
  record {
    block = block;
    bins = bins;
    has = has.0;
    own = has.1;
    tree_is = (encodes, record { light = light keys.weight (weight tree) (if_clean (nat_le keys.weight MOST_WEIGHT) clean) counts.2; shallow = short });
  },
)

-- the tree of a file is encoded in the bins data that were found
same_tree : (file : List ℕ) (block : BaseBlock) (bins : List ℕ) (tree : TreeMap) → FileHasBins file block bins → FileHoldsHive file tree → BinsEncodeTreeInLimits bins block.root block.minor tree
same_tree file block bins tree has holds =
    let blocks : holds.block ≡ block = holds.own.read ∙ sym has.1.read in
    let same : holds.bins ≡ bins = holds.own.part ∙ ap (λ (b : BaseBlock). take b.bins_size (drop 4096 file)) blocks ∙ sym has.1.part in
    subst (λ (b : BaseBlock). BinsEncodeTreeInLimits bins b.root b.minor tree) blocks (subst (λ (l : List ℕ). BinsEncodeTreeInLimits l holds.block.root holds.block.minor tree) same holds.tree_is)

some_cause : (c : _) → refusal.HiveDamaged 0 c ≡ refusal.NoMemory → ⊥
some_cause c e = cc

-- a fault of bins or cells
untiled_none : (file : List ℕ) (block : BaseBlock) (bins : List ℕ) (fault : TileFault) → FileHasBins file block bins → IsTileFault bins fault → (why : Refusal) × FileHoldsNoHive file why × (why ≢ refusal.NoMemory)
untiled_none file block bins (tile_fault.Bin at) has (bin, is, start, none) =
    (refusal.HiveDamaged 0 cause.BadBin, no_bins (refusal.HiveDamaged 0 cause.BadBin) (not_tiled (refusal.HiveDamaged 0 cause.BadBin) block bins has (bin, start, none)), some_cause cause.BadBin)
untiled_none file block bins (tile_fault.Cell at) has (end, cell, is, start, none) =
    (refusal.HiveDamaged 0 cause.BadCell, no_bins (refusal.HiveDamaged 0 cause.BadCell) (not_tiled (refusal.HiveDamaged 0 cause.BadCell) block bins has (end, cell, start, none)), some_cause cause.BadCell)

module _ (none : (file : List ℕ) (why : Refusal) → FileHoldsNoHive file why → why ≢ refusal.NoMemory → (tree : TreeMap) → FileHoldsHive file tree → ⊥) (limits : (bytes : List ℕ) (root minor : ℕ) (fault : Fault) → ImageRefused bytes root minor (image_error.Fault fault) → (tree : TreeMap) → BinsEncodeTree bytes root minor tree → TreeIsInLimits tree → ⊥) (one : (bytes : List ℕ) (root minor : ℕ) (t u : TreeMap) → BinsEncodeTree bytes root minor t → BinsEncodeTree bytes root minor u → t ≡ u) where
  pub none_found : (file : List ℕ) (its : Finding) → IsFinding file its → finding_status its ≡ status.Refused → (LacksMemory its → ⊥) → (tree : TreeMap) → FileHoldsHive file tree → ⊥
  none_found file (finding.Refused why) (inl wanting) refused memory tree holds = memory wanting
  none_found file (finding.Refused why) (inr unread) refused memory tree holds = none file why (no_bins why (lacks_bins why unread)) memory tree holds
  none_found file (finding.Untiled fault) (block, bins, has, is) refused memory tree holds =
      let told = untiled_none file block bins fault has is in
      none file told.0 told.1 told.2 tree holds
  none_found file (finding.Unwalked cells image_error.NoMemory) is refused memory tree holds = memory refl
  none_found file (finding.Unwalked cells (image_error.Fault fault)) (block, bins, has, (counted, is)) refused memory tree holds =
      let its = same_tree file block bins tree has holds in
      limits bins block.root block.minor fault is tree its.0 its.1
  none_found file (finding.Walked cells keys) (block, bins, has, (counted, (other, encodes, short, counts))) refused memory tree holds =
      let its = same_tree file block bins tree has holds in
      let same : tree ≡ other = one bins block.root block.minor tree other its.0 encodes in
      heavy keys.weight (weight other) (if_refused (nat_le keys.weight MOST_WEIGHT) refused) counts.2 (subst (λ (t : TreeMap). weight t ≤ MOST_WEIGHT) same (its.1).light)
