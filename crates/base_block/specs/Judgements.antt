-- Which base blocks are used (regf format, base block, in this project's profile).
use Rattle.std.specs.Prelude.{◌≡◌, ◌≢◌, ◌≤◌, ◌<◌, ◌%◌, ℕ, zero, IsTrue, ◌⊎◌}
use Rattle.refusals.specs.declared.refusal.Refusal.{Refusal}
use Rattle.refusals.specs.declared.refusal.Refusal.TheVariants as refusal
use Rattle.refusals.specs.declared.refusal.Cause.TheVariants as cause
use Rattle.refusals.specs.declared.limits.TheConstants.{MOST_BINS_BYTES}
use Rattle.base_block.specs.declared.block.BaseBlock.{BaseBlock}
use Rattle.base_block.specs.declared.block.TheConstants.{MINOR_VERSION, OLDEST_MINOR_VERSION}
use Rattle.base_block.specs.Layout.{is_clean_block}

-- a size of hive bins data: a multiple of 4,096, not 0
abbrev pub IsBinsSize : ℕ → Type 0
IsBinsSize size = (size % 4096 ≡ 0) × (size ≢ 0)

-- the versions and the format that a primary file may have: 1.3 to 1.5, format 1
abbrev pub IsPrimaryVersion : BaseBlock → Type 0
IsPrimaryVersion b = (b.major ≡ 1) × (OLDEST_MINOR_VERSION ≤ b.minor) × (b.minor ≤ MINOR_VERSION) × (b.format ≡ 1)

-- those that a log may have, and that are written: 1.5, format 1
abbrev pub IsLogVersion : BaseBlock → Type 0
IsLogVersion b = (b.major ≡ 1) × (b.minor ≡ MINOR_VERSION) × (b.format ≡ 1)

-- what every block that is used has, whatever its file is: `regf`, and a bins size within the limit
pub record IsUsable (b : BaseBlock) : Type 0 where
  pub signature : b.signature.0 ≡ 0x6667_6572
  pub bins_size : IsBinsSize b.bins_size
  pub within : b.bins_size ≤ MOST_BINS_BYTES

-- a block of a primary file that may be used
abbrev pub IsPrimary : BaseBlock → Type 0
IsPrimary b = IsUsable b × IsPrimaryVersion b × (b.file_type.0 ≡ 0)

-- a block of a whole log: clean, of a log's version, and of the type 1 or 2
abbrev pub IsLog : BaseBlock → Type 0
IsLog b = IsUsable b × IsTrue (is_clean_block b) × IsLogVersion b × ((b.file_type.0 ≡ 1) ⊎ (b.file_type.0 ≡ 2))

-- why a primary file's block is refused: the refusal's reason is true of the block
abbrev pub PrimaryRefused : BaseBlock → Refusal → Type 0
PrimaryRefused b (refusal.HiveDamaged zero cause.BadBase) = (b.signature.0 ≢ 0x6667_6572) ⊎ (¬ IsBinsSize b.bins_size)
PrimaryRefused b refusal.Unsupported = ¬ (IsPrimaryVersion b × (b.file_type.0 ≡ 0))
PrimaryRefused b refusal.TooLarge = MOST_BINS_BYTES < b.bins_size
PrimaryRefused b _ = ⊥
