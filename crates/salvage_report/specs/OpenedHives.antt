-- What of a file is taken as a damaged hive.
use Rattle.std.specs.Prelude.{◌≡◌, ◌≢◌, ◌≤◌, ◌<◌, ◌-◌, ◌==◌, ◌&&◌, ◌⊎◌, ℕ, Bool, List, take, drop, length, true, Ok, Err}
use Rattle.refusals.specs.declared.refusal.Cause.TheVariants as cause
use Rattle.refusals.specs.declared.refusal.Refusal.{Refusal}
use Rattle.refusals.specs.declared.refusal.Refusal.TheVariants as refusals
use Rattle.base_block.specs.Judgements.{IsPrimary, PrimaryRefused}
use Rattle.base_block.specs.Layout.{block_at}
use Rattle.base_block.specs.declared.block.BaseBlock.{BaseBlock}
use Rattle.hive_cells.specs.Bins.{Cells, Shows}
use Rattle.hive_lookup.specs.Records.{record_at}
use Rattle.hive_lookup.specs.declared.list_kind.ListKind.TheVariants.{Subkeys}
use Rattle.hive_mending.specs.declared.gap.Gap.{Gap}
use Rattle.hive_mending.specs.Mending.{IsMended, MendRefused, whole_pages}
use Rattle.salvage_report.specs.declared.damaged_hive.DamagedHive.{DamagedHive}
use Rattle.salvage_report.specs.declared.damaged_hive.HiveState.{HiveState}

-- the base block at the beginning of a file
abbrev pub head_of : List ℕ → BaseBlock
head_of file = block_at (take 512 file)

-- a base block says how many bytes of bins data there are: its sum is right, and it may be used
abbrev pub SaysSize : BaseBlock → Type 0
SaysSize block = (block.sum_is_right ≡ true) × IsPrimary block

-- so many bytes are wanted as bins data of a file: those that the base block says, or else all that follow it
abbrev pub IsWanted : List ℕ → ℕ → Type 0
IsWanted file size =
    (SaysSize (head_of file) × (size ≡ (head_of file).bins_size))
    ⊎ ((¬ (SaysSize (head_of file))) × (size ≡ length file - 4096))

-- the bytes of the bins data that are there
abbrev pub bins_in : List ℕ → ℕ → List ℕ
bins_in file size = take size (drop 4096 file)

-- What is told of the file: whether the sum is right and the numbers are equal, how many bytes of whole pages of bins data
-- are there, and how many are missing.
pub record IsStateOf (file : List ℕ) (size : ℕ) (state : HiveState) : Type 0 where
  pub sum : state.sum_is_right ≡ (head_of file).sum_is_right
  pub clean : state.is_clean ≡ ((head_of file).primary.0 == (head_of file).secondary.0)
  pub there : state.bins_bytes ≡ length (whole_pages (bins_in file size))
  pub missing : state.missing_bytes ≡ size - length (whole_pages (bins_in file size))

-- nothing is to be told of the file
abbrev pub state_is_whole : HiveState → Bool
state_is_whole state = state.sum_is_right && (state.is_clean && (state.missing_bytes == 0))

-- A hive is opened on a file: the file begins with `regf`, the bins data that it has are mended, and the root and the
-- version are those of the base block. The root's node is read.
pub record IsOpenedOn (file : List ℕ) (hive : DamagedHive) : Type 0 where
  pub long : 512 ≤ length file
  pub begins : (head_of file).signature.0 ≡ 0x6667_6572
  pub size : ℕ
  pub wanted : IsWanted file size
  pub mended : IsMended (whole_pages (bins_in file size)) hive.image.bytes hive.gaps.items
  pub root : hive.root ≡ (head_of file).root
  pub minor : hive.minor ≡ (head_of file).minor
  pub state : IsStateOf file size hive.state
  pub read : (cells : Cells) → Shows hive.image.bytes cells → (bytes : List ℕ) × (record_at Subkeys cells hive.root ≡ Ok bytes)

-- a base block whose sum is right can't be used, for its version or type, or for its size
abbrev pub IsDecided : BaseBlock → Refusal → Type 0
IsDecided block why = (block.sum_is_right ≡ true) × ((why ≡ refusals.Unsupported) ⊎ (why ≡ refusals.TooLarge)) × PrimaryRefused block why

-- why a file's base block can't be used: there is none, it doesn't begin with `regf`, or it says so
abbrev pub IsUnusable : List ℕ → Refusal → Type 0
IsUnusable file why =
    ((length file < 512) × (why ≡ refusals.HiveDamaged 0 cause.Truncated))
    ⊎ ((((head_of file).signature.0 ≢ 0x6667_6572) × (why ≡ refusals.HiveDamaged 0 cause.BadBase))
    ⊎ IsDecided (head_of file) why)

-- the root's node isn't read in the mended bins data
abbrev pub HasNoRoot : List ℕ → Refusal → Type 0
HasNoRoot file why = (size : ℕ) × IsWanted file size × (bytes : List ℕ) × (gaps : List Gap) × IsMended (whole_pages (bins_in file size)) bytes gaps × ((cells : Cells) → Shows bytes cells → record_at Subkeys cells (head_of file).root ≡ Err why)

-- why no hive is opened: the base block can't be used; the bins data can't be mended; or the root isn't read
abbrev pub OpenRefused : List ℕ → Refusal → Type 0
OpenRefused file why =
    (why ≡ refusals.NoMemory)
    ⊎ (IsUnusable file why
    ⊎ (((size : ℕ) × IsWanted file size × MendRefused (bins_in file size) why)
    ⊎ HasNoRoot file why))
