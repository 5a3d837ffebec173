-- The lines that show a hive's base block.
use Rattle.std.specs.Prelude.{◌≡◌, ◌⊎◌, ℕ, ◌+◌, false, Bool, if◌then◌else◌, List, [], ◌++◌, Option, Some, None, codes}
use Rattle.std.specs.Fmt.{decimal, digits}
use Rattle.std.specs.Io.KnownBytes.{Appends}
use Rattle.jiff_core.specs.Timestamp.{IsTimestampNanos}
use Rattle.uuid.specs.Parts.{is_nil_bytes}
use Rattle.uuid.specs.Text.{hyphenated_text, lower}
use Rattle.base_block.specs.declared.block.BaseBlock.{BaseBlock}
use Rattle.base_block.specs.Layout.{is_clean_block}
use Rattle.reg_export.specs.Moments.{IsUtcText, nanos_of}
use Rattle.hive_check.specs.declared.block_report.BlockReport.{BlockReport}

-- a number in hexadecimal
abbrev pub hex_text : ℕ → List ℕ
hex_text number = codes "0x" ++ digits 16 false number

-- versions
abbrev pub versions_text : ℕ → ℕ → List ℕ
versions_text major minor = codes "version " ++ decimal major ++ codes "." ++ decimal minor

-- type and format
abbrev pub type_text : ℕ → ℕ → List ℕ
type_text file_type format = codes ", type " ++ decimal file_type ++ codes ", format " ++ decimal format ++ codes "\n"

abbrev pub version_line : BaseBlock → List ℕ
version_line block = versions_text block.major block.minor ++ type_text block.file_type.0 block.format

-- the size of the bins data, and the root's offset in the file
abbrev pub bins_line : BaseBlock → List ℕ
bins_line block = codes "bins " ++ decimal block.bins_size ++ codes " bytes, root at " ++ hex_text (4096 + block.root) ++ codes "\n"

-- the right sum if it is another, and the line's end
abbrev pub right_sum_text : Bool → ℕ → List ℕ
right_sum_text sum_is_right right_sum = if sum_is_right then codes "\n" else codes ", should be " ++ hex_text right_sum ++ codes "\n"

-- the sum, and the right one if it is wrong
abbrev pub sum_line : BlockReport → List ℕ
sum_line report = codes "sum " ++ hex_text report.sum ++ right_sum_text report.block.sum_is_right report.right_sum

-- whether the block is clean
abbrev pub clean_text : Bool → List ℕ
clean_text is_clean = if is_clean then codes "clean" else codes "not clean"

-- both numbers
abbrev pub numbers_line : BaseBlock → List ℕ
numbers_line block = codes "numbers " ++ decimal block.primary.0 ++ codes " and " ++ decimal block.secondary.0 ++ codes ", " ++ clean_text (is_clean_block block) ++ codes "\n"

-- a moment's text: its date and time in UTC, or its number if no date holds it
abbrev pub IsMomentText : ℕ → List ℕ → Type 0
IsMomentText time text = (IsTimestampNanos (nanos_of time) × IsUtcText time text) ⊎ ((¬ IsTimestampNanos (nanos_of time)) × (text ≡ decimal time))

abbrev pub written_line : List ℕ → List ℕ
written_line moment = codes "written " ++ moment ++ codes "\n"

-- the store's id and the number of the last change, if the hive is one of a store
abbrev pub store_line : BaseBlock → List ℕ
store_line block =
    if is_nil_bytes block.store then [] else codes "store " ++ hyphenated_text lower block.store ++ codes ", applied " ++ decimal block.applied.0 ++ codes "\n"

-- the lines before the moment
abbrev pub head_text : BlockReport → List ℕ
head_text report = version_line report.block ++ (bins_line report.block ++ (sum_line report ++ numbers_line report.block))

-- all lines of a block
abbrev pub block_text : BlockReport → List ℕ → List ℕ
block_text report moment = head_text report ++ (written_line moment ++ store_line report.block)

-- known bytes grew by the lines of a block
abbrev pub PrintsBlock : BlockReport → Option (List ℕ) → Option (List ℕ) → Type 0
PrintsBlock report before after = (moment : List ℕ) × IsMomentText report.block.last_written moment × Appends before after (block_text report moment)

-- a text shows a block, if there is one
abbrev pub IsBlockText : Option BlockReport → List ℕ → Type 0
IsBlockText None text = text ≡ []
IsBlockText (Some report) text = (moment : List ℕ) × IsMomentText report.block.last_written moment × (text ≡ block_text report moment)
