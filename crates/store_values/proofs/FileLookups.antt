-- What is found in the cells of a file's bins is in the file.
use Rattle.std.proofs.Common.{◌≡◌, ℕ, Bool, List, Option, Some, None, IfSome, inr}
use Rattle.refusals.specs.declared.refusal.Refusal.{Refusal}
use Rattle.base_block.specs.declared.block.BaseBlock.{BaseBlock}
use Rattle.hive_cells.specs.Bins.{Cells, Shows}
use Rattle.hive_records.specs.Images.{splits}
use Rattle.hive_file_reader.specs.Hives.{FileHasBins}
use Rattle.hive_file_reader.specs.declared.hive.ReadError.{ReadError}
use Rattle.hive_file_reader.specs.declared.hive.ReadError.TheVariants as unread
use Rattle.reply_lines.specs.declared.status.Status.{Status}
use Rattle.reply_lines.specs.PrintedRefusals.{PrintsRefusal}
use Rattle.store_values.specs.FileAnswers.{InFile, NotInFile}
use Rattle.store_values.specs.FileLookups.{FileStops, PrintsMissing}

pub if_some_all : {A : Type 0} {P Q : A → Type 0} (known : Option A) → ((x : A) → P x → Q x) → IfSome known P → IfSome known Q
if_some_all None f p = tt
if_some_all (Some x) f p = f x p

pub in_file : (says : Bool → Cells → ℕ → Type 0) (known : Option (List ℕ)) (hive : ℕ) (block : BaseBlock) (bins : List ℕ) → hive ≡ 0 → IfSome known (λ file. FileHasBins file block bins) → ((cells : Cells) → Shows bins cells → says (splits block.minor) cells block.root) → IfSome known (λ file. InFile file hive says)
in_file says known hive block bins zero has its = if_some_all known (λ file there. (zero, block, bins, there, its)) has

pub not_in_file : (lacks : Bool → Cells → ℕ → Refusal → Type 0) (known : Option (List ℕ)) (hive : ℕ) (block : BaseBlock) (bins : List ℕ) (why : Refusal) → hive ≡ 0 → IfSome known (λ file. FileHasBins file block bins) → ((cells : Cells) → Shows bins cells → lacks (splits block.minor) cells block.root why) → IfSome known (λ file. NotInFile file hive lacks why)
not_in_file lacks known hive block bins why zero has its = if_some_all known (λ file there. inr (inr (zero, block, bins, there, its))) has

-- what is printed of an error is the refusal for one of its reasons
pub missing_told : (reasons : List ℕ → Refusal → Type 0) (known : Option (List ℕ)) (error : ReadError) (before after : Option (List ℕ)) (its_status : Status) → IfSome known (λ file. FileStops (reasons file) error) → PrintsMissing before after error its_status → IfSome known (λ file. (why : Refusal) × reasons file why × PrintsRefusal before after why its_status)
missing_told reasons known (unread.Refused why) before after its_status stops told = if_some_all known (λ file reason. (why, reason, told)) stops
missing_told reasons known unread.SourceFailed before after its_status stops told = absurd told
