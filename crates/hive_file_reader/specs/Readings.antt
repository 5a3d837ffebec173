-- What is said of a file that is read as one of several hives.
use Rattle.std.specs.Prelude.{◌≡◌, ◌⊎◌, ℕ, List, Option, IfSome, Result, Ok, Err}
use Rattle.std.specs.Global.{Vec}
use Rattle.refusals.specs.declared.refusal.Refusal.{Refusal}
use Rattle.refusals.specs.declared.refusal.Refusal.TheVariants as refusal
use Rattle.base_block.specs.declared.block.BaseBlock.{BaseBlock}
use Rattle.hive_file_reader.specs.Hives.{FileHasBins, FileHasNoBins, FileLacksBins, FileHoldsNoHive, FileHoldsNoShallowTree}
use Rattle.hive_file_reader.specs.declared.hive.ReadError.{ReadError}
use Rattle.hive_file_reader.specs.declared.hive.ReadError.TheVariants as unread

-- a refusal, reported of the hive of this number: damage gets the number, any other refusal names no hive
abbrev pub of_hive : ℕ → Refusal → Refusal
of_hive hive (refusal.HiveDamaged _ cause) = refusal.HiveDamaged hive cause
of_hive hive why = why

-- why a file is refused, reported of hive 0: memory was not given, or it holds no hive
abbrev pub FileRefused : List ℕ → Refusal → Type 0
FileRefused file why = (why ≡ refusal.NoMemory) ⊎ FileHoldsNoHive file why

-- why a file is refused, reported of the hive of this number
abbrev pub FileRefusedAs : ℕ → List ℕ → Refusal → Type 0
FileRefusedAs hive file why = (plain : Refusal) × FileRefused file plain × (why ≡ of_hive hive plain)

-- the same of a file that may hold a tree of any weight
abbrev pub ShallowFileRefused : List ℕ → Refusal → Type 0
ShallowFileRefused file why = (why ≡ refusal.NoMemory) ⊎ FileHoldsNoShallowTree file why

abbrev pub ShallowFileRefusedAs : ℕ → List ℕ → Refusal → Type 0
ShallowFileRefusedAs hive file why = (plain : Refusal) × ShallowFileRefused file plain × (why ≡ of_hive hive plain)

-- a refusal is one of the file's, if its bytes are known
abbrev pub RefusalFitsFile : Option (List ℕ) → ReadError → Type 0
RefusalFitsFile known (unread.Refused why) = IfSome known (λ file. FileRefused file why)
RefusalFitsFile known unread.SourceFailed = Unit {0}

-- a refusal is one of the file's, if its bytes are known, reported of the hive of this number
abbrev pub RefusalFitsFileAs : ℕ → Option (List ℕ) → ReadError → Type 0
RefusalFitsFileAs hive known (unread.Refused why) = IfSome known (λ file. FileRefusedAs hive file why)
RefusalFitsFileAs hive known unread.SourceFailed = Unit {0}

-- the same of a file whose bins data alone are read, whether they tile or not: memory was not given, or it has none
abbrev pub FileBinsUnread : List ℕ → Refusal → Type 0
FileBinsUnread file why = (why ≡ refusal.NoMemory) ⊎ FileLacksBins file why

-- the same of one whose bins data are read as an image: memory was not given, or it has none that tile
abbrev pub FileBinsRefused : List ℕ → Refusal → Type 0
FileBinsRefused file why = (why ≡ refusal.NoMemory) ⊎ FileHasNoBins file why

abbrev pub FileBinsRefusedAs : ℕ → List ℕ → Refusal → Type 0
FileBinsRefusedAs hive file why = (plain : Refusal) × FileBinsRefused file plain × (why ≡ of_hive hive plain)

abbrev pub BinsRefusalFitsFile : Option (List ℕ) → ReadError → Type 0
BinsRefusalFitsFile known (unread.Refused why) = IfSome known (λ file. FileBinsRefused file why)
BinsRefusalFitsFile known unread.SourceFailed = Unit {0}

abbrev pub BinsRefusalFitsFileAs : ℕ → Option (List ℕ) → ReadError → Type 0
BinsRefusalFitsFileAs hive known (unread.Refused why) = IfSome known (λ file. FileBinsRefusedAs hive file why)
BinsRefusalFitsFileAs hive known unread.SourceFailed = Unit {0}

-- bins data that were read are the file's, if its bytes are known, and its block is the one that was read; or why there are
-- none is one of the file's reasons
abbrev pub BinsOrRefusal : Option (List ℕ) → Result (BaseBlock × Vec ℕ) Refusal → Type 0
BinsOrRefusal known (Ok read) = IfSome known (λ file. FileHasBins file read.0 read.1.items)
BinsOrRefusal known (Err why) = IfSome known (λ file. FileBinsUnread file why)

-- a reader's error is want of memory, or says that the file can't be read
abbrev pub IsReadError : ReadError → Type 0
IsReadError (unread.Refused why) = why ≡ refusal.NoMemory
IsReadError unread.SourceFailed = Unit {0}
