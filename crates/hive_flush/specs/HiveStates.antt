-- What contracts see of a hive's files and memory.
use Rattle.std.specs.Prelude.{◌≡◌, ◌≢◌, ◌≤◌, ℕ, ◌+◌, if◌then◌else◌, true, false, List, length, take, drop}
use Rattle.crash_model.specs.Promises.{Choice}
use Rattle.crash_model.specs.Changes.{AreLegal, applied, ops_on}
use Rattle.change_codec.specs.ModelChanges.{tree_rules, timed_elements}
use Rattle.reg_tree.specs.Maps.{TreeMap}
use Rattle.reg_tree.specs.declared.element.Element.{Element}
use Rattle.disk_model.specs.FileState.{FileState}
use Rattle.disk_model.specs.StoreFiles.{primary_file, log_file}
use Rattle.hive_flush_model.specs.StoredTrees.{TreeDecoder}
use Rattle.hive_flush_model.specs.Plans.{FlushPlan, PlanFitsImage}
use Rattle.hive_flush_model.specs.States.{PrimaryIsSyncedIn, files_match_phase}
use Rattle.dirty_vector.specs.Pages.{Pages, clean_pages, dirty_count}
use Rattle.dirt_log.specs.FileContents.{is_clean_file}
use Rattle.dirt_log.specs.WholeLog.{block_of, pages_in}
use Rattle.hive_writer.specs.declared.writer.HiveWriter.{HiveWriter}
use Rattle.hive_writer.specs.declared.stage.Purpose.TheVariants as purpose
use Rattle.hive_writer.specs.declared.stage.FlushStage.{FlushStage}
use Rattle.hive_writer.specs.declared.stage.FlushStage.TheVariants as stage
use Rattle.hive_writer.specs.WriterSteps.{PlanEndsWith, IsFlushing, calls_left, dirty_from, choice_at, phase_in, plan_of, work_of}
use Rattle.base_block.specs.declared.block.TheConstants.{MINOR_VERSION}
use Rattle.hive_emit.specs.Forms.{IsFormed}
use Rattle.hive_flush.specs.Decoders.{DecoderIsSound}
use Rattle.hive_flush.specs.NextBlocks.{block_again}
use Rattle.hive_flush.specs.declared.hive.HiveFile.{HiveFile}

-- the tree in memory, and the number of the last change in it
abbrev pub memory_of : HiveFile → TreeMap × ℕ
memory_of file = (file.tree, file.writer.block.applied.0)

-- the tree and number that are surely durable
abbrev pub durable_of : HiveFile → TreeMap × ℕ
durable_of file = (file.held.value, file.writer.base.applied.0)

-- what is surely durable in the files, and what may be on its way
abbrev pub file_choice : HiveFile → Choice (TreeMap × ℕ)
file_choice file = choice_at file.writer.stage (durable_of file) (memory_of file)

-- the tree that changes lead to on a hive's tree: their operations on the hive, one after another, each at its change's
-- moment
abbrev pub tree_after_changes : ℕ → List Element → TreeMap → TreeMap
tree_after_changes hive changes tree = applied tree_rules (ops_on hive (timed_elements changes)) tree

-- the changes' operations on a hive are legal on its tree, each in its turn
abbrev pub ChangesAreLegalOn : ℕ → List Element → TreeMap → Type 0
ChangesAreLegalOn hive changes tree = AreLegal tree_rules (ops_on hive (timed_elements changes)) tree

-- the number of the hive in its store, and the store
abbrev pub hive_number : HiveFile → ℕ
hive_number file = file.writer.hive

abbrev pub store_of : HiveFile → List ℕ
store_of file = file.writer.block.store

-- no repair is left
abbrev pub HiveIsRepaired : HiveFile → Type 0
HiveIsRepaired file = IsFlushing file.writer.stage

-- The primary file and the log are as a writer's stage says, for an image, its pages, what is surely durable, and what
-- is in memory. This is so for some rule that is right in the store, and a plan by it that the image fits. For a flush
-- it is the plan that the writer follows. As long as the device hasn't failed, the primary file rests if no write of it
-- is on its way.
pub record FilesMatchWriter (writer : HiveWriter) (image : List ℕ) (pages : Pages) (now memory : TreeMap × ℕ) (primary log : FileState) : Type 0 where
  pub stands : TreeDecoder TreeMap
  pub right : DecoderIsSound writer.block.store stands
  pub plan : FlushPlan
  pub ready : PlanFitsImage stands memory image pages plan
  pub ends : PlanEndsWith writer.block plan
  pub flush : IsFlushing writer.stage → plan ≡ plan_of writer image pages
  pub on : files_match_phase stands (work_of plan image pages now memory) (phase_in (length plan.encoding) writer.stage) primary log
  pub rests : writer.failed ≡ false → PrimaryIsSyncedIn (phase_in 0 writer.stage) primary

-- the primary file and the log are as the hive's stage says
abbrev pub FilesMatchHive : HiveFile → FileState → FileState → Type 0
FilesMatchHive file primary log = FilesMatchWriter file.writer file.image.bytes file.pages (durable_of file) (memory_of file) primary log

-- from one moment to another the two files go on as the hive's stages say
abbrev pub FilesFollowHive : HiveFile → HiveFile → (ℕ → FileState) → (ℕ → FileState) → Type 0
FilesFollowHive old new before after =
    FilesMatchHive old (before (primary_file (hive_number old))) (before (log_file (hive_number old))) → FilesMatchHive new (after (primary_file (hive_number old))) (after (log_file (hive_number old)))

-- two files that are as the hive's stage says are so still
abbrev pub KeepsMatch : HiveFile → HiveFile → Type 0
KeepsMatch old new = (primary log : FileState) → FilesMatchHive old primary log → FilesMatchHive new primary log

-- The device has failed in a step.
abbrev pub IsBroken : HiveFile → Type 0
IsBroken file = file.writer.failed ≡ true

-- What was in memory is durable, no page differs, and the next flush ends with the next numbers. The rest of the block
-- is as it was.
pub record MemoryIsDurable (old new : HiveFile) : Type 0 where
  pub held : new.held.value ≡ old.tree
  pub tree : new.tree ≡ old.tree
  pub bins : new.image.bytes ≡ old.image.bytes
  pub pages : new.pages ≡ clean_pages old.pages.bins_size
  pub writer : new.writer ≡ record old.writer { block = block_again old.writer.block }

-- A writer, an image, its pages and a tree are those of a hive that was opened from a clean primary file. The file's own
-- block is the one whose primary number a flush raises first. If it is of the minor version that is written, the image is
-- the file's bins data, and no page differs. Otherwise the image is made anew of the tree, no shorter than the bins data.
pub record IsOpenedAs (primary : List ℕ) (writer : HiveWriter) (image : List ℕ) (pages : Pages) (tree : TreeMap) : Type 0 where
  pub base : writer.base ≡ block_of primary
  pub kept : (block_of primary).minor ≡ MINOR_VERSION → (image ≡ take (block_of primary).bins_size (drop 4096 primary)) × (pages ≡ clean_pages (block_of primary).bins_size)
  pub renewed : (block_of primary).minor ≢ MINOR_VERSION → ((block_of primary).bins_size ≤ length image) × IsFormed image writer.block.root tree

-- a hive is opened from a clean primary file
abbrev pub IsOpenedFrom : List ℕ → HiveFile → Type 0
IsOpenedFrom primary file = IsOpenedAs primary file.writer file.image.bytes file.pages file.tree

-- how many pages the next flush writes, or the repair that is left
abbrev pub dirty_pages : HiveFile → ℕ
dirty_pages file = dirty_count file.pages

-- how many pages a log marks
abbrev pub marked_pages : List ℕ → ℕ
marked_pages log = dirty_count (pages_in log)

-- how many calls of a repair are left at a stage, at most: none if no repair is on its way
abbrev pub repairs_at : Pages → FlushStage → ℕ
repairs_at pages (stage.WritingPages purpose.Repair page) = dirty_from pages page + 3
repairs_at pages (stage.PagesSynced purpose.Repair) = 2
repairs_at pages (stage.HeaderWritten purpose.Repair) = 1
repairs_at pages _ = 0

abbrev pub repairs_left : HiveFile → ℕ
repairs_left file = repairs_at file.pages file.writer.stage

-- how many calls the repair of two files takes, at most: none if the primary file is clean
abbrev pub most_repairs : List ℕ → List ℕ → ℕ
most_repairs primary log = if is_clean_file primary then 0 else marked_pages log + 3

-- a flush's calls that are left, or the calls of a whole flush
abbrev pub steps_left : HiveFile → ℕ
steps_left file = calls_left (length (plan_of file.writer file.image.bytes file.pages).encoding) file.pages file.writer.stage
