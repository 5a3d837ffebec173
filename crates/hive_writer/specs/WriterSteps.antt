-- A hive's writer as the work and the phase of a flush or a repair.
use Rattle.std.specs.Prelude.{◌≡◌, ◌⊎◌, ⊤, ℕ, zero, suc, ◌+◌, ◌-◌, ◌*◌, ◌/◌, ◌<◌, min, true, false, List, length, Result, Ok, Err, MatchResult}
use Rattle.refusals.specs.declared.refusal.Refusal.{Refusal}
use Rattle.refusals.specs.declared.refusal.Refusal.TheVariants.{DiskFault}
use Rattle.disk_model.specs.declared.progress.Progress.{Progress}
use Rattle.disk_model.specs.declared.progress.Progress.TheVariants as progress
use Rattle.crash_model.specs.Promises.{Choice}
use Rattle.disk_model.specs.FileState.{FileState}
use Rattle.disk_model.specs.StoreFiles.{primary_file, log_file}
use Rattle.disk_model.specs.declared.disk.Failed.{Failed}
use Rattle.base_block.specs.declared.block.BaseBlock.{BaseBlock}
use Rattle.base_block.specs.Layout.{sector_of}
use Rattle.dirt_log.specs.LogEncoding.{log_bytes}
use Rattle.dirt_log.specs.declared.steps.TheConstants.{CHUNK_BYTES}
use Rattle.dirty_vector.specs.Marks.{marked_count}
use Rattle.dirty_vector.specs.Pages.{Pages, is_dirty, dirty_count}
use Rattle.hive_flush_model.specs.StoredTrees.{TreeDecoder}
use Rattle.hive_flush_model.specs.Plans.{FlushPlan, PlanFitsImage, marked_block}
use Rattle.hive_flush_model.specs.Phases.{FlushPhase, FlushPhase.AtRest, FlushPhase.WritingLog, FlushPhase.LogSynced, FlushPhase.PrimaryMarkedDirty, FlushPhase.WritingPages, FlushPhase.PagesSynced, FlushPhase.HeaderWritten, FlushState, Purpose.Flush, Purpose.Repair, choice_in}
use Rattle.hive_flush_model.specs.Phases as phases
use Rattle.hive_flush_model.specs.States.{PrimaryIsSyncedIn, files_match_phase}
use Rattle.hive_writer.specs.declared.writer.HiveWriter.{HiveWriter}
use Rattle.hive_writer.specs.declared.stage.FlushStage.{FlushStage}
use Rattle.hive_writer.specs.declared.stage.FlushStage.TheVariants as stage
use Rattle.hive_writer.specs.declared.stage.Purpose.{Purpose}
use Rattle.hive_writer.specs.declared.stage.Purpose.TheVariants as purpose

-- what a flush of an image and its dirty pages writes
abbrev pub plan_of : HiveWriter → List ℕ → Pages → FlushPlan
plan_of writer image pages = record {
  block = writer.block;
  raised = sector_of (marked_block writer.base);
  final = sector_of writer.block;
  encoding = log_bytes image pages writer.block;
}

-- A plan ends with the writer's block, as the plan of a flush and the plan of a repair do.
pub record PlanEndsWith (last : BaseBlock) (plan : FlushPlan) : Type 0 where
  pub block : plan.block ≡ last
  pub final : plan.final ≡ sector_of last

abbrev pub purpose_in : Purpose → phases.Purpose
purpose_in purpose.Flush = Flush
purpose_in purpose.Repair = Repair

-- the phase of a stage, for a log of a number of bytes, which is written in chunks
abbrev pub phase_in : ℕ → FlushStage → FlushPhase
phase_in total stage.AtRest = AtRest
phase_in total (stage.WritingLog chunks) = WritingLog (min (CHUNK_BYTES * chunks) total)
phase_in total stage.LogSynced = LogSynced
phase_in total stage.PrimaryMarkedDirty = PrimaryMarkedDirty
phase_in total (stage.WritingPages purpose page) = WritingPages (purpose_in purpose) (512 * page)
phase_in total (stage.PagesSynced purpose) = PagesSynced (purpose_in purpose)
phase_in total (stage.HeaderWritten purpose) = HeaderWritten (purpose_in purpose)

abbrev pub work_of : {T : Type 0} → FlushPlan → List ℕ → Pages → T × ℕ → T × ℕ → FlushState T
work_of plan image pages now memory = record { now = now; memory = memory; image = image; pages = pages; plan = plan }

-- what is surely durable in a stage that a call led to: if the hive is quiet again, what was in memory
abbrev pub durable_in : {T : Type 0} → FlushStage → T × ℕ → T × ℕ → T × ℕ
durable_in stage.AtRest now memory = memory
durable_in (stage.WritingLog chunks) now memory = now
durable_in stage.LogSynced now memory = now
durable_in stage.PrimaryMarkedDirty now memory = now
durable_in (stage.WritingPages purpose page) now memory = now
durable_in (stage.PagesSynced purpose) now memory = now
durable_in (stage.HeaderWritten purpose) now memory = now

-- the pages in which the primary file may differ from the image in a stage that a call led to. If the hive is quiet
-- again, none does, whatever is said to be dirty
abbrev pub dirty_in : FlushStage → Pages → Pages → Pages
dirty_in stage.AtRest pages others = others
dirty_in (stage.WritingLog chunks) pages others = pages
dirty_in stage.LogSynced pages others = pages
dirty_in stage.PrimaryMarkedDirty pages others = pages
dirty_in (stage.WritingPages purpose page) pages others = pages
dirty_in (stage.PagesSynced purpose) pages others = pages
dirty_in (stage.HeaderWritten purpose) pages others = pages

-- the two files of a hive are as its stage says
abbrev pub FilesMatchStage : {T : Type 0} → TreeDecoder T → FlushState T → ℕ → FlushStage → (ℕ → FileState) → Type 0
FilesMatchStage decode work hive at states = files_match_phase decode work (phase_in (length work.plan.encoding) at) (states (primary_file hive)) (states (log_file hive))

-- At a stage that a call has led to, the primary file is at rest after the sync of the log, and after the sync of the
-- pages.
abbrev pub PrimaryIsSyncedAt : ℕ → FlushStage → (ℕ → FileState) → Type 0
PrimaryIsSyncedAt hive at states = PrimaryIsSyncedIn (phase_in 0 at) (states (primary_file hive))

-- A call leads from a stage to the next, for whatever is durable and in memory; a call that failed leaves the files in
-- their stage.
abbrev pub CallLeadsTo : {T : Type 0} → TreeDecoder T → FlushPlan → List ℕ → Pages → ℕ → FlushStage → Result FlushStage Failed → (ℕ → FileState) → (ℕ → FileState) → Type 0
CallLeadsTo {T = T} decode plan image pages hive at result before after =
    (now memory : T × ℕ) (others : Pages) → others.bins_size ≡ length image → PlanFitsImage decode memory image pages plan
    → FilesMatchStage decode (work_of plan image pages now memory) hive at before
    → MatchResult result (λ next. FilesMatchStage decode (work_of plan image (dirty_in next pages others) (durable_in next now memory) memory) hive next after × PrimaryIsSyncedAt hive next after)
    (λ _. FilesMatchStage decode (work_of plan image pages now memory) hive at after)

-- which stage follows one: as many chunks and pages as there are. After the log comes the last sector, if no page is dirty
abbrev pub IsNext : FlushStage → FlushStage → Type 0
IsNext stage.AtRest next = ⊥
IsNext (stage.WritingLog chunks) next = (next ≡ stage.WritingLog (chunks + 1)) ⊎ ((next ≡ stage.LogSynced) ⊎ (next ≡ stage.PagesSynced purpose.Flush))
IsNext stage.LogSynced next = next ≡ stage.PrimaryMarkedDirty
IsNext stage.PrimaryMarkedDirty next = next ≡ stage.WritingPages purpose.Flush 0
IsNext (stage.WritingPages purpose page) next = ((after : ℕ) × (next ≡ stage.WritingPages purpose after)) ⊎ (next ≡ stage.PagesSynced purpose)
IsNext (stage.PagesSynced purpose) next = next ≡ stage.HeaderWritten purpose
IsNext (stage.HeaderWritten purpose) next = next ≡ stage.AtRest

-- the stage is one of writing pages and the last sector, for this purpose
abbrev pub IsWritingFor : Purpose → FlushStage → Type 0
IsWritingFor purpose stage.AtRest = ⊥
IsWritingFor purpose (stage.WritingLog chunks) = ⊥
IsWritingFor purpose stage.LogSynced = ⊥
IsWritingFor purpose stage.PrimaryMarkedDirty = ⊥
IsWritingFor purpose (stage.WritingPages whose page) = whose ≡ purpose
IsWritingFor purpose (stage.PagesSynced whose) = whose ≡ purpose
IsWritingFor purpose (stage.HeaderWritten whose) = whose ≡ purpose

-- the stage is one of a flush
abbrev pub IsFlushing : FlushStage → Type 0
IsFlushing stage.AtRest = ⊤
IsFlushing (stage.WritingLog chunks) = ⊤
IsFlushing stage.LogSynced = ⊤
IsFlushing stage.PrimaryMarkedDirty = ⊤
IsFlushing (stage.WritingPages whose page) = whose ≡ purpose.Flush
IsFlushing (stage.PagesSynced whose) = whose ≡ purpose.Flush
IsFlushing (stage.HeaderWritten whose) = whose ≡ purpose.Flush

-- how many dirty pages lie from a page on
abbrev pub dirty_from : Pages → ℕ → ℕ
dirty_from pages page = dirty_count pages - marked_count (is_dirty pages) page

-- how many chunks a log of a number of bytes has
abbrev pub chunk_count : ℕ → ℕ
chunk_count total = (total + (CHUNK_BYTES - 1)) / CHUNK_BYTES

-- How many calls a flush makes after the sync of its log, at most, for a number of dirty pages. They are the raised
-- sector and its sync, a write for each page and their sync, the last sector and its sync. Without a page they are the
-- last two.
abbrev pub calls_behind_log : ℕ → ℕ
calls_behind_log zero = 2
calls_behind_log (suc n) = suc n + 5

-- How many calls are left until a flush or a repair is done, at most, for a log of a number of bytes. They are its
-- chunks and its sync, and those after it. For a quiet hive it is a whole flush.
abbrev pub calls_left : ℕ → Pages → FlushStage → ℕ
calls_left total pages stage.AtRest = chunk_count total + 1 + calls_behind_log (dirty_count pages)
calls_left total pages (stage.WritingLog chunks) = chunk_count total - chunks + 1 + calls_behind_log (dirty_count pages)
calls_left total pages stage.LogSynced = dirty_count pages + 5
calls_left total pages stage.PrimaryMarkedDirty = dirty_count pages + 4
calls_left total pages (stage.WritingPages purpose page) = dirty_from pages page + 3
calls_left total pages (stage.PagesSynced purpose) = 2
calls_left total pages (stage.HeaderWritten purpose) = 1

-- a call leads to the end, or to a stage with fewer calls left
abbrev pub CallsDecrease : ℕ → Pages → FlushStage → FlushStage → Type 0
CallsDecrease total pages at next = (next ≡ stage.AtRest) ⊎ (calls_left total pages next < calls_left total pages at)

-- what the files surely hold at a stage, and what may be on its way
abbrev pub choice_at : {T : Type 0} → FlushStage → T × ℕ → T × ℕ → Choice (T × ℕ)
choice_at at now memory = choice_in (phase_in 0 at) now memory

-- what is surely durable after a step
abbrev pub durable_after : {T : Type 0} → Result Progress Refusal → T × ℕ → T × ℕ → T × ℕ
durable_after (Ok progress.Done) now memory = memory
durable_after (Ok progress.More) now memory = now
durable_after (Ok progress.Idle) now memory = now
durable_after (Err refusal) now memory = now

-- the pages in which the primary file may differ from the image after a step
abbrev pub dirty_after : Result Progress Refusal → Pages → Pages → Pages
dirty_after (Ok progress.Done) pages others = others
dirty_after (Ok progress.More) pages others = pages
dirty_after (Ok progress.Idle) pages others = pages
dirty_after (Err refusal) pages others = pages

-- a flush begins with the first chunk of its log; one that has begun goes on
abbrev pub BeginsAt : FlushStage → HiveWriter → HiveWriter → Type 0
BeginsAt stage.AtRest old new = new ≡ record old { stage = stage.WritingLog 0 }
BeginsAt (stage.WritingLog chunks) old new = new ≡ old
BeginsAt stage.LogSynced old new = new ≡ old
BeginsAt stage.PrimaryMarkedDirty old new = new ≡ old
BeginsAt (stage.WritingPages purpose page) old new = new ≡ old
BeginsAt (stage.PagesSynced purpose) old new = new ≡ old
BeginsAt (stage.HeaderWritten purpose) old new = new ≡ old

-- What a step does to a writer: it comes to the next stage. If that stage is quiet, it is done, and the primary file's
-- block is the one that was to be. If the device failed, it stays in its stage for good.
abbrev pub StepEndsAs : Result FlushStage Failed → Result Progress Refusal → HiveWriter → HiveWriter → Type 0
StepEndsAs (Ok stage.AtRest) result old new = (result ≡ Ok progress.Done) × (new ≡ record old { stage = stage.AtRest; base = old.block })
StepEndsAs (Ok next) result old new = (result ≡ Ok progress.More) × (new ≡ record old { stage = next })
StepEndsAs (Err why) result old new = (result ≡ Err DiskFault) × (new ≡ record old { failed = true })

-- A step leads a writer's files on, for whatever is durable and in memory; and if it is done, whatever pages are said
-- to be dirty from then on. The primary file rests if no write of it is on its way, as long as the device hasn't failed
-- in the step.
abbrev pub StepKeepsMatch : {T : Type 0} → TreeDecoder T → FlushPlan → List ℕ → Pages → Result Progress Refusal → HiveWriter → HiveWriter → (ℕ → FileState) → (ℕ → FileState) → Type 0
StepKeepsMatch {T = T} decode plan image pages result old new before after =
    (now memory : T × ℕ) (others : Pages) → others.bins_size ≡ length image → PlanFitsImage decode memory image pages plan
    → FilesMatchStage decode (work_of plan image pages now memory) old.hive old.stage before
    → FilesMatchStage decode (work_of plan image (dirty_after result pages others) (durable_after result now memory) memory) new.hive new.stage after × (new.failed ≡ false → PrimaryIsSyncedAt new.hive new.stage after)

-- the block that a primary file has after a step: if it is done, the one that was to be
abbrev pub base_after : Result Progress Refusal → HiveWriter → BaseBlock
base_after (Ok progress.Done) old = old.block
base_after (Ok progress.More) old = old.base
base_after (Ok progress.Idle) old = old.base
base_after (Err refusal) old = old.base

-- the hive and the block that it is to have stay; the block that it has changes as a step is done
pub record KeepsBlocks (old new : HiveWriter) (result : Result Progress Refusal) : Type 0 where
  pub hive : new.hive ≡ old.hive
  pub block : new.block ≡ old.block
  pub base : new.base ≡ base_after result old
