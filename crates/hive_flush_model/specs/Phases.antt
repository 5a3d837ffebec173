-- How far a flush or a repair of a hive is, and what its files surely hold then.
use Rattle.std.specs.Prelude.{ℕ, List}
use Rattle.crash_model.specs.Promises.{Choice, settled, under_way}
use Rattle.dirty_vector.specs.Pages.{Pages}
use Rattle.hive_flush_model.specs.Plans.{FlushPlan}

-- whose pages are written: the pages of a flush, or the pages of a log that repairs
pub data Purpose : Type 0 where
  Flush : Purpose
  Repair : Purpose

-- Each phase but the first names what the last call that was done has done. A number of bytes of the log is written;
-- the log is synced. The raised sector is written; it is synced, and a number of bytes of the image is in the file. The
-- pages are synced, or a flush that changes none has synced its log; the last sector is written.
pub data FlushPhase : Type 0 where
  AtRest : FlushPhase
  WritingLog : ℕ → FlushPhase
  LogSynced : FlushPhase
  PrimaryMarkedDirty : FlushPhase
  WritingPages : Purpose → ℕ → FlushPhase
  PagesSynced : Purpose → FlushPhase
  HeaderWritten : Purpose → FlushPhase

-- What is surely durable in the files. What is in memory, with its image and the pages in which the primary file may
-- differ from it. What the flush writes.
pub record FlushState (T : Type 0) : Type 0 where
  pub now : T × ℕ
  pub memory : T × ℕ
  pub image : List ℕ
  pub pages : Pages
  pub plan : FlushPlan

-- a hive with its files: the work, and how far it is
pub record Hive (T : Type 0) : Type 0 where
  pub work : FlushState T
  pub phase : FlushPhase

-- what the files hold while pages are written: a flush is under way; a repair changes nothing of it
abbrev pub choice_for : {T : Type 0} → Purpose → T × ℕ → T × ℕ → Choice (T × ℕ)
choice_for Flush now memory = under_way now memory
choice_for Repair now memory = settled memory

-- what the files surely hold in a phase, and what may be on its way
abbrev pub choice_in : {T : Type 0} → FlushPhase → T × ℕ → T × ℕ → Choice (T × ℕ)
choice_in AtRest now memory = settled now
choice_in (WritingLog n) now memory = under_way now memory
choice_in LogSynced now memory = under_way now memory
choice_in PrimaryMarkedDirty now memory = under_way now memory
choice_in (WritingPages purpose n) now memory = choice_for purpose now memory
choice_in (PagesSynced purpose) now memory = choice_for purpose now memory
choice_in (HeaderWritten purpose) now memory = choice_for purpose now memory

abbrev pub choice : {T : Type 0} → Hive T → Choice (T × ℕ)
choice hive = choice_in hive.phase hive.work.now hive.work.memory
