-- A step: where it begins, its call, and what is applied of its result.
use Rattle.std.proofs.Common.{◌≡◌, inl, inr, ℕ, ◌*◌, ◌<◌, List, length, refl, sym, ap, ◌∙◌, subst, arith, Option, Result, Ok, Err}
use Rattle.std.specs.Prelude.{min, IfOk}
use Rattle.std.proofs.lemmas.Bool.{true≢false}
use Rattle.refusals.specs.declared.refusal.Refusal.{Refusal}
use Rattle.refusals.specs.declared.refusal.Refusal.TheVariants.{DiskFault}
use Rattle.disk_model.specs.declared.progress.Progress.{Progress}
use Rattle.disk_model.specs.declared.progress.Progress.TheVariants as progress
use Rattle.crash_model.specs.StepAnswers.{Says}
use Rattle.crash_model.specs.Promises.{Choice, settled, under_way, HiveSays}
use Rattle.disk_model.specs.FileState.{FileState}
use Rattle.disk_model.specs.StoreFiles.{primary_file, log_file}
use Rattle.disk_model.specs.declared.disk.Failed.{Failed}
use Rattle.dirty_vector.specs.Pages.{Pages}
use Rattle.hive_flush_model.specs.StoredTrees.{TreeDecoder}
use Rattle.hive_flush_model.specs.Plans.{FlushPlan, PlanFitsImage}
use Rattle.hive_flush_model.specs.Phases.{FlushState}
use Rattle.hive_flush_model.specs.States.{IsWritingLog}
use Rattle.hive_flush_model.proofs.Moving.{begins}
use Rattle.hive_writer.specs.declared.writer.HiveWriter.{HiveWriter}
use Rattle.hive_writer.specs.declared.stage.FlushStage.{FlushStage}
use Rattle.hive_writer.specs.declared.stage.FlushStage.TheVariants as stage
use Rattle.hive_writer.specs.declared.stage.Purpose.{Purpose}
use Rattle.hive_writer.specs.WriterSteps.{CallsDecrease, calls_left, plan_of, work_of, FilesMatchStage, PrimaryIsSyncedAt, CallLeadsTo, StepKeepsMatch, IsNext, IsFlushing, BeginsAt, StepEndsAs, KeepsBlocks, base_after, choice_at, durable_after, dirty_after}

-- ---- what is applied

pub settled_keeps : (called : Result FlushStage Failed) (result : Result Progress Refusal) (old new : HiveWriter) → StepEndsAs called result old new → KeepsBlocks old new result
settled_keeps (Ok stage.AtRest) result old new s = subst (λ (r : Result Progress Refusal). KeepsBlocks old new r) (sym s.0) (subst (λ (n : HiveWriter). KeepsBlocks old n (Ok progress.Done)) (sym s.1) (record { hive = refl; block = refl; base = refl }))
settled_keeps (Ok (stage.WritingLog k)) result old new s = subst (λ (r : Result Progress Refusal). KeepsBlocks old new r) (sym s.0) (subst (λ (n : HiveWriter). KeepsBlocks old n (Ok progress.More)) (sym s.1) (record { hive = refl; block = refl; base = refl }))
settled_keeps (Ok stage.LogSynced) result old new s = subst (λ (r : Result Progress Refusal). KeepsBlocks old new r) (sym s.0) (subst (λ (n : HiveWriter). KeepsBlocks old n (Ok progress.More)) (sym s.1) (record { hive = refl; block = refl; base = refl }))
settled_keeps (Ok stage.PrimaryMarkedDirty) result old new s = subst (λ (r : Result Progress Refusal). KeepsBlocks old new r) (sym s.0) (subst (λ (n : HiveWriter). KeepsBlocks old n (Ok progress.More)) (sym s.1) (record { hive = refl; block = refl; base = refl }))
settled_keeps (Ok (stage.WritingPages p k)) result old new s = subst (λ (r : Result Progress Refusal). KeepsBlocks old new r) (sym s.0) (subst (λ (n : HiveWriter). KeepsBlocks old n (Ok progress.More)) (sym s.1) (record { hive = refl; block = refl; base = refl }))
settled_keeps (Ok (stage.PagesSynced p)) result old new s = subst (λ (r : Result Progress Refusal). KeepsBlocks old new r) (sym s.0) (subst (λ (n : HiveWriter). KeepsBlocks old n (Ok progress.More)) (sym s.1) (record { hive = refl; block = refl; base = refl }))
settled_keeps (Ok (stage.HeaderWritten p)) result old new s = subst (λ (r : Result Progress Refusal). KeepsBlocks old new r) (sym s.0) (subst (λ (n : HiveWriter). KeepsBlocks old n (Ok progress.More)) (sym s.1) (record { hive = refl; block = refl; base = refl }))
settled_keeps (Err why) result old new s = subst (λ (r : Result Progress Refusal). KeepsBlocks old new r) (sym s.0) (subst (λ (n : HiveWriter). KeepsBlocks old n (Err DiskFault)) (sym s.1) (record { hive = refl; block = refl; base = refl }))

module _ {T : Type 0} (decode : TreeDecoder T) (plan : FlushPlan) (image : List ℕ) (pages : Pages) (before after : ℕ → FileState) where
  pub settled_on : (called : Result FlushStage Failed) (result : Result Progress Refusal) (old new : HiveWriter) → StepEndsAs called result old new
      → CallLeadsTo decode plan image pages old.hive old.stage called before after → StepKeepsMatch decode plan image pages result old new before after
  settled_on (Ok stage.AtRest) result old new s leads now memory others size ready on =
      let led = leads now memory others size ready on in (
        subst (λ (n : HiveWriter). FilesMatchStage decode (work_of plan image (dirty_after result pages others) (durable_after result now memory) memory) n.hive n.stage after) (sym s.1)
            (subst (λ (r : Result Progress Refusal). FilesMatchStage decode (work_of plan image (dirty_after r pages others) (durable_after r now memory) memory) old.hive stage.AtRest after) (sym s.0) led.0),
        λ working. subst (λ (n : HiveWriter). PrimaryIsSyncedAt n.hive n.stage after) (sym s.1) led.1,
      )
  settled_on (Ok (stage.WritingLog k)) result old new s leads now memory others size ready on =
      let led = leads now memory others size ready on in (
        subst (λ (n : HiveWriter). FilesMatchStage decode (work_of plan image (dirty_after result pages others) (durable_after result now memory) memory) n.hive n.stage after) (sym s.1)
            (subst (λ (r : Result Progress Refusal). FilesMatchStage decode (work_of plan image (dirty_after r pages others) (durable_after r now memory) memory) old.hive (stage.WritingLog k) after) (sym s.0) led.0),
        λ working. subst (λ (n : HiveWriter). PrimaryIsSyncedAt n.hive n.stage after) (sym s.1) led.1,
      )
  settled_on (Ok stage.LogSynced) result old new s leads now memory others size ready on =
      let led = leads now memory others size ready on in (
        subst (λ (n : HiveWriter). FilesMatchStage decode (work_of plan image (dirty_after result pages others) (durable_after result now memory) memory) n.hive n.stage after) (sym s.1)
            (subst (λ (r : Result Progress Refusal). FilesMatchStage decode (work_of plan image (dirty_after r pages others) (durable_after r now memory) memory) old.hive stage.LogSynced after) (sym s.0) led.0),
        λ working. subst (λ (n : HiveWriter). PrimaryIsSyncedAt n.hive n.stage after) (sym s.1) led.1,
      )
  settled_on (Ok stage.PrimaryMarkedDirty) result old new s leads now memory others size ready on =
      let led = leads now memory others size ready on in (
        subst (λ (n : HiveWriter). FilesMatchStage decode (work_of plan image (dirty_after result pages others) (durable_after result now memory) memory) n.hive n.stage after) (sym s.1)
            (subst (λ (r : Result Progress Refusal). FilesMatchStage decode (work_of plan image (dirty_after r pages others) (durable_after r now memory) memory) old.hive stage.PrimaryMarkedDirty after) (sym s.0) led.0),
        λ working. subst (λ (n : HiveWriter). PrimaryIsSyncedAt n.hive n.stage after) (sym s.1) led.1,
      )
  settled_on (Ok (stage.WritingPages p k)) result old new s leads now memory others size ready on =
      let led = leads now memory others size ready on in (
        subst (λ (n : HiveWriter). FilesMatchStage decode (work_of plan image (dirty_after result pages others) (durable_after result now memory) memory) n.hive n.stage after) (sym s.1)
            (subst (λ (r : Result Progress Refusal). FilesMatchStage decode (work_of plan image (dirty_after r pages others) (durable_after r now memory) memory) old.hive (stage.WritingPages p k) after) (sym s.0) led.0),
        λ working. subst (λ (n : HiveWriter). PrimaryIsSyncedAt n.hive n.stage after) (sym s.1) led.1,
      )
  settled_on (Ok (stage.PagesSynced p)) result old new s leads now memory others size ready on =
      let led = leads now memory others size ready on in (
        subst (λ (n : HiveWriter). FilesMatchStage decode (work_of plan image (dirty_after result pages others) (durable_after result now memory) memory) n.hive n.stage after) (sym s.1)
            (subst (λ (r : Result Progress Refusal). FilesMatchStage decode (work_of plan image (dirty_after r pages others) (durable_after r now memory) memory) old.hive (stage.PagesSynced p) after) (sym s.0) led.0),
        λ working. subst (λ (n : HiveWriter). PrimaryIsSyncedAt n.hive n.stage after) (sym s.1) led.1,
      )
  settled_on (Ok (stage.HeaderWritten p)) result old new s leads now memory others size ready on =
      let led = leads now memory others size ready on in (
        subst (λ (n : HiveWriter). FilesMatchStage decode (work_of plan image (dirty_after result pages others) (durable_after result now memory) memory) n.hive n.stage after) (sym s.1)
            (subst (λ (r : Result Progress Refusal). FilesMatchStage decode (work_of plan image (dirty_after r pages others) (durable_after r now memory) memory) old.hive (stage.HeaderWritten p) after) (sym s.0) led.0),
        λ working. subst (λ (n : HiveWriter). PrimaryIsSyncedAt n.hive n.stage after) (sym s.1) led.1,
      )
  settled_on (Err why) result old new s leads now memory others size ready on = (
    subst (λ (n : HiveWriter). FilesMatchStage decode (work_of plan image (dirty_after result pages others) (durable_after result now memory) memory) n.hive n.stage after) (sym s.1)
        (subst (λ (r : Result Progress Refusal). FilesMatchStage decode (work_of plan image (dirty_after r pages others) (durable_after r now memory) memory) old.hive old.stage after) (sym s.0) (leads now memory others size ready on)),
    λ working. absurd (true≢false (sym (ap (λ (n : HiveWriter). n.failed) s.1) ∙ working)),
  )

-- fewer calls are left
pub settled_falls : (total : ℕ) (pages : Pages) (called : Result FlushStage Failed) (result : Result Progress Refusal) (old new : HiveWriter)
    → IfOk called (CallsDecrease total pages old.stage) → StepEndsAs called result old new → result ≡ Ok progress.More → calls_left total pages new.stage < calls_left total pages old.stage
settled_falls total pages (Ok stage.AtRest) result old new f s more = let e : Ok progress.Done ≡ Ok progress.More = sym s.0 ∙ more in absurd cc
settled_falls total pages (Ok (stage.WritingLog k)) result old new (inl e) s more = absurd cc
settled_falls total pages (Ok (stage.WritingLog k)) result old new (inr f) s more = subst (λ (n : HiveWriter). calls_left total pages n.stage < calls_left total pages old.stage) (sym s.1) f
settled_falls total pages (Ok stage.LogSynced) result old new (inl e) s more = absurd cc
settled_falls total pages (Ok stage.LogSynced) result old new (inr f) s more = subst (λ (n : HiveWriter). calls_left total pages n.stage < calls_left total pages old.stage) (sym s.1) f
settled_falls total pages (Ok stage.PrimaryMarkedDirty) result old new (inl e) s more = absurd cc
settled_falls total pages (Ok stage.PrimaryMarkedDirty) result old new (inr f) s more = subst (λ (n : HiveWriter). calls_left total pages n.stage < calls_left total pages old.stage) (sym s.1) f
settled_falls total pages (Ok (stage.WritingPages p k)) result old new (inl e) s more = absurd cc
settled_falls total pages (Ok (stage.WritingPages p k)) result old new (inr f) s more = subst (λ (n : HiveWriter). calls_left total pages n.stage < calls_left total pages old.stage) (sym s.1) f
settled_falls total pages (Ok (stage.PagesSynced p)) result old new (inl e) s more = absurd cc
settled_falls total pages (Ok (stage.PagesSynced p)) result old new (inr f) s more = subst (λ (n : HiveWriter). calls_left total pages n.stage < calls_left total pages old.stage) (sym s.1) f
settled_falls total pages (Ok (stage.HeaderWritten p)) result old new (inl e) s more = absurd cc
settled_falls total pages (Ok (stage.HeaderWritten p)) result old new (inr f) s more = subst (λ (n : HiveWriter). calls_left total pages n.stage < calls_left total pages old.stage) (sym s.1) f
settled_falls total pages (Err why) result old new f s more = let e : Err DiskFault ≡ Ok progress.More = sym s.0 ∙ more in absurd cc

-- ---- where it begins

logging_none : {T : Type 0} (decode : TreeDecoder T) (w : FlushState T) (hive : ℕ) (states : ℕ → FileState) → PlanFitsImage decode w.memory w.image w.pages w.plan
    → FilesMatchStage decode w hive stage.AtRest states → FilesMatchStage decode w hive (stage.WritingLog 0) states
logging_none decode w hive states ready on =
    let none : 0 ≡ min (65536 * 0) (length w.plan.encoding) = omega arith in
    subst (λ (n : ℕ). IsWritingLog decode w n (states (primary_file hive)) (states (log_file hive))) none
    (begins decode w (states (primary_file hive)) (states (log_file hive)) ready on)

pub begun_on : {T : Type 0} (decode : TreeDecoder T) (w : FlushState T) (states : ℕ → FileState) (at : FlushStage) (old mid : HiveWriter) → old.stage ≡ at → BeginsAt at old mid
    → PlanFitsImage decode w.memory w.image w.pages w.plan → FilesMatchStage decode w old.hive old.stage states → FilesMatchStage decode w mid.hive mid.stage states
begun_on decode w states stage.AtRest old mid e b ready on =
    subst (λ (n : HiveWriter). FilesMatchStage decode w n.hive n.stage states) (sym b)
    (logging_none decode w old.hive states ready (subst (λ (s : FlushStage). FilesMatchStage decode w old.hive s states) e on))
begun_on decode w states (stage.WritingLog k) old mid e b ready on = subst (λ (n : HiveWriter). FilesMatchStage decode w n.hive n.stage states) (sym b) on
begun_on decode w states stage.LogSynced old mid e b ready on = subst (λ (n : HiveWriter). FilesMatchStage decode w n.hive n.stage states) (sym b) on
begun_on decode w states stage.PrimaryMarkedDirty old mid e b ready on = subst (λ (n : HiveWriter). FilesMatchStage decode w n.hive n.stage states) (sym b) on
begun_on decode w states (stage.WritingPages p k) old mid e b ready on = subst (λ (n : HiveWriter). FilesMatchStage decode w n.hive n.stage states) (sym b) on
begun_on decode w states (stage.PagesSynced p) old mid e b ready on = subst (λ (n : HiveWriter). FilesMatchStage decode w n.hive n.stage states) (sym b) on
begun_on decode w states (stage.HeaderWritten p) old mid e b ready on = subst (λ (n : HiveWriter). FilesMatchStage decode w n.hive n.stage states) (sym b) on

pub begun_keeps : (at : FlushStage) (old mid new : HiveWriter) (result : Result Progress Refusal) → BeginsAt at old mid → KeepsBlocks mid new result → KeepsBlocks old new result
begun_keeps stage.AtRest old mid new result b kept =
    let done : base_after result mid ≡ base_after result old = same_base result in
    record { hive = kept.hive ∙ ap (λ (n : HiveWriter). n.hive) b; block = kept.block ∙ ap (λ (n : HiveWriter). n.block) b; base = kept.base ∙ done }
  where
    same_base : (r : Result Progress Refusal) → base_after r mid ≡ base_after r old
    same_base (Ok progress.Done) = ap (λ (n : HiveWriter). n.block) b
    same_base (Ok progress.More) = ap (λ (n : HiveWriter). n.base) b
    same_base (Ok progress.Idle) = ap (λ (n : HiveWriter). n.base) b
    same_base (Err why) = ap (λ (n : HiveWriter). n.base) b
begun_keeps (stage.WritingLog k) old mid new result b kept = subst (λ (n : HiveWriter). KeepsBlocks n new result) b kept
begun_keeps stage.LogSynced old mid new result b kept = subst (λ (n : HiveWriter). KeepsBlocks n new result) b kept
begun_keeps stage.PrimaryMarkedDirty old mid new result b kept = subst (λ (n : HiveWriter). KeepsBlocks n new result) b kept
begun_keeps (stage.WritingPages p k) old mid new result b kept = subst (λ (n : HiveWriter). KeepsBlocks n new result) b kept
begun_keeps (stage.PagesSynced p) old mid new result b kept = subst (λ (n : HiveWriter). KeepsBlocks n new result) b kept
begun_keeps (stage.HeaderWritten p) old mid new result b kept = subst (λ (n : HiveWriter). KeepsBlocks n new result) b kept

pub begun_plan : (at : FlushStage) (old mid : HiveWriter) (image : List ℕ) (pages : Pages) → BeginsAt at old mid → plan_of mid image pages ≡ plan_of old image pages
begun_plan stage.AtRest old mid image pages b = ap (λ (n : HiveWriter). plan_of n image pages) b
begun_plan (stage.WritingLog k) old mid image pages b = ap (λ (n : HiveWriter). plan_of n image pages) b
begun_plan stage.LogSynced old mid image pages b = ap (λ (n : HiveWriter). plan_of n image pages) b
begun_plan stage.PrimaryMarkedDirty old mid image pages b = ap (λ (n : HiveWriter). plan_of n image pages) b
begun_plan (stage.WritingPages p k) old mid image pages b = ap (λ (n : HiveWriter). plan_of n image pages) b
begun_plan (stage.PagesSynced p) old mid image pages b = ap (λ (n : HiveWriter). plan_of n image pages) b
begun_plan (stage.HeaderWritten p) old mid image pages b = ap (λ (n : HiveWriter). plan_of n image pages) b

-- ---- what it says

next_flushes : (at next : FlushStage) → IsFlushing at → IsNext at next → IsFlushing next
next_flushes stage.AtRest next f n = absurd n
next_flushes (stage.WritingLog k) next f (inl e) = subst (λ (s : FlushStage). IsFlushing s) (sym e) tt
next_flushes (stage.WritingLog k) next f (inr (inl e)) = subst (λ (s : FlushStage). IsFlushing s) (sym e) tt
next_flushes (stage.WritingLog k) next f (inr (inr e)) = subst (λ (s : FlushStage). IsFlushing s) (sym e) refl
next_flushes stage.LogSynced next f e = subst (λ (s : FlushStage). IsFlushing s) (sym e) tt
next_flushes stage.PrimaryMarkedDirty next f e = subst (λ (s : FlushStage). IsFlushing s) (sym e) refl
next_flushes (stage.WritingPages p k) next f (inl e) = subst (λ (s : FlushStage). IsFlushing s) (sym e.1) f
next_flushes (stage.WritingPages p k) next f (inr e) = subst (λ (s : FlushStage). IsFlushing s) (sym e) f
next_flushes (stage.PagesSynced p) next f e = subst (λ (s : FlushStage). IsFlushing s) (sym e) f
next_flushes (stage.HeaderWritten p) next f e = subst (λ (s : FlushStage). IsFlushing s) (sym e) tt

module _ {T : Type 0} (now memory : T × ℕ) where
  flying : (at : FlushStage) → IsFlushing at → (at ≡ stage.AtRest → ⊥) → choice_at at now memory ≡ under_way now memory
  flying stage.AtRest f not_idle = absurd (not_idle refl)
  flying (stage.WritingLog k) f not_idle = refl
  flying stage.LogSynced f not_idle = refl
  flying stage.PrimaryMarkedDirty f not_idle = refl
  flying (stage.WritingPages p k) f not_idle = ap (λ (q : Purpose). choice_at (stage.WritingPages q k) now memory) f
  flying (stage.PagesSynced p) f not_idle = ap (λ (q : Purpose). choice_at (stage.PagesSynced q) now memory) f
  flying (stage.HeaderWritten p) f not_idle = ap (λ (q : Purpose). choice_at (stage.HeaderWritten q) now memory) f

  next_of : Choice (T × ℕ) → Option (T × ℕ)
  next_of c = c.next

  -- on its way before and after
  goes_on : (old new : Choice (T × ℕ)) → old ≡ under_way now memory → new ≡ under_way now memory → Says (HiveSays memory) (Ok progress.More) old new
  unfolding next_of
  goes_on old new a b = inr ((memory, ap next_of a), b ∙ sym a)

  ends : (old new : Choice (T × ℕ)) → old ≡ under_way now memory → new ≡ settled memory → Says (HiveSays memory) (Ok progress.Done) old new
  unfolding next_of
  ends old new a b = (memory, ap next_of a, b)

  pub settled_says : (at : FlushStage) (called : Result FlushStage Failed) (result : Result Progress Refusal) (old new : HiveWriter) → old.stage ≡ at → IsFlushing at → (at ≡ stage.AtRest → ⊥)
      → IfOk called (IsNext at) → StepEndsAs called result old new
      → Says (HiveSays memory) result (under_way now memory) (choice_at new.stage (durable_after result now memory) memory)
  settled_says at (Ok stage.AtRest) result old new e f not_idle next s =
      subst (λ (n : HiveWriter). Says (HiveSays memory) result (under_way now memory) (choice_at n.stage (durable_after result now memory) memory)) (sym s.1)
      (subst (λ (r : Result Progress Refusal). Says (HiveSays memory) r (under_way now memory) (choice_at stage.AtRest (durable_after r now memory) memory)) (sym s.0) (ends _ _ refl refl))
  settled_says at (Ok (stage.WritingLog k)) result old new e f not_idle next s =
      subst (λ (n : HiveWriter). Says (HiveSays memory) result (under_way now memory) (choice_at n.stage (durable_after result now memory) memory)) (sym s.1)
      (subst (λ (r : Result Progress Refusal). Says (HiveSays memory) r (under_way now memory) (choice_at (stage.WritingLog k) (durable_after r now memory) memory)) (sym s.0)
      (goes_on _ _ refl (flying (stage.WritingLog k) (next_flushes at (stage.WritingLog k) f next) (λ q. absurd cc))))
  settled_says at (Ok stage.LogSynced) result old new e f not_idle next s =
      subst (λ (n : HiveWriter). Says (HiveSays memory) result (under_way now memory) (choice_at n.stage (durable_after result now memory) memory)) (sym s.1)
      (subst (λ (r : Result Progress Refusal). Says (HiveSays memory) r (under_way now memory) (choice_at stage.LogSynced (durable_after r now memory) memory)) (sym s.0)
      (goes_on _ _ refl (flying stage.LogSynced (next_flushes at stage.LogSynced f next) (λ q. absurd cc))))
  settled_says at (Ok stage.PrimaryMarkedDirty) result old new e f not_idle next s =
      subst (λ (n : HiveWriter). Says (HiveSays memory) result (under_way now memory) (choice_at n.stage (durable_after result now memory) memory)) (sym s.1)
      (subst (λ (r : Result Progress Refusal). Says (HiveSays memory) r (under_way now memory) (choice_at stage.PrimaryMarkedDirty (durable_after r now memory) memory)) (sym s.0)
      (goes_on _ _ refl (flying stage.PrimaryMarkedDirty (next_flushes at stage.PrimaryMarkedDirty f next) (λ q. absurd cc))))
  settled_says at (Ok (stage.WritingPages p k)) result old new e f not_idle next s =
      subst (λ (n : HiveWriter). Says (HiveSays memory) result (under_way now memory) (choice_at n.stage (durable_after result now memory) memory)) (sym s.1)
      (subst (λ (r : Result Progress Refusal). Says (HiveSays memory) r (under_way now memory) (choice_at (stage.WritingPages p k) (durable_after r now memory) memory)) (sym s.0)
      (goes_on _ _ refl (flying (stage.WritingPages p k) (next_flushes at (stage.WritingPages p k) f next) (λ q. absurd cc))))
  settled_says at (Ok (stage.PagesSynced p)) result old new e f not_idle next s =
      subst (λ (n : HiveWriter). Says (HiveSays memory) result (under_way now memory) (choice_at n.stage (durable_after result now memory) memory)) (sym s.1)
      (subst (λ (r : Result Progress Refusal). Says (HiveSays memory) r (under_way now memory) (choice_at (stage.PagesSynced p) (durable_after r now memory) memory)) (sym s.0)
      (goes_on _ _ refl (flying (stage.PagesSynced p) (next_flushes at (stage.PagesSynced p) f next) (λ q. absurd cc))))
  settled_says at (Ok (stage.HeaderWritten p)) result old new e f not_idle next s =
      subst (λ (n : HiveWriter). Says (HiveSays memory) result (under_way now memory) (choice_at n.stage (durable_after result now memory) memory)) (sym s.1)
      (subst (λ (r : Result Progress Refusal). Says (HiveSays memory) r (under_way now memory) (choice_at (stage.HeaderWritten p) (durable_after r now memory) memory)) (sym s.0)
      (goes_on _ _ refl (flying (stage.HeaderWritten p) (next_flushes at (stage.HeaderWritten p) f next) (λ q. absurd cc))))
  settled_says at (Err why) result old new e f not_idle next s =
      subst (λ (n : HiveWriter). Says (HiveSays memory) result (under_way now memory) (choice_at n.stage (durable_after result now memory) memory)) (sym s.1)
      (subst (λ (r : Result Progress Refusal). Says (HiveSays memory) r (under_way now memory) (choice_at old.stage (durable_after r now memory) memory)) (sym s.0)
      (inr (ap (λ (q : FlushStage). choice_at q now memory) e ∙ flying at f not_idle)))

  -- a flush's first call, from a hive that is quiet
  first_says : (called : Result FlushStage Failed) (result : Result Progress Refusal) (old new : HiveWriter) → old.stage ≡ stage.WritingLog 0
      → IfOk called (IsNext (stage.WritingLog 0)) → StepEndsAs called result old new
      → Says (HiveSays memory) result (settled now) (choice_at new.stage (durable_after result now memory) memory)
  first_says (Ok stage.AtRest) result old new e (inl q) s = absurd cc
  first_says (Ok stage.AtRest) result old new e (inr (inl q)) s = absurd cc
  first_says (Ok stage.AtRest) result old new e (inr (inr q)) s = absurd cc
  first_says (Ok (stage.WritingLog k)) result old new e next s =
      subst (λ (n : HiveWriter). Says (HiveSays memory) result (settled now) (choice_at n.stage (durable_after result now memory) memory)) (sym s.1)
      (subst (λ (r : Result Progress Refusal). Says (HiveSays memory) r (settled now) (choice_at (stage.WritingLog k) (durable_after r now memory) memory)) (sym s.0) (inl (refl, refl)))
  first_says (Ok stage.LogSynced) result old new e next s =
      subst (λ (n : HiveWriter). Says (HiveSays memory) result (settled now) (choice_at n.stage (durable_after result now memory) memory)) (sym s.1)
      (subst (λ (r : Result Progress Refusal). Says (HiveSays memory) r (settled now) (choice_at stage.LogSynced (durable_after r now memory) memory)) (sym s.0) (inl (refl, refl)))
  first_says (Ok stage.PrimaryMarkedDirty) result old new e (inl q) s = absurd cc
  first_says (Ok stage.PrimaryMarkedDirty) result old new e (inr (inl q)) s = absurd cc
  first_says (Ok stage.PrimaryMarkedDirty) result old new e (inr (inr q)) s = absurd cc
  first_says (Ok (stage.WritingPages p k)) result old new e (inl q) s = absurd cc
  first_says (Ok (stage.WritingPages p k)) result old new e (inr (inl q)) s = absurd cc
  first_says (Ok (stage.WritingPages p k)) result old new e (inr (inr q)) s = absurd cc
  first_says (Ok (stage.PagesSynced p)) result old new e (inl q) s = absurd cc
  first_says (Ok (stage.PagesSynced p)) result old new e (inr (inl q)) s = absurd cc
  first_says (Ok (stage.PagesSynced p)) result old new e (inr (inr q)) s =
      subst (λ (n : HiveWriter). Says (HiveSays memory) result (settled now) (choice_at n.stage (durable_after result now memory) memory)) (sym s.1)
      (subst (λ (r : Result Progress Refusal). Says (HiveSays memory) r (settled now) (choice_at (stage.PagesSynced p) (durable_after r now memory) memory)) (sym s.0)
      (inl (refl, flying (stage.PagesSynced p) (next_flushes (stage.WritingLog 0) (stage.PagesSynced p) tt (inr (inr q))) (λ r. absurd cc))))
  first_says (Ok (stage.HeaderWritten p)) result old new e (inl q) s = absurd cc
  first_says (Ok (stage.HeaderWritten p)) result old new e (inr (inl q)) s = absurd cc
  first_says (Ok (stage.HeaderWritten p)) result old new e (inr (inr q)) s = absurd cc
  first_says (Err why) result old new e next s =
      subst (λ (n : HiveWriter). Says (HiveSays memory) result (settled now) (choice_at n.stage (durable_after result now memory) memory)) (sym s.1)
      (subst (λ (r : Result Progress Refusal). Says (HiveSays memory) r (settled now) (choice_at old.stage (durable_after r now memory) memory)) (sym s.0)
      (inl (refl, ap (λ (q : FlushStage). choice_at q now memory) e)))

  pub begun_says : (at : FlushStage) (called : Result FlushStage Failed) (result : Result Progress Refusal) (old mid new : HiveWriter) → old.stage ≡ at → IsFlushing at → BeginsAt at old mid
      → IfOk called (IsNext mid.stage) → StepEndsAs called result mid new → IsFlushing mid.stage → (mid.stage ≡ stage.AtRest → ⊥)
      → Says (HiveSays memory) result (choice_at old.stage now memory) (choice_at new.stage (durable_after result now memory) memory)
  begun_says stage.AtRest called result old mid new e f b next s fm not_idle =
      let x = choice_at new.stage (durable_after result now memory) memory in
      let begun : mid.stage ≡ stage.WritingLog 0 = ap (λ (n : HiveWriter). n.stage) b in
      subst (λ (q : Choice (T × ℕ)). Says (HiveSays memory) result q x) (sym (ap (λ (q : FlushStage). choice_at q now memory) e))
      (first_says called result mid new begun (subst (λ (q : FlushStage). IfOk called (IsNext q)) begun next) s)
  begun_says (stage.WritingLog k) called result old mid new e f b next s fm not_idle =
      let x = choice_at new.stage (durable_after result now memory) memory in
      subst (λ (q : Choice (T × ℕ)). Says (HiveSays memory) result q x) (sym (ap (λ (q : FlushStage). choice_at q now memory) e ∙ flying (stage.WritingLog k) f (λ q. absurd cc)))
      (settled_says mid.stage called result mid new refl fm not_idle next s)
  begun_says stage.LogSynced called result old mid new e f b next s fm not_idle =
      let x = choice_at new.stage (durable_after result now memory) memory in
      subst (λ (q : Choice (T × ℕ)). Says (HiveSays memory) result q x) (sym (ap (λ (q : FlushStage). choice_at q now memory) e ∙ flying stage.LogSynced f (λ q. absurd cc)))
      (settled_says mid.stage called result mid new refl fm not_idle next s)
  begun_says stage.PrimaryMarkedDirty called result old mid new e f b next s fm not_idle =
      let x = choice_at new.stage (durable_after result now memory) memory in
      subst (λ (q : Choice (T × ℕ)). Says (HiveSays memory) result q x) (sym (ap (λ (q : FlushStage). choice_at q now memory) e ∙ flying stage.PrimaryMarkedDirty f (λ q. absurd cc)))
      (settled_says mid.stage called result mid new refl fm not_idle next s)
  begun_says (stage.WritingPages p k) called result old mid new e f b next s fm not_idle =
      let x = choice_at new.stage (durable_after result now memory) memory in
      subst (λ (q : Choice (T × ℕ)). Says (HiveSays memory) result q x) (sym (ap (λ (q : FlushStage). choice_at q now memory) e ∙ flying (stage.WritingPages p k) f (λ q. absurd cc)))
      (settled_says mid.stage called result mid new refl fm not_idle next s)
  begun_says (stage.PagesSynced p) called result old mid new e f b next s fm not_idle =
      let x = choice_at new.stage (durable_after result now memory) memory in
      subst (λ (q : Choice (T × ℕ)). Says (HiveSays memory) result q x) (sym (ap (λ (q : FlushStage). choice_at q now memory) e ∙ flying (stage.PagesSynced p) f (λ q. absurd cc)))
      (settled_says mid.stage called result mid new refl fm not_idle next s)
  begun_says (stage.HeaderWritten p) called result old mid new e f b next s fm not_idle =
      let x = choice_at new.stage (durable_after result now memory) memory in
      subst (λ (q : Choice (T × ℕ)). Says (HiveSays memory) result q x) (sym (ap (λ (q : FlushStage). choice_at q now memory) e ∙ flying (stage.HeaderWritten p) f (λ q. absurd cc)))
      (settled_says mid.stage called result mid new refl fm not_idle next s)
