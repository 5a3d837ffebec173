-- A step's files, from stage to stage.
use Rattle.std.proofs.Common.{◌≡◌, false, ℕ, List, length, refl, sym, ap, subst, ◌∙◌, Some, None, Result, Ok, Err}
use Rattle.refusals.specs.declared.refusal.Refusal.{Refusal}
use Rattle.disk_model.specs.declared.progress.Progress.{Progress}
use Rattle.disk_model.specs.declared.progress.Progress.TheVariants as progress
use Rattle.crash_model.specs.Promises.{Choice}
use Rattle.reg_tree.specs.Maps.{TreeMap}
use Rattle.base_block.specs.declared.block.BaseBlock.{BaseBlock}
use Rattle.disk_model.specs.FileState.{FileState}
use Rattle.disk_model.specs.StoreFiles.{primary_file, log_file}
use Rattle.dirty_vector.specs.Pages.{Pages}
use Rattle.hive_flush_model.specs.StoredTrees.{TreeDecoder, tree_under}
use Rattle.hive_flush_model.specs.Plans.{FlushPlan, PlanFitsImage}
use Rattle.hive_flush_model.specs.Phases.{choice_in}
use Rattle.hive_writer.specs.declared.writer.HiveWriter.{HiveWriter}
use Rattle.hive_writer.specs.declared.stage.FlushStage.{FlushStage}
use Rattle.hive_writer.specs.declared.stage.FlushStage.TheVariants as stage
use Rattle.base_block.specs.Layout.{sector_of}
use Rattle.hive_writer.specs.declared.stage.Purpose.TheVariants as purpose
use Rattle.hive_flush_model.specs.States.{PrimaryIsSyncedIn}
use Rattle.hive_writer.specs.WriterSteps.{PlanEndsWith, FilesMatchStage, IsFlushing, IsWritingFor, KeepsBlocks, StepKeepsMatch, PrimaryIsSyncedAt, base_after, choice_at, dirty_after, durable_after, phase_in, plan_of, work_of}
use Rattle.hive_flush.specs.NextBlocks.{block_again}
use Rattle.hive_flush.specs.HiveStates.{FilesMatchWriter}
use Rattle.hive_flush.specs.Decoders.{DecoderIsSound}

-- ---- what is surely durable

-- of a flush, or if what is in memory is what is durable
pub now_stands : (at : FlushStage) (now memory : TreeMap × ℕ) → ((IsFlushing at → ⊥) → now ≡ memory) → (choice_at at now memory).now ≡ now
now_stands stage.AtRest now memory same = refl
now_stands (stage.WritingLog k) now memory same = refl
now_stands stage.LogSynced now memory same = refl
now_stands stage.PrimaryMarkedDirty now memory same = refl
now_stands (stage.WritingPages purpose.Flush page) now memory same = refl
now_stands (stage.WritingPages purpose.Repair page) now memory same = sym (same (λ e. absurd cc))
now_stands (stage.PagesSynced purpose.Flush) now memory same = refl
now_stands (stage.PagesSynced purpose.Repair) now memory same = sym (same (λ e. absurd cc))
now_stands (stage.HeaderWritten purpose.Flush) now memory same = refl
now_stands (stage.HeaderWritten purpose.Repair) now memory same = sym (same (λ e. absurd cc))

-- ---- a step that was not the last one

-- the plan that a writer follows depends on its blocks
made : List ℕ → Pages → BaseBlock → BaseBlock → FlushPlan
made image pages block base = plan_of (record { hive = 0; base = base; block = block; stage = stage.AtRest; failed = false }) image pages

plan_same : (old new : HiveWriter) (image : List ℕ) (pages : Pages) → new.block ≡ old.block → new.base ≡ old.base → plan_of new image pages ≡ plan_of old image pages
unfolding made
plan_same old new image pages block base = ap (λ (b : BaseBlock). made image pages b new.base) block ∙ ap (made image pages old.block) base

abbrev pub IsNotDone : Result Progress Refusal → Type 0
IsNotDone (Ok progress.Done) = ⊥
IsNotDone (Ok progress.More) = Unit {0}
IsNotDone (Ok progress.Idle) = Unit {0}
IsNotDone (Err refusal) = Unit {0}

left_same : (result : Result Progress Refusal) (pages : Pages) → dirty_after result pages pages ≡ pages
left_same (Ok progress.Done) pages = refl
left_same (Ok progress.More) pages = refl
left_same (Ok progress.Idle) pages = refl
left_same (Err refusal) pages = refl

now_same : (result : Result Progress Refusal) (now memory : TreeMap × ℕ) → IsNotDone result → durable_after result now memory ≡ now
now_same (Ok progress.Done) now memory not_done = elim not_done [ ]
now_same (Ok progress.More) now memory not_done = refl
now_same (Ok progress.Idle) now memory not_done = refl
now_same (Err refusal) now memory not_done = refl

base_same : (result : Result Progress Refusal) (old : HiveWriter) → IsNotDone result → base_after result old ≡ old.base
base_same (Ok progress.Done) old not_done = elim not_done [ ]
base_same (Ok progress.More) old not_done = refl
base_same (Ok progress.Idle) old not_done = refl
base_same (Err refusal) old not_done = refl

-- A call leads the files on by the plan that is followed. For a flush it is the plan of the writer's blocks; for a
-- repair it is any plan that ends with its block.
abbrev pub LeadsBy : HiveWriter → HiveWriter → List ℕ → Pages → Result Progress Refusal → (ℕ → FileState) → (ℕ → FileState) → Type 0
LeadsBy old new image pages result before after = (stands : TreeDecoder TreeMap) (plan : FlushPlan) → PlanEndsWith old.block plan
    → (IsFlushing old.stage → plan ≡ plan_of old image pages) → StepKeepsMatch stands plan image pages result old new before after

went_on : (result : Result Progress Refusal) (old new : HiveWriter) (image : List ℕ) (pages : Pages) (now memory : TreeMap × ℕ) (before after : ℕ → FileState)
    → IsNotDone result → (IsFlushing new.stage → IsFlushing old.stage) → length image ≡ pages.bins_size → KeepsBlocks old new result
    → LeadsBy old new image pages result before after
    → FilesMatchWriter old image pages now memory (before (primary_file old.hive)) (before (log_file old.hive))
    → FilesMatchWriter new image pages now memory (after (primary_file old.hive)) (after (log_file old.hive))
went_on result old new image pages now memory before after not_done flushes size keeps leads on =
    let led = leads on.stands on.plan on.ends on.flush now memory pages (sym size) on.ready on.on in
    let there : FilesMatchStage on.stands (work_of on.plan image pages (durable_after result now memory) memory) new.hive new.stage after
    = subst (λ (v : Pages). FilesMatchStage on.stands (work_of on.plan image v (durable_after result now memory) memory) new.hive new.stage after) (left_same result pages) led.0 in
    let no_change : FilesMatchStage on.stands (work_of on.plan image pages now memory) new.hive new.stage after
    = subst (λ (n : TreeMap × ℕ). FilesMatchStage on.stands (work_of on.plan image pages n memory) new.hive new.stage after) (now_same result now memory not_done) there in
    record {
      stands = on.stands;
      right = subst (λ (b : BaseBlock). DecoderIsSound b.store on.stands) (sym keeps.block) on.right;
      plan = on.plan;
      ready = on.ready;
      ends = record { block = on.ends.block ∙ sym keeps.block; final = on.ends.final ∙ ap sector_of (sym keeps.block) };
      flush = λ f. on.flush (flushes f) ∙ sym (plan_same old new image pages keeps.block (keeps.base ∙ base_same result old not_done));
      on = subst (λ (h : ℕ). FilesMatchStage on.stands (work_of on.plan image pages now memory) h new.stage after) keeps.hive no_change;
      rests = λ working. subst (λ (h : ℕ). PrimaryIsSyncedAt h new.stage after) keeps.hive (led.1 working);
    }

-- ---- the last step

done_on : (old new : HiveWriter) (image : List ℕ) (pages clean : Pages) (now memory : TreeMap × ℕ) (before after : ℕ → FileState)
    → clean.bins_size ≡ length image → KeepsBlocks old new (Ok progress.Done) → new.stage ≡ stage.AtRest
    → LeadsBy old new image pages (Ok progress.Done) before after
    → ((stands : TreeDecoder TreeMap) → tree_under stands new.block image ≡ Some memory.0 → new.block.applied.0 ≡ memory.1
    → PlanFitsImage stands memory image clean (plan_of (record new { block = block_again new.block }) image clean))
    → FilesMatchWriter old image pages now memory (before (primary_file old.hive)) (before (log_file old.hive))
    → FilesMatchWriter (record new { block = block_again new.block }) image clean memory memory (after (primary_file old.hive)) (after (log_file old.hive))
done_on old new image pages clean now memory before after size keeps quiet leads fits on =
    let next = plan_of (record new { block = block_again new.block }) image clean in
    let led : FilesMatchStage on.stands (work_of on.plan image clean memory memory) new.hive new.stage after = (leads on.stands on.plan on.ends on.flush now memory clean size on.ready on.on).0 in
    let at_rest : FilesMatchStage on.stands (work_of on.plan image clean memory memory) new.hive stage.AtRest after
    = subst (λ (q : FlushStage). FilesMatchStage on.stands (work_of on.plan image clean memory memory) new.hive q after) quiet led in
    let again : FilesMatchStage on.stands (work_of next image clean memory memory) new.hive stage.AtRest after = record { rest = at_rest.rest; clean = at_rest.clean; behind = at_rest.behind } in
    let now_at : FilesMatchStage on.stands (work_of next image clean memory memory) new.hive new.stage after
    = subst (λ (q : FlushStage). FilesMatchStage on.stands (work_of next image clean memory memory) new.hive q after) (sym quiet) again in
    let block : on.plan.block ≡ new.block = on.ends.block ∙ sym keeps.block in
    record {
      stands = on.stands;
      right = subst (λ (b : BaseBlock). DecoderIsSound b.store on.stands) (sym keeps.block) on.right;
      plan = next;
      ready = fits on.stands (subst (λ (b : BaseBlock). tree_under on.stands b image ≡ Some memory.0) block on.ready.tree) (sym (ap (λ (b : BaseBlock). b.applied.0) block) ∙ on.ready.number);
      ends = record { block = refl; final = refl };
      flush = λ any. refl;
      on = subst (λ (h : ℕ). FilesMatchStage on.stands (work_of next image clean memory memory) h new.stage after) keeps.hive now_at;
      rests = λ working. subst (λ (q : FlushStage). PrimaryIsSyncedIn (phase_in 0 q) (after (primary_file old.hive))) (sym quiet) tt;
    }

-- ---- with the numbers in the writer's blocks

pub went : (result : Result Progress Refusal) (old new : HiveWriter) (image : List ℕ) (pages : Pages) (held tree : TreeMap) (before after : ℕ → FileState)
    → IsNotDone result → (IsFlushing new.stage → IsFlushing old.stage) → length image ≡ pages.bins_size → KeepsBlocks old new result
    → LeadsBy old new image pages result before after
    → FilesMatchWriter old image pages (held, old.base.applied.0) (tree, old.block.applied.0) (before (primary_file old.hive)) (before (log_file old.hive))
    → FilesMatchWriter new image pages (held, new.base.applied.0) (tree, new.block.applied.0) (after (primary_file old.hive)) (after (log_file old.hive))
went result old new image pages held tree before after not_done flushes size keeps leads on =
    let p = after (primary_file old.hive) in
    let l = after (log_file old.hive) in
    let moved = went_on result old new image pages (held, old.base.applied.0) (tree, old.block.applied.0) before after not_done flushes size keeps leads on in
    let base : new.base ≡ old.base = keeps.base ∙ base_same result old not_done in
    subst (λ (b : BaseBlock). FilesMatchWriter new image pages (held, new.base.applied.0) (tree, b.applied.0) p l) (sym keeps.block)
    (subst (λ (b : BaseBlock). FilesMatchWriter new image pages (held, b.applied.0) (tree, old.block.applied.0) p l) (sym base) moved)

pub done : (old new : HiveWriter) (image : List ℕ) (pages clean : Pages) (held tree : TreeMap) (before after : ℕ → FileState)
    → clean.bins_size ≡ length image → KeepsBlocks old new (Ok progress.Done) → new.stage ≡ stage.AtRest
    → LeadsBy old new image pages (Ok progress.Done) before after
    → ((stands : TreeDecoder TreeMap) (memory : TreeMap × ℕ) → tree_under stands new.block image ≡ Some memory.0 → new.block.applied.0 ≡ memory.1
    → PlanFitsImage stands memory image clean (plan_of (record new { block = block_again new.block }) image clean))
    → FilesMatchWriter old image pages (held, old.base.applied.0) (tree, old.block.applied.0) (before (primary_file old.hive)) (before (log_file old.hive))
    → FilesMatchWriter (record new { block = block_again new.block }) image clean (tree, new.base.applied.0) (tree, new.block.applied.0) (after (primary_file old.hive)) (after (log_file old.hive))
done old new image pages clean held tree before after size keeps quiet leads fits on =
    let p = after (primary_file old.hive) in
    let l = after (log_file old.hive) in
    let again : HiveWriter = record new { block = block_again new.block } in
    let moved = done_on old new image pages clean (held, old.base.applied.0) (tree, old.block.applied.0) before after size keeps quiet leads (λ stands. fits stands (tree, old.block.applied.0)) on in
    subst (λ (b : BaseBlock). FilesMatchWriter again image clean (tree, new.base.applied.0) (tree, b.applied.0) p l) (sym keeps.block)
    (subst (λ (b : BaseBlock). FilesMatchWriter again image clean (tree, b.applied.0) (tree, old.block.applied.0) p l) (sym keeps.base) moved)

-- ---- the same by parts that are equal

pub same_on : (w v : HiveWriter) (image other : List ℕ) (pages left : Pages) (held kept tree same : TreeMap) (primary log : FileState)
    → v ≡ w → other ≡ image → left ≡ pages → kept ≡ held → same ≡ tree
    → FilesMatchWriter w image pages (held, w.base.applied.0) (tree, w.block.applied.0) primary log
    → FilesMatchWriter v other left (kept, v.base.applied.0) (same, v.block.applied.0) primary log
same_on w v image other pages left held kept tree same primary log vw oi lp kh st on =
    let first = subst (λ (x : HiveWriter). FilesMatchWriter x image pages (held, x.base.applied.0) (tree, x.block.applied.0) primary log) (sym vw) on in
    let second = subst (λ (x : List ℕ). FilesMatchWriter v x pages (held, v.base.applied.0) (tree, v.block.applied.0) primary log) (sym oi) first in
    let third = subst (λ (x : Pages). FilesMatchWriter v other x (held, v.base.applied.0) (tree, v.block.applied.0) primary log) (sym lp) second in
    let fourth = subst (λ (x : TreeMap). FilesMatchWriter v other left (x, v.base.applied.0) (tree, v.block.applied.0) primary log) (sym kh) third in
    subst (λ (x : TreeMap). FilesMatchWriter v other left (kept, v.base.applied.0) (x, v.block.applied.0) primary log) (sym st) fourth

pub same_pair : (held tree : TreeMap) (base block : BaseBlock) → held ≡ tree → base ≡ block → ◌≡◌ {A = TreeMap × ℕ} (held, base.applied.0) (tree, block.applied.0)
same_pair held tree base block h b = ap (λ (x : TreeMap). (x, base.applied.0)) h ∙ ap (λ (x : BaseBlock). (tree, x.applied.0)) b

pub ready_same : (w v : HiveWriter) (image other : List ℕ) (pages left : Pages) (memory : TreeMap × ℕ) (stands : TreeDecoder TreeMap) → v ≡ w → other ≡ image → left ≡ pages
    → (tree_under stands v.block other ≡ Some memory.0 → v.block.applied.0 ≡ memory.1 → PlanFitsImage stands memory other left (plan_of v other left))
    → tree_under stands w.block image ≡ Some memory.0 → w.block.applied.0 ≡ memory.1 → PlanFitsImage stands memory image pages (plan_of w image pages)
ready_same w v image other pages left memory stands vw oi lp fits =
    let first = subst (λ (x : HiveWriter). tree_under stands x.block other ≡ Some memory.0 → x.block.applied.0 ≡ memory.1 → PlanFitsImage stands memory other left (plan_of x other left)) vw fits in
    let second = subst (λ (x : List ℕ). tree_under stands w.block x ≡ Some memory.0 → w.block.applied.0 ≡ memory.1 → PlanFitsImage stands memory x left (plan_of w x left)) oi first in
    subst (λ (x : Pages). tree_under stands w.block image ≡ Some memory.0 → w.block.applied.0 ≡ memory.1 → PlanFitsImage stands memory image x (plan_of w image x)) lp second

choice_by : HiveWriter → TreeMap → TreeMap → Choice (TreeMap × ℕ)
choice_by w held tree = choice_at w.stage (held, w.base.applied.0) (tree, w.block.applied.0)

-- what is surely durable once it is done
pub files_done : (old w v : HiveWriter) (kept tree same : TreeMap) → KeepsBlocks old w (Ok progress.Done) → v ≡ record w { block = block_again w.block } → kept ≡ tree → same ≡ tree
    → choice_at v.stage (kept, v.base.applied.0) (same, v.block.applied.0) ≡ choice_at w.stage (tree, old.block.applied.0) (tree, old.block.applied.0)
unfolding choice_by
files_done old w v kept tree same keeps is k s =
    let again : HiveWriter = record w { block = block_again w.block } in
    ap (λ (x : HiveWriter). choice_by x kept same) is ∙ ap (λ (x : TreeMap). choice_by again x same) k ∙ ap (choice_by again tree) s
    ∙ ap (λ (b : BaseBlock). choice_at w.stage (tree, b.applied.0) (tree, w.block.applied.0)) keeps.base ∙ ap (λ (b : BaseBlock). choice_at w.stage (tree, old.block.applied.0) (tree, b.applied.0)) keeps.block

-- a step of a flush follows its plan
pub by_plan : (result : Result Progress Refusal) (old new : HiveWriter) (image other : List ℕ) (pages : Pages) (before after : ℕ → FileState) → IsFlushing old.stage → other ≡ image
    → ((stands : TreeDecoder TreeMap) → StepKeepsMatch stands (plan_of old other pages) other pages result old new before after) → LeadsBy old new image pages result before after
by_plan result old new image other pages before after flushing is led = λ stands plan ends flush.
    subst (λ (q : FlushPlan). StepKeepsMatch stands q image pages result old new before after) (sym (flush flushing))
    (subst (λ (l : List ℕ). StepKeepsMatch stands (plan_of old l pages) l pages result old new before after) is (led stands))

-- a step of a repair leads on by any plan that ends with the writer's block
pub by_end : (result : Result Progress Refusal) (old new : HiveWriter) (image other : List ℕ) (pages : Pages) (before after : ℕ → FileState) → other ≡ image
    → ((stands : TreeDecoder TreeMap) (plan : FlushPlan) → PlanEndsWith old.block plan → StepKeepsMatch stands plan other pages result old new before after) → LeadsBy old new image pages result before after
by_end result old new image other pages before after is led = λ stands plan ends flush.
    subst (λ (l : List ℕ). StepKeepsMatch stands plan l pages result old new before after) is (led stands plan ends)

-- a repair that goes on is no flush
pub repairs_on : (at : FlushStage) → IsWritingFor purpose.Repair at → IsFlushing at → ⊥
repairs_on stage.AtRest r f = elim r [ ]
repairs_on (stage.WritingLog k) r f = elim r [ ]
repairs_on stage.LogSynced r f = elim r [ ]
repairs_on stage.PrimaryMarkedDirty r f = elim r [ ]
repairs_on (stage.WritingPages whose page) r f = absurd cc
repairs_on (stage.PagesSynced whose) r f = absurd cc
repairs_on (stage.HeaderWritten whose) r f = absurd cc

-- what is durable and on its way depends on no length of a log
pub choice_is : (total : ℕ) (at : FlushStage) (now memory : TreeMap × ℕ) → choice_in (phase_in total at) now memory ≡ choice_at at now memory
choice_is total stage.AtRest now memory = refl
choice_is total (stage.WritingLog k) now memory = refl
choice_is total stage.LogSynced now memory = refl
choice_is total stage.PrimaryMarkedDirty now memory = refl
choice_is total (stage.WritingPages whose page) now memory = refl
choice_is total (stage.PagesSynced whose) now memory = refl
choice_is total (stage.HeaderWritten whose) now memory = refl

-- a flush with nothing on its way hasn't begun
pub rests : (at : FlushStage) (now memory : TreeMap × ℕ) → IsFlushing at → (choice_at at now memory).next ≡ None → at ≡ stage.AtRest
rests stage.AtRest now memory f e = refl
rests (stage.WritingLog k) now memory f e = absurd cc
rests stage.LogSynced now memory f e = absurd cc
rests stage.PrimaryMarkedDirty now memory f e = absurd cc
rests (stage.WritingPages purpose.Flush page) now memory f e = absurd cc
rests (stage.WritingPages purpose.Repair page) now memory f e = absurd cc
rests (stage.PagesSynced purpose.Flush) now memory f e = absurd cc
rests (stage.PagesSynced purpose.Repair) now memory f e = absurd cc
rests (stage.HeaderWritten purpose.Flush) now memory f e = absurd cc
rests (stage.HeaderWritten purpose.Repair) now memory f e = absurd cc
