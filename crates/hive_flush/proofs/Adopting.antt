-- A quiet hive that takes another image into memory.
use Rattle.std.proofs.Common.{◌≡◌, ℕ, List, length, take, drop, refl, sym, subst, Some}
use Rattle.reg_tree.specs.Maps.{TreeMap}
use Rattle.dirty_vector.specs.Pages.{Pages}
use Rattle.dirt_log.specs.WholeLog.{block_of}
use Rattle.disk_model.specs.FileState.{FileState}
use Rattle.hive_records.specs.Images.{BinsEncodeTree}
use Rattle.hive_flush_model.proofs.Moving.{absorbed}
use Rattle.hive_flush_model.specs.StoredTrees.{TreeDecoder, tree_under}
use Rattle.dirty_vector.specs.Changes.{ChangesAreMarked}
use Rattle.hive_flush_model.specs.Plans.{PlanFitsImage}
use Rattle.hive_flush_model.specs.States.{IsAtRest, PrimaryIsSyncedIn, files_match_phase}
use Rattle.hive_writer.specs.declared.writer.HiveWriter.{HiveWriter}
use Rattle.hive_writer.specs.declared.stage.FlushStage.{FlushStage}
use Rattle.hive_writer.specs.declared.stage.FlushStage.TheVariants as stage
use Rattle.hive_writer.specs.WriterSteps.{phase_in, plan_of, work_of}
use Rattle.hive_flush.specs.HiveStates.{FilesMatchWriter}
use Rattle.hive_flush.specs.NextBlocks.{block_for}
use Rattle.hive_load.specs.Limits.{BinsEncodeTreeInLimits}
use Rattle.hive_flush.specs.Decoders.{decoder_with}
use Rattle.hive_flush.proofs.Going.{ready_same}
use Rattle.hive_flush.proofs.TreeDecoder.{gives, gives_right, gives_still}

-- bins data encode at most one tree
abbrev pub IsOne : Type 0
IsOne = (bytes : List ℕ) (root minor : ℕ) (t u : TreeMap) → BinsEncodeTree bytes root minor t → BinsEncodeTree bytes root minor u → t ≡ u

pub adopted : (w : HiveWriter) (image bins : List ℕ) (pages left : Pages) (now memory : TreeMap × ℕ) (tree : TreeMap) (root size time number : ℕ) (primary log : FileState)
    → IsOne → w.stage ≡ stage.AtRest → BinsEncodeTreeInLimits bins root w.block.minor tree → ChangesAreMarked image pages bins left
    → ((stands : TreeDecoder TreeMap) → tree_under stands (block_for w.block root size time number) bins ≡ Some tree
    → PlanFitsImage stands (tree, number) bins left (plan_of (record w { block = block_for w.block root size time number }) bins left))
    → FilesMatchWriter w image pages now memory primary log → FilesMatchWriter (record w { block = block_for w.block root size time number }) bins left now (tree, number) primary log
adopted w image bins pages left now memory tree root size time number primary log one quiet within marks ready on =
    let block = block_for w.block root size time number in
    let next = plan_of (record w { block = block }) bins left in
    let stands = decoder_with on.stands bins root w.block.minor w.block.store tree in
    let rest : IsAtRest on.stands (work_of on.plan image pages now memory) primary = subst (λ (q : FlushStage). files_match_phase on.stands (work_of on.plan image pages now memory) (phase_in (length on.plan.encoding) q) primary log) quiet on.on in
    let moved = absorbed on.stands (work_of on.plan image pages now memory) (tree, number) bins left primary marks rest in
    let own = block_of primary.synced in
    let part = take own.bins_size (drop 4096 primary.synced) in
    let same : part ≡ bins → own.root ≡ root → own.minor ≡ w.block.minor → tree ≡ now.0 = λ b r m.
    let hive_refusal = on.right part own.root own.minor own.store now.0 rest.clean.tree in
    one bins root w.block.minor tree now.0 within.0 (subst (λ (n : ℕ). BinsEncodeTree bins root n now.0) m (subst (λ (n : ℕ). BinsEncodeTree bins n own.minor now.0) r (subst (λ (x : List ℕ). BinsEncodeTree x own.root own.minor now.0) b hive_refusal.1.0))) in
    let no_change : IsAtRest stands (work_of next bins left now (tree, number)) primary = record {
      rest = rest.rest;
      clean = record {
        clean = rest.clean.clean;
        own = rest.clean.own;
        long = rest.clean.long;
        tree = gives_still on.stands bins root w.block.minor w.block.store tree part own.root own.minor own.store now.0 same rest.clean.tree;
        number = rest.clean.number;
      };
      behind = moved.behind;
    } in
    record {
      stands = stands;
      right = gives_right on.stands bins root w.block.minor w.block.store tree w.block.store on.right refl within;
      plan = next;
      ready = ready stands (gives on.stands bins root w.block.minor w.block.store tree);
      ends = record { block = refl; final = refl };
      flush = λ any. refl;
      on = subst (λ (q : FlushStage). files_match_phase stands (work_of next bins left now (tree, number)) (phase_in (length next.encoding) q) primary log) (sym quiet) no_change;
      rests = λ working. subst (λ (q : FlushStage). PrimaryIsSyncedIn (phase_in 0 q) primary) (sym quiet) tt;
    }

-- the files of a quiet hive whose writer is planned for another image, as the calls of install and absorb show it
pub planned_on : (w next : HiveWriter) (image bins last shown : List ℕ) (pages left : Pages) (held old tree : TreeMap) (root size time number : ℕ) (primary log : FileState)
    → IsOne → w.stage ≡ stage.AtRest → next ≡ record w { block = block_for w.block root size time number } → w.block.minor ≡ 5
    → BinsEncodeTreeInLimits bins root 5 tree → ChangesAreMarked image pages bins left → last ≡ bins → shown ≡ bins
    → ((stands : TreeDecoder TreeMap) → tree_under stands next.block shown ≡ Some tree → next.block.applied.0 ≡ number → PlanFitsImage stands (tree, number) shown left (plan_of next shown left))
    → FilesMatchWriter w image pages (held, w.base.applied.0) (old, w.block.applied.0) primary log
    → FilesMatchWriter next last left (held, next.base.applied.0) (tree, next.block.applied.0) primary log
planned_on w next image bins last shown pages left held old tree root size time number primary log one quiet is minor within marks same lent fits on =
    let planned : HiveWriter = record w { block = block_for w.block root size time number } in
    let encodes : BinsEncodeTreeInLimits bins root w.block.minor tree = subst (λ (m : ℕ). BinsEncodeTreeInLimits bins root m tree) (sym minor) within in
    subst (λ (l : List ℕ). FilesMatchWriter next l left (held, next.base.applied.0) (tree, next.block.applied.0) primary log) (sym same)
    (subst (λ (x : HiveWriter). FilesMatchWriter x bins left (held, x.base.applied.0) (tree, x.block.applied.0) primary log) (sym is)
    (adopted w image bins pages left (held, w.base.applied.0) (old, w.block.applied.0) tree root size time number primary log one quiet encodes marks
    (λ stands given. ready_same planned next bins shown left left (tree, number) stands is lent refl (fits stands) given refl) on))
