-- Calls as the code makes them, as the calls of a phase.
use Rattle.std.proofs.Common.{◌≡◌, ℕ, zero, suc, Bool, ◌+◌, ◌-◌, ◌*◌, ◌/◌, ◌%◌, ◌<◌, ◌≤◌, true, false, refl, List, length, take, drop, arith, length-take, length-drop, sym, ap, ◌∙◌, subst}
use Rattle.std.specs.Prelude.{min, if◌then◌else◌}
use Rattle.std.proofs.lemmas.Grind.{same_number_lists}
use Rattle.std.proofs.lemmas.List.{get_or-take}
use Rattle.disk_model.specs.FileState.{FileState, IsSound, Writes, MayWrite, Syncs}
use Rattle.base_block.specs.declared.block.BaseBlock.{BaseBlock}
use Rattle.base_block.specs.declared.fields.SequenceNumber.{SequenceNumber}
use Rattle.base_block.specs.Layout.{sector_of}
use Rattle.base_block.specs.Numbers.{number_after}
use Rattle.dirty_vector.specs.Marks.{marked_count}
use Rattle.dirty_vector.specs.Pages.{Pages, is_dirty, dirty_count, NoneFrom, IsFirstRun}
use Rattle.dirt_log.proofs.Replaced.{count_rises, dirty_counts}
use Rattle.hive_flush_model.specs.StoredTrees.{TreeDecoder}
use Rattle.hive_flush_model.specs.Plans.{AreClean, AreDirty}
use Rattle.hive_flush_model.specs.Phases.{Purpose, Purpose.Flush, FlushPhase, FlushState}
use Rattle.hive_flush_model.specs.States.{IsWritingLog, IsLogSynced, IsWritingPages, ArePagesSynced, files_match_phase}
use Rattle.hive_flush_model.proofs.Moving.{log_written, log_failed, log_synced, log_synced_alone, page_written, page_failed, pages_synced}
use Rattle.hive_flush_model.specs.Plans.{marked_block}
use Rattle.hive_flush_model.proofs.Leaving.{whole_pages}
use Rattle.hive_writer.specs.WriterSteps.{calls_behind_log, dirty_from}

-- the other file is as it was
pub log_same : {T : Type 0} (decode : TreeDecoder T) (w : FlushState T) (phase : FlushPhase) (p old new : FileState) → new ≡ old → files_match_phase decode w phase p old → files_match_phase decode w phase p new
log_same decode w phase p old new e on = subst (files_match_phase decode w phase p) (sym e) on

pub primary_same : {T : Type 0} (decode : TreeDecoder T) (w : FlushState T) (phase : FlushPhase) (old new l : FileState) → new ≡ old → files_match_phase decode w phase old l → files_match_phase decode w phase new l
primary_same decode w phase old new l e on = subst (λ (s : FileState). files_match_phase decode w phase s l) (sym e) on

numbered : BaseBlock → ℕ → BaseBlock
numbered b n = record b { primary = record { 0 = n } }

-- the sector that is written is the plan's
pub raised_is : (b : BaseBlock) (next : SequenceNumber) (sector : List ℕ) → next.0 ≡ number_after b.secondary.0 → sector ≡ sector_of (record b { primary = next }) → sector ≡ sector_of (marked_block b)
unfolding numbered
raised_is b next sector n e = e ∙ ap (λ (n : ℕ). sector_of (numbered b n)) n

-- no dirty page from one on: no byte after its beginning is in one
pub clean_from : (v : Pages) (from end : ℕ) → NoneFrom v from → AreClean v (512 * from) end
clean_from v from end none = λ i low high. none (i / 512) (omega (arith, low))

clean_run : (v : Pages) (from start end : ℕ) → IsFirstRun v from start end → AreClean v (512 * from) (512 * start)
clean_run v from start end run = λ i low high. run.before (i / 512) (omega (arith, low)) (omega (arith, high))

dirty_run : (v : Pages) (from start end last : ℕ) → IsFirstRun v from start end → last ≤ end → AreDirty v (512 * start) (512 * last)
dirty_run v from start end last run le = λ i low high. run.dirty (i / 512) (omega (arith, low)) (omega (arith, high, le))

-- each page of a run that is written is one less
pub run_falls : (v : Pages) (from start end last : ℕ) → IsFirstRun v from start end → start < last → last ≤ end → dirty_from v last < dirty_from v from
run_falls v from start end zero run some le = absurd (omega (arith, some))
run_falls v from start end (suc page) run some le =
    let dirty = run.dirty page (omega (arith, some)) (omega (arith, le)) in
    let counted : marked_count (is_dirty v) (suc page) ≡ marked_count (is_dirty v) page + 1 = ap (λ (b : Bool). marked_count (is_dirty v) page + (if b then 1 else 0)) dirty in
    let there = dirty_counts v page dirty (omega (arith, le, run.within)) in
    omega (arith, counted, there, count_rises (is_dirty v) from page (omega (arith, run.after, some)))

-- no page is counted: none is dirty up to the size
none_counted : (v : Pages) → v.bins_size % 512 ≡ 0 → dirty_count v ≡ 0 → AreClean v 0 v.bins_size
none_counted v whole none = λ i low high. by_page i high (is_dirty v (i / 512)) refl
  where
    by_page : (i : ℕ) → i < v.bins_size → (b : Bool) → is_dirty v (i / 512) ≡ b → is_dirty v (i / 512) ≡ false
    by_page i high false e = e
    by_page i high true e = absurd (omega (arith, none, dirty_counts v (i / 512) e (omega (arith, high, whole))))

pub few_behind : (n : ℕ) → calls_behind_log n ≤ n + 5
few_behind zero = omega arith
few_behind (suc n) = omega arith

-- ---- the log

-- a chunk of an encoding, as it is handed on
chunk_is : (encoding bytes : List ℕ) (n : ℕ) → bytes ≡ take 65536 (drop n encoding) → bytes ≡ take (length bytes) (drop n encoding)
chunk_is encoding bytes n is =
    let size : length bytes ≡ length (take 65536 (drop n encoding)) = ap (λ (xs : List ℕ). length xs) is in
    is ∙ same_number_lists _ _ (omega (arith, length-take 65536 (drop n encoding), length-take (length bytes) (drop n encoding), size))
    (λ k lt. get_or-take 65536 (drop n encoding) k 0 (omega (arith, lt, length-take 65536 (drop n encoding)))
    ∙ sym (get_or-take (length bytes) (drop n encoding) k 0 (omega (arith, lt, size))))

-- where a chunk is, that it lies in the encoding, and where the next begins
pub record IsChunkAt (encoding bytes : List ℕ) (index : ℕ) : Type 0 where
  pub here : min (65536 * index) (length encoding) ≡ 65536 * index
  pub within : 65536 * index + length bytes ≤ length encoding
  pub there : 65536 * index + length bytes ≡ min (65536 * (index + 1)) (length encoding)

pub chunk_at : (encoding bytes : List ℕ) (index : ℕ) → bytes ≡ take 65536 (drop (65536 * index) encoding) → 0 < length bytes → IsChunkAt encoding bytes index
chunk_at encoding bytes index is some =
    let size : length bytes ≡ length (take 65536 (drop (65536 * index) encoding)) = ap (λ (xs : List ℕ). length xs) is in
    let taken = length-take 65536 (drop (65536 * index) encoding) in
    let left = length-drop (65536 * index) encoding in
    record { here = omega (arith, size, some, taken, left); within = omega (arith, size, some, taken, left); there = omega (arith, size, some, taken, left) }

module _ {T : Type 0} (decode : TreeDecoder T) (w : FlushState T) where
  pub chunk_written : (index : ℕ) (bytes : List ℕ) (p l new : FileState) → bytes ≡ take 65536 (drop (65536 * index) w.plan.encoding) → 0 < length bytes
      → IsWritingLog decode w (min (65536 * index) (length w.plan.encoding)) p l → Writes (65536 * index) bytes l new
      → IsWritingLog decode w (min (65536 * (index + 1)) (length w.plan.encoding)) p new
  chunk_written index bytes p l new is some on done =
      let at = chunk_at w.plan.encoding bytes index is some in
      subst (λ (n : ℕ). IsWritingLog decode w n p new) at.there
      (log_written decode w (65536 * index) bytes p l new (subst (λ (n : ℕ). IsWritingLog decode w n p l) at.here on) at.within (chunk_is w.plan.encoding bytes (65536 * index) is) done)

  pub chunk_failed : (index : ℕ) (bytes : List ℕ) (p l new : FileState) → bytes ≡ take 65536 (drop (65536 * index) w.plan.encoding) → 0 < length bytes
      → IsWritingLog decode w (min (65536 * index) (length w.plan.encoding)) p l → MayWrite (65536 * index) bytes l new
      → IsWritingLog decode w (min (65536 * index) (length w.plan.encoding)) p new
  chunk_failed index bytes p l new is some on part =
      let at = chunk_at w.plan.encoding bytes index is some in
      log_failed decode w (min (65536 * index) (length w.plan.encoding)) bytes p l new on (subst (λ (n : ℕ). MayWrite n bytes l new) (sym at.here) part)

  pub all_synced : (index : ℕ) (p l new : FileState) → length w.plan.encoding ≤ 65536 * index → IsWritingLog decode w (min (65536 * index) (length w.plan.encoding)) p l → Syncs l new → IsLogSynced decode w p new
  all_synced index p l new le on done =
      let all : min (65536 * index) (length w.plan.encoding) ≡ length w.plan.encoding = omega (arith, le) in
      log_synced decode w p l new (subst (λ (n : ℕ). IsWritingLog decode w n p l) all on) done

  pub alone_synced : (index : ℕ) (p l new : FileState) → length w.image ≡ w.pages.bins_size → dirty_count w.pages ≡ 0 → length w.plan.encoding ≤ 65536 * index
      → IsWritingLog decode w (min (65536 * index) (length w.plan.encoding)) p l → Syncs l new → ArePagesSynced decode w Flush p new
  alone_synced index p l new size none le on done =
      let all : min (65536 * index) (length w.plan.encoding) ≡ length w.plan.encoding = omega (arith, le) in
      let whole = whole_pages decode w.memory w.image w.pages w.plan on.ready in
      log_synced_alone decode w p l new (subst (λ (n : ℕ). IsWritingLog decode w n p l) all on) (λ i low high. none_counted w.pages whole none i low (omega (arith, high, size))) done

  -- ---- the pages

  pub run_written : (from start end last : ℕ) (p l new : FileState) (bytes : List ℕ) → IsSound p → length w.image ≡ w.pages.bins_size → IsFirstRun w.pages from start end → start ≤ last → last ≤ end
      → bytes ≡ take (512 * last - 512 * start) (drop (512 * start) w.image)
      → IsWritingPages decode w (512 * from) p l → Writes (4096 + 512 * start) bytes p new → IsWritingPages decode w (512 * last) new l
  run_written from start end last p l new bytes sound size run some le is on done =
      let count = 512 * last - 512 * start in
      let back : 512 * start + count ≡ 512 * last = omega (arith, some) in
      let dirty : AreDirty w.pages (512 * start) (512 * start + count) = subst (AreDirty w.pages (512 * start)) (sym back) (dirty_run w.pages from start end last run le) in
      subst (λ (n : ℕ). IsWritingPages decode w n new l) back
      (page_written decode w (512 * from) (512 * start) count p l new sound on (omega (arith, run.after)) (omega (arith, back, le, run.within, size))
      (clean_run w.pages from start end run) dirty (subst (λ (s : List ℕ). Writes (4096 + 512 * start) s p new) is done))

  pub run_failed : (from start end last : ℕ) (p l new : FileState) (bytes : List ℕ) → IsFirstRun w.pages from start end → start ≤ last → last ≤ end
      → bytes ≡ take (512 * last - 512 * start) (drop (512 * start) w.image)
      → IsWritingPages decode w (512 * from) p l → MayWrite (4096 + 512 * start) bytes p new → IsWritingPages decode w (512 * from) new l
  run_failed from start end last p l new bytes run some le is on part =
      let count = 512 * last - 512 * start in
      let back : 512 * start + count ≡ 512 * last = omega (arith, some) in
      let dirty : AreDirty w.pages (512 * start) (512 * start + count) = subst (AreDirty w.pages (512 * start)) (sym back) (dirty_run w.pages from start end last run le) in
      page_failed decode w (512 * from) (512 * start) count p l new on (omega (arith, run.after)) dirty (subst (λ (s : List ℕ). MayWrite (4096 + 512 * start) s p new) is part)

  pub none_left : (from : ℕ) (purpose : Purpose) (p l new : FileState) → IsSound p → NoneFrom w.pages from → IsWritingPages decode w (512 * from) p l → Syncs p new → ArePagesSynced decode w purpose new l
  none_left from purpose p l new sound none on done = pages_synced decode w (512 * from) purpose p l new sound on (clean_from w.pages from (length w.image) none) done
