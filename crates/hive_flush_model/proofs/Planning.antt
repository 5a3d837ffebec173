-- Plans can be made.
use Rattle.std.proofs.Common.{◌≡◌, ◌≢◌, ℕ, ◌+◌, ◌*◌, ◌/◌, ◌%◌, ◌^◌, ◌<◌, Bool, true, false, cond, List, length, drop, get_or, refl, sym, ap, ◌∙◌, subst, arith, Some}
use Rattle.std.proofs.lemmas.Bool.{ne_eqb, eqb-true, and_parts}
use Rattle.std.proofs.lemmas.List.FromFn.{get_or-map-range_with_len, length-map-range_with_len}
use Rattle.base_block.specs.declared.block.BaseBlock.{BaseBlock}
use Rattle.base_block.specs.Judgements.{IsLogVersion, IsPrimaryVersion}
use Rattle.base_block.specs.Layout.{block_at, is_clean_block}
use Rattle.base_block.specs.Numbers.{number_after}
use Rattle.dirty_vector.specs.Marks.{marked_count}
use Rattle.dirty_vector.specs.Pages.{Pages, is_dirty}
use Rattle.dirt_log.specs.LogEncoding.{pages_from}
use Rattle.dirt_log.specs.WholeLog.{LogIsWhole, IsCovered, IsLoggable, LogDecodesTo, block_as_read, block_of, pages_in, page_bytes_in, repaired, repaired_byte}
use Rattle.dirt_log.proofs.Replaced.{repairs, repaired_same}
use Rattle.hive_flush_model.specs.StoredTrees.{TreeDecoder, tree_under}
use Rattle.hive_flush_model.specs.Plans.{FlushPlan, PlanFitsImage, IsBehind}

-- a version that is written may be read
as_primary_version : (b : BaseBlock) → IsLogVersion b → IsPrimaryVersion b
as_primary_version b h = (h.0, omega (arith, h), omega (arith, h), h.2)

-- also if it wraps
next_differs : (n : ℕ) → n < 2 ^ 32 → number_after n ≢ n
next_differs n fits e = omega (arith, fits, e)

raised_unclean : (old : BaseBlock) (sector : List ℕ) → old.secondary.0 < 2 ^ 32 → block_at sector ≡ record old { primary = record { 0 = number_after old.secondary.0 }; sum_is_right = true }
    → is_clean_block (block_at sector) ≡ false
raised_unclean old sector fits e = ap is_clean_block e ∙ ne_eqb (number_after old.secondary.0) old.secondary.0 (next_differs old.secondary.0 fits)

pub ready : {T : Type 0} (decode : TreeDecoder T) (memory : T × ℕ) (image : List ℕ) (v : Pages) (old : BaseBlock) (plan : FlushPlan)
    → length image ≡ v.bins_size → IsLoggable plan.block v → plan.block.file_type.0 ≡ 0 → tree_under decode plan.block image ≡ Some memory.0 → plan.block.applied.0 ≡ memory.1
    → old.secondary.0 < 2 ^ 32 → length plan.raised ≡ 512 → block_at plan.raised ≡ record old { primary = record { 0 = number_after old.secondary.0 }; sum_is_right = true }
    → length plan.final ≡ 512 → block_at plan.final ≡ record plan.block { sum_is_right = true } → LogDecodesTo plan.encoding (block_as_read plan.block) v (pages_from image v 0)
    → PlanFitsImage decode memory image v plan
ready decode memory image v old plan size loggable kind tree number fits raised_long raised final_long final encoding =
    let whole : v.bins_size % 4096 ≡ 0 = subst (λ (n : ℕ). n % 4096 ≡ 0) loggable.size loggable.usable.bins_size.0 in
    record {
      size = size;
      own = (loggable.usable, as_primary_version plan.block loggable.version, kind);
      equal = loggable.equal;
      bins = loggable.size;
      tree = tree;
      number = number;
      raised_long = raised_long;
      raised_unclean = raised_unclean old plan.raised fits raised;
      final_long = final_long;
      final_reads = final;
      log_whole = encoding.whole;
      log_root = ap (λ (b : BaseBlock). b.root) encoding.base;
      log_minor = ap (λ (b : BaseBlock). b.minor) encoding.base;
      log_store = ap (λ (b : BaseBlock). b.store) encoding.base;
      log_number = ap (λ (b : BaseBlock). b.applied.0) encoding.base;
      log_pages = encoding.marked;
      log_repairs = λ bins same. ap (repaired bins v) encoding.bytes ∙ repairs image bins v size (omega (arith, whole)) same;
    }

-- ---- a repair

pub repaired_long : (bins : List ℕ) (v : Pages) (bytes : List ℕ) → length (repaired bins v bytes) ≡ v.bins_size
unfolding repaired
repaired_long bins v bytes = length-map-range_with_len (repaired_byte bins v bytes) 0 v.bins_size

repaired_clean : (bins : List ℕ) (v : Pages) (bytes : List ℕ) (i : ℕ) → i < v.bins_size → is_dirty v (i / 512) ≡ false → get_or (repaired bins v bytes) i 0 ≡ get_or bins i 0
unfolding repaired
repaired_clean bins v bytes i lt off =
    get_or-map-range_with_len (repaired_byte bins v bytes) 0 v.bins_size i i 0 lt (omega arith)
    ∙ ap (λ (b : Bool). cond b (get_or bytes (512 * marked_count (is_dirty v) (i / 512) + i % 512) 0) (get_or bins i 0)) off

pub ready_again : {T : Type 0} (decode : TreeDecoder T) (memory : T × ℕ) (old : BaseBlock) (primary log raised final : List ℕ)
    → LogIsWhole log → IsCovered (length (drop 4096 primary)) (pages_in log)
    → tree_under decode (block_of log) (repaired (drop 4096 primary) (pages_in log) (page_bytes_in log)) ≡ Some memory.0 → (block_of log).applied.0 ≡ memory.1
    → old.secondary.0 < 2 ^ 32 → length raised ≡ 512 → block_at raised ≡ record old { primary = record { 0 = number_after old.secondary.0 }; sum_is_right = true }
    → length final ≡ 512 → block_at final ≡ record (block_of log) { file_type = record { 0 = 0 }; sum_is_right = true }
    → PlanFitsImage decode memory (repaired (drop 4096 primary) (pages_in log) (page_bytes_in log)) (pages_in log)
    (record { block = record (block_of log) { file_type = record { 0 = 0 } }; raised = raised; final = final; encoding = log })
    × IsBehind (repaired (drop 4096 primary) (pages_in log) (page_bytes_in log)) (pages_in log) primary
ready_again decode memory old primary log raised final whole covered tree number fits raised_long raised_is final_long final_is =
    let v = pages_in log in
    let bins = drop 4096 primary in
    let bytes = page_bytes_in log in
    let image = repaired bins v bytes in
    let b = block_of log in (
      record {
        size = repaired_long bins v bytes;
        own = (record { signature = whole.block.0.signature; bins_size = whole.block.0.bins_size; within = whole.block.0.within }, as_primary_version b whole.block.2, refl);
        equal = eqb-true b.primary.0 b.secondary.0 (and_parts _ _ whole.block.1).1;
        bins = refl;
        tree = tree;
        number = number;
        raised_long = raised_long;
        raised_unclean = raised_unclean old raised fits raised_is;
        final_long = final_long;
        final_reads = final_is;
        log_whole = whole;
        log_root = refl;
        log_minor = refl;
        log_store = refl;
        log_number = refl;
        log_pages = refl;
        log_repairs = λ other same. repaired_same other bins v bytes (λ i lt off. same i lt off ∙ repaired_clean bins v bytes i lt off);
      },
      record { same = λ i lt off. sym (repaired_clean bins v bytes i lt off); covered = covered },
    )
