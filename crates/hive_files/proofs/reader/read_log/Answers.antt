use Rattle.std.proofs.Common.{◌≡◌, ◌≤◌, ℕ, take, inl, inr, sym, ap, subst, ◌∙◌, arith, ⊎_elim}
use Rattle.base_block.specs.declared.block.BaseBlock.{BaseBlock}
use Rattle.dirt_log.specs.WholeLog.{LogIsWhole, block_of, pages_in, page_bytes_in}
use Rattle.dirt_log.specs.LogEncoding.{bitmap_end}
use Rattle.hive_files.specs.declared.reader.TheConstants.{MOST_LOG_BYTES}
use Rattle.hive_files.proofs.Founding.{front_long, whole_front}
use Rattle.hive_files.proofs.reader.read_log.Goals as goal

pub returns-in-Ok-clause-log : goal.returns-in-Ok-clause-log
returns-in-Ok-clause-log c = λ file front.
    let n : ℕ = MOST_LOG_BYTES in
    let block : block_of (take n file) ≡ block_of file = c.log_prefix_decides.ensures.block file n (omega arith) in
    let whole : LogIsWhole (take n file) = subst LogIsWhole front c.in-Ok.ensures.whole in
    let end = whole_front file block whole in
    let small : bitmap_end (block_of file).bins_size ≤ n = omega (arith, ap (λ (b : BaseBlock). b.bins_size) block, whole.block.0.within) in
    record {
      whole = (c.log_prefix_decides.ensures.whole file n end).0 whole;
      base = c.in-Ok.ensures.base ∙ ap block_of front ∙ block;
      marked = c.in-Ok.ensures.marked ∙ ap pages_in front ∙ c.log_prefix_decides.ensures.marked file n small;
      pages = c.in-Ok.ensures.pages ∙ ap page_bytes_in front ∙ c.log_prefix_decides.ensures.pages file n end;
    }

pub returns-in-Err-clause-refused : goal.returns-in-Err-clause-refused
returns-in-Err-clause-refused c = ⊎_elim
    (λ not. inl (not.0, λ file front whole. not.1 (subst LogIsWhole (sym front) ((c.log_prefix_decides.ensures.whole file MOST_LOG_BYTES (front_long file whole.block.0.within)).1 whole))))
    (λ none. inr none) c.in-Err.ensures.refused
