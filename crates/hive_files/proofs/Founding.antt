-- What is found, from what was read.
use Rattle.std.proofs.Common.{◌≡◌, inl, inr, ⊎_elim, ℕ, ◌+◌, ◌*◌, ◌<◌, ◌≤◌, Bool, cond, true, false, List, length, take, drop, sym, ap, ◌∙◌, subst, refl, arith, length-take}
use Rattle.std.specs.Prelude.{◌&&◌}
use Rattle.std.specs.Bool.{MatchBool}
use Rattle.std.proofs.lemmas.Bool.{cases_eq, eq-eqb, ne_eqb, le-leb, lt-leb, MatchBool-at_true, MatchBool-at_false}
use Rattle.std.proofs.lemmas.List.{take-take}
use Rattle.refusals.specs.declared.limits.TheConstants.{MOST_BINS_BYTES}
use Rattle.refusals.specs.Answers.{RefusedFor}
use Rattle.refusals.specs.declared.refusal.Refusal.{Refusal}
use Rattle.base_block.specs.declared.block.BaseBlock.{BaseBlock}
use Rattle.base_block.specs.Judgements.{IsPrimary}
use Rattle.base_block.specs.Layout.{block_at, is_clean_block}
use Rattle.dirty_vector.specs.Pages.{Pages, dirty_count, clean_pages}
use Rattle.dirt_log.proofs.PageBytes.{few_dirty}
use Rattle.dirt_log.specs.FileContents.{is_clean_file, PrimaryDecodesTo, LogRepairsTo, PrimaryFileRefused}
use Rattle.dirt_log.specs.LogEncoding.{bitmap_end, pages_at}
use Rattle.dirt_log.specs.WholeLog.{LogIsWhole, IsCovered, block_of, pages_in, page_bytes_in, log_end, not_whole, repaired}
use Rattle.dirt_log.specs.declared.reader.DirtLog.{DirtLog}
use Rattle.hive_files.specs.declared.reader.TheConstants.{MOST_LOG_BYTES}
use Rattle.hive_files.specs.Contents.{FilesHaveNone, PrimaryHasNone, LogContains, FilesContain, DecodesLog, LogCoversPrimary, HasBinsData, ShortFileRefused, IsHiveRefusal}
use Rattle.hive_files.specs.Frames.{RefusalHasCause}
use Rattle.hive_files.specs.declared.contents.HiveContents.{HiveContents}
use Rattle.hive_files.proofs.Frames.{fails_on}

-- a refusal of a log, among the refusals of several calls
pub told_of_log : (F S R : Type 0) (why : Refusal) → (S → R) → RefusedFor not_whole S why → RefusalHasCause F (λ w. (w ≡ not_whole) × R) why
told_of_log F S R why s by = ⊎_elim (λ not. inr (inr (not.0, s not.1))) (λ none. inl none) by

-- no log of bins data within the limit is longer
pub front_long : (file : List ℕ) → (block_of file).bins_size ≤ MOST_BINS_BYTES → log_end file ≤ MOST_LOG_BYTES
front_long file small =
    let size = (block_of file).bins_size in
    let count = dirty_count (pages_in file) in
    let few = few_dirty (pages_in file) in
    ⊎_elim (λ none. omega (arith, ap (λ (b : Bool). cond b (bitmap_end size) (pages_at size + 512 * count)) (eq-eqb count 0 none), small))
    (λ some. omega (arith, ap (λ (b : Bool). cond b (bitmap_end size) (pages_at size + 512 * count)) (ne_eqb count 0 some), small, few))
    (cases_eq count 0)

-- so a log that is whole, or whose longest front is, has its end within that front
pub whole_front : (file : List ℕ) → block_of (take MOST_LOG_BYTES file) ≡ block_of file → LogIsWhole (take MOST_LOG_BYTES file) → log_end file ≤ MOST_LOG_BYTES
whole_front file block whole = front_long file (subst (λ (b : BaseBlock). b.bins_size ≤ MOST_BINS_BYTES) block whole.block.0.within)

-- what a log reads as that is read by its front
pub log_by_front : (file encoding : List ℕ) (log : DirtLog) → encoding ≡ take MOST_LOG_BYTES file → block_of encoding ≡ block_of file → pages_in encoding ≡ pages_in file → LogIsWhole file
    → page_bytes_in encoding ≡ page_bytes_in file → log.base ≡ block_of encoding → log.vector ≡ pages_in encoding → log.pages.now ≡ page_bytes_in encoding → DecodesLog file log
log_by_front file encoding log front block marked whole bytes base vector pages = record { whole = whole; base = base ∙ block; marked = vector ∙ marked; pages = pages ∙ bytes }

-- and the pages that a repair needs
pub repaired_by_log : (primary file bins : List ℕ) (log : DirtLog) (image : List ℕ) → DecodesLog file log → IsCovered (length (drop 4096 primary)) log.vector
    → image ≡ repaired (drop 4096 primary) log.vector log.pages.now → LogRepairsTo primary file (block_of file) image
repaired_by_log primary file bins log image of covered made = record {
  whole = of.whole;
  read = refl;
  covered = subst (λ (v : Pages). IsCovered (length (drop 4096 primary)) v) of.marked covered;
  image = made ∙ ap (λ (v : Pages). repaired (drop 4096 primary) v log.pages.now) of.marked ∙ ap (repaired (drop 4096 primary) (pages_in file)) of.pages;
}

-- ---- the whole

match_at_true : {b : Bool} (P Q : Type 0) → b ≡ true → P → MatchBool b P Q
match_at_true P Q e x = subst (λ (b : Bool). MatchBool b P Q) (sym e) x

match_at_false : {b : Bool} (P Q : Type 0) → b ≡ false → Q → MatchBool b P Q
match_at_false P Q e x = subst (λ (b : Bool). MatchBool b P Q) (sym e) x

-- what the first sector says of its file
pub sector_tells : (primary sector : List ℕ) (block : BaseBlock) → sector ≡ take 512 primary → block ≡ block_of sector → 512 ≤ length sector
    → (block ≡ block_of primary) × (512 ≤ length primary) × (is_clean_file primary ≡ is_clean_block block)
sector_tells primary sector block is read long =
    let here : 512 ≤ length primary = omega (arith, long, ap (λ (l : List ℕ). length l) is, length-take 512 primary) in
    let same : block ≡ block_of primary = read ∙ ap block_of is ∙ ap block_at (take-take 512 512 primary (omega arith)) in
    (same, here, ap (λ (t : Bool). t && is_clean_block (block_of primary)) (le-leb 512 (length primary) here) ∙ ap is_clean_block (sym same))

-- one without a first sector isn't clean
pub short_unclean : (primary : List ℕ) → length primary < 512 → is_clean_file primary ≡ false
short_unclean primary short = ap (λ (t : Bool). t && is_clean_block (block_of primary)) (lt-leb 512 (length primary) short)

pub short_has_none : (primary log : List ℕ) (why : Refusal) → length primary < 512 → ShortFileRefused primary log why → FilesHaveNone primary log why
short_has_none primary log why short told = record {
  none = λ has. omega (arith, short, has.sector (short_unclean primary short));
  tells = match_at_false _ _ (short_unclean primary short) (⊎_elim (λ unrepaired. inl unrepaired) (λ is. inr (is, short)) told);
}

pub clean_found : (primary log : List ℕ) (found : HiveContents) → is_clean_file primary ≡ true → found.is_clean ≡ true → found.block ≡ block_of primary → IsPrimary found.block
    → HasBinsData primary found.block.bins_size found.bins.items → found.pages ≡ clean_pages found.block.bins_size → FilesContain primary log found
clean_found primary log found clean says block judged part pages = record {
  clean = says ∙ sym clean;
  parts = match_at_true _ _ says (record { own = record { read = block; long = part.long; part = part.part }; judged = judged; pages = pages });
}

pub unclean_found : (primary log : List ℕ) (found : HiveContents) → is_clean_file primary ≡ false → found.is_clean ≡ false → 512 ≤ length primary → LogContains primary log found
    → FilesContain primary log found
unclean_found primary log found clean says long by = record { clean = says ∙ sym clean; parts = match_at_false _ _ says (record { sector = long; by_log = by }) }

pub clean_has_none : (primary log : List ℕ) (block : BaseBlock) (why : Refusal) → is_clean_file primary ≡ true → block ≡ block_of primary → PrimaryHasNone block primary why → FilesHaveNone primary log why
clean_has_none primary log block why clean is own_none = record {
  none = λ has.
      let own : PrimaryDecodesTo primary has.block has.bins = MatchBool-at_true _ _ clean has.in_use in
      let same : has.block ≡ block = own.read ∙ sym is in
      own_none.none (subst (λ (b : BaseBlock). IsPrimary b) same (has.own clean)) (subst (λ (b : BaseBlock). 4096 + b.bins_size ≤ length primary) same own.long);
  tells = match_at_true _ _ clean (subst (λ (b : BaseBlock). PrimaryFileRefused b (length primary) why) is own_none.tells);
}

pub unclean_has_none : (primary log : List ℕ) (why : Refusal) → is_clean_file primary ≡ false → why ≡ not_whole → (LogCoversPrimary primary log → ⊥) → FilesHaveNone primary log why
unclean_has_none primary log why unclean told none = record {
  none = λ has. let by : LogRepairsTo primary log has.block has.bins = MatchBool-at_false _ _ unclean has.in_use in none (record { whole = by.whole; covered = by.covered });
  tells = match_at_false _ _ unclean (inl (told, none));
}

-- ---- what is reported of a hive

pub told_on : (F G S R : Type 0) (why : Refusal) → (F → G) → (S → R) → RefusalHasCause F (λ w. IsHiveRefusal w × S) why → RefusalHasCause G (λ w. IsHiveRefusal w × R) why
told_on F G S R why f s by = fails_on F G (λ w. IsHiveRefusal w × S) (λ w. IsHiveRefusal w × R) why f (λ told. (told.0, s told.1)) by

pub log_told_on : (F G S R : Type 0) (why : Refusal) → (F → G) → (why ≡ not_whole → S → R) → RefusalHasCause F (λ w. (w ≡ not_whole) × S) why → RefusalHasCause G (λ w. IsHiveRefusal w × R) why
log_told_on F G S R why f s by = fails_on F G (λ w. (w ≡ not_whole) × S) (λ w. IsHiveRefusal w × R) why f (λ told. (subst (λ (w : Refusal). IsHiveRefusal w) (sym told.0) refl, s told.0 told.1)) by
