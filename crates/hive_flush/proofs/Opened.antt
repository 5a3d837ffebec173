-- What was found in a hive's files, as a hive in memory.
use Rattle.std.proofs.Common.{◌≡◌, inl, inr, ℕ, ◌+◌, ◌≤◌, List, Bool, true, false, length, take, drop, get_or, refl, sym, ap, subst, ◌∙◌, Some, arith}
use Rattle.std.proofs.lemmas.Bool.{cases_Bool, MatchBool-at_true, MatchBool-at_false}
use Rattle.std.proofs.lemmas.List.{get_or-take, length-drop, length-take}
use Rattle.std.specs.Bool.{MatchBool}
use Rattle.hive_load.specs.Limits.{BinsEncodeTreeInLimits}
use Rattle.reg_tree.specs.Maps.{TreeMap}
use Rattle.base_block.specs.declared.block.BaseBlock.{BaseBlock}
use Rattle.base_block.specs.declared.block.TheConstants.{MINOR_VERSION}
use Rattle.base_block.specs.Judgements.{IsPrimary}
use Rattle.dirty_vector.specs.Pages.{Pages, clean_pages, dirty_count}
use Rattle.disk_model.specs.FileState.{FileState, at_rest}
use Rattle.dirt_log.specs.WholeLog.{IsCovered, LogIsWhole, block_of, page_bytes_in, pages_in, repaired}
use Rattle.dirt_log.specs.FileContents.{FilesDecodeTo, is_clean_file}
use Rattle.hive_files.specs.Contents.{FilesHaveHive, FilesContain, CleanFileContains, UncleanFilesContain, as_primary}
use Rattle.hive_files.specs.declared.contents.HiveContents.{HiveContents}
use Rattle.hive_flush_model.proofs.StoredTrees.{same_parts}
use Rattle.hive_flush_model.proofs.Moving.{absorbed, repair_begins}
use Rattle.std.proofs.Math.Seq.{take-length}
use Rattle.hive_flush_model.specs.StoredTrees.{TreeDecoder, tree_under}
use Rattle.hive_flush_model.specs.Plans.{FlushPlan, IsBehind, PlanFitsImage}
use Rattle.hive_flush_model.specs.States.{IsAtRest}
use Rattle.hive_writer.specs.declared.writer.HiveWriter.{HiveWriter}
use Rattle.std.specs.Prelude.{◌%◌, if◌then◌else◌}
use Rattle.crash_model.specs.Promises.{settled}
use Rattle.hive_writer.specs.WriterSteps.{IsFlushing, calls_left, choice_at, dirty_from, plan_of, work_of}
use Rattle.hive_emit.specs.Forms.{IsFormed}
use Rattle.hive_flush.specs.HiveStates.{FilesMatchWriter, IsOpenedAs, marked_pages, most_repairs, repairs_at}
use Rattle.hive_files.specs.Blocks.{IsPlanned}
use Rattle.hive_flush.specs.NextBlocks.{block_after, clean_writer, unclean_writer, repair_plan}
use Rattle.hive_flush.specs.Decoders.{HiveFilesHold, DecoderIsSound, empty_decoder, decoder_with}
use Rattle.hive_flush.specs.Renewals.{IsInWrittenVersion}
use Rattle.hive_flush.proofs.TreeDecoder.{gives, gives_right, gives_still}

pub match_at_true : {b : Bool} (P Q : Type 0) → b ≡ true → P → MatchBool b P Q
match_at_true P Q e x = subst (λ (b : Bool). MatchBool b P Q) (sym e) x

match_at_false : {b : Bool} (P Q : Type 0) → b ≡ false → Q → MatchBool b P Q
match_at_false P Q e x = subst (λ (b : Bool). MatchBool b P Q) (sym e) x

-- ---- what is in use is what was found

-- the block in use, but perhaps for its type and its sum, is the one that was found
pub record InUse (primary log : List ℕ) (found : HiveContents) : Type 0 where
  pub block : BaseBlock
  pub in_use : FilesDecodeTo primary log block found.bins.items
  pub root : block.root ≡ found.block.root
  pub minor : block.minor ≡ found.block.minor
  pub store : block.store ≡ found.block.store
  pub applied : block.applied.0 ≡ found.block.applied.0
  pub own : is_clean_file primary ≡ true → IsPrimary block
  pub sector : is_clean_file primary ≡ false → 512 ≤ length primary

pub true_false : (b : Bool) → b ≡ true → b ≡ false → ⊥
true_false b t f = absurd cc

pub in_use : (primary log : List ℕ) (found : HiveContents) → FilesContain primary log found → InUse primary log found
in_use primary log found f = elim (cases_Bool found.is_clean) [
  | inl clean ↦
      let x : CleanFileContains primary found = MatchBool-at_true _ _ clean f.parts in
      let file : is_clean_file primary ≡ true = sym f.clean ∙ clean in
      record { block = found.block; in_use = match_at_true _ _ file x.own; root = refl; minor = refl; store = refl; applied = refl; own = λ any. x.judged; sector = λ other. absurd (true_false (is_clean_file primary) file other) }
  | inr unclean ↦
      let x : UncleanFilesContain primary log found = MatchBool-at_false _ _ unclean f.parts in
      let file : is_clean_file primary ≡ false = sym f.clean ∙ unclean in
      let is : found.block ≡ as_primary (block_of log) = x.by_log.block in
      record {
        block = block_of log;
        in_use = match_at_false _ _ file x.by_log.repaired;
        root = sym (ap (λ (b : BaseBlock). b.root) is);
        minor = sym (ap (λ (b : BaseBlock). b.minor) is);
        store = sym (ap (λ (b : BaseBlock). b.store) is);
        applied = sym (ap (λ (b : BaseBlock). b.applied.0) is);
        own = λ other. absurd (true_false (is_clean_file primary) other file);
        sector = λ any. x.sector;
      }
]

-- what files hold is of the store that was found, and is in what was found
pub found_agrees : (primary log : List ℕ) (found : HiveContents) (store : List ℕ) (held : TreeMap × ℕ) → FilesContain primary log found → HiveFilesHold store primary log held
    → (found.block.store ≡ store) × BinsEncodeTreeInLimits found.bins.items found.block.root found.block.minor held.0
found_agrees primary log found store held f h =
    let u = in_use primary log found f in
    let same = same_parts primary log h.block u.block h.bins found.bins.items h.in_use u.in_use in
    let root : h.block.root ≡ found.block.root = ap (λ (b : BaseBlock). b.root) same.0 ∙ u.root in
    let minor : h.block.minor ≡ found.block.minor = ap (λ (b : BaseBlock). b.minor) same.0 ∙ u.minor in (
      sym u.store ∙ sym (ap (λ (b : BaseBlock). b.store) same.0) ∙ h.store_is,
      subst (λ (n : ℕ). BinsEncodeTreeInLimits found.bins.items found.block.root n held.0) minor
          (subst (λ (n : ℕ). BinsEncodeTreeInLimits found.bins.items n h.block.minor held.0) root
          (subst (λ (l : List ℕ). BinsEncodeTreeInLimits l h.block.root h.block.minor held.0) same.1 h.tree)),
    )

-- and what is in it the files hold
pub found_holds : (primary log : List ℕ) (found : HiveContents) (store : List ℕ) (tree : TreeMap) (n : ℕ) → FilesContain primary log found → found.block.store ≡ store
    → BinsEncodeTreeInLimits found.bins.items found.block.root found.block.minor tree → found.block.applied.0 ≡ n → HiveFilesHold store primary log (tree, n)
found_holds primary log found store tree n f is within number =
    let u = in_use primary log found f in
    record {
      block = u.block;
      bins = found.bins.items;
      in_use = u.in_use;
      own = u.own;
      sector = u.sector;
      store_is = u.store ∙ is;
      tree = subst (λ (m : ℕ). BinsEncodeTreeInLimits found.bins.items u.block.root m tree) (sym u.minor) (subst (λ (r : ℕ). BinsEncodeTreeInLimits found.bins.items r found.block.minor tree) (sym u.root) within);
      number = u.applied ∙ number;
    }

-- ---- the files are as the stage says

rule : List ℕ → BaseBlock → TreeMap → TreeDecoder TreeMap
rule bins block tree = decoder_with empty_decoder bins block.root block.minor block.store tree

rule_right : (bins : List ℕ) (block : BaseBlock) (tree : TreeMap) → BinsEncodeTreeInLimits bins block.root block.minor tree → DecoderIsSound block.store (rule bins block tree)
unfolding rule
rule_right bins block tree within = gives_right empty_decoder bins block.root block.minor block.store tree block.store (λ b r m s t e. absurd cc) refl within

rule_gives : (bins : List ℕ) (block : BaseBlock) (tree : TreeMap) → tree_under (rule bins block tree) block bins ≡ Some tree
unfolding rule
rule_gives bins block tree = gives empty_decoder bins block.root block.minor block.store tree

-- a clean primary file is behind its own bins data
behind_own : (primary : List ℕ) (bins : List ℕ) (size : ℕ) → 4096 + size ≤ length primary → bins ≡ take size (drop 4096 primary) → IsBehind bins (clean_pages size) primary
behind_own primary bins size long part = record {
  same = λ i lt clean. sym (ap (λ (l : List ℕ). get_or l i 0) part ∙ get_or-take size (drop 4096 primary) i 0 lt);
  covered = λ page lt clean. omega (arith, lt, long, length-drop 4096 primary);
}

-- a clean primary file, before another image is in memory
own_rest : (primary : List ℕ) (found : HiveContents) (tree : TreeMap) (plan : FlushPlan) → is_clean_file primary ≡ true → CleanFileContains primary found
    → IsAtRest (rule found.bins.items found.block tree) (work_of plan found.bins.items found.pages (tree, found.block.applied.0) (tree, found.block.applied.0)) (at_rest primary)
own_rest primary found tree plan clean x =
    let stands = rule found.bins.items found.block tree in
    record {
      rest = refl;
      clean = record {
        clean = clean;
        own = subst (λ (b : BaseBlock). IsPrimary b) x.own.read x.judged;
        long = subst (λ (b : BaseBlock). 4096 + b.bins_size ≤ length primary) x.own.read x.own.long;
        tree = subst (λ (b : BaseBlock). tree_under stands b (take b.bins_size (drop 4096 primary)) ≡ Some tree) x.own.read
            (subst (λ (l : List ℕ). tree_under stands found.block l ≡ Some tree) x.own.part (rule_gives found.bins.items found.block tree));
        number = ap (λ (b : BaseBlock). b.applied.0) (sym x.own.read);
      };
      behind = subst (λ (v : Pages). IsBehind found.bins.items v primary) (sym x.pages) (behind_own primary found.bins.items found.block.bins_size x.own.long x.own.part);
    }

-- the rule that gives a tree for bins data under a block, and for an image in the version that is written
both : List ℕ → BaseBlock → TreeMap → List ℕ → ℕ → TreeDecoder TreeMap
both bins block tree bytes root = decoder_with (rule bins block tree) bytes root MINOR_VERSION block.store tree

both_right : (bins : List ℕ) (block : BaseBlock) (tree : TreeMap) (bytes : List ℕ) (root : ℕ) → BinsEncodeTreeInLimits bins block.root block.minor tree
    → BinsEncodeTreeInLimits bytes root MINOR_VERSION tree → DecoderIsSound block.store (both bins block tree bytes root)
unfolding both
both_right bins block tree bytes root within written = gives_right (rule bins block tree) bytes root MINOR_VERSION block.store tree block.store (rule_right bins block tree within) refl written

-- what it gave before it gives still
both_still : (bins : List ℕ) (block : BaseBlock) (tree : TreeMap) (bytes : List ℕ) (root : ℕ) (own : BaseBlock) (part : List ℕ)
    → tree_under (rule bins block tree) own part ≡ Some tree → tree_under (both bins block tree bytes root) own part ≡ Some tree
unfolding both
both_still bins block tree bytes root own part e = gives_still (rule bins block tree) bytes root MINOR_VERSION block.store tree part own.root own.minor own.store tree (λ b r m. refl) e

both_gives : (bins : List ℕ) (block : BaseBlock) (tree : TreeMap) (bytes : List ℕ) (root size : ℕ)
    → tree_under (both bins block tree bytes root) (clean_writer 0 block root size).block bytes ≡ Some tree
unfolding both
both_gives bins block tree bytes root size = gives (rule bins block tree) bytes root MINOR_VERSION block.store tree

pub clean_on : (hive : ℕ) (primary : List ℕ) (found : HiveContents) (tree : TreeMap) (log : FileState) (bytes : List ℕ) (root : ℕ) (pages : Pages) → is_clean_file primary ≡ true → CleanFileContains primary found
    → BinsEncodeTreeInLimits found.bins.items found.block.root found.block.minor tree → IsInWrittenVersion found.block found.bins.items found.pages tree bytes root pages
    → ((stands : TreeDecoder TreeMap) → tree_under stands (clean_writer hive found.block root pages.bins_size).block bytes ≡ Some tree
    → PlanFitsImage stands (tree, found.block.applied.0) bytes pages (plan_of (clean_writer hive found.block root pages.bins_size) bytes pages))
    → FilesMatchWriter (clean_writer hive found.block root pages.bins_size) bytes pages (tree, found.block.applied.0) (tree, found.block.applied.0) (at_rest primary) log
clean_on hive primary found tree log bytes root pages clean x within now ready =
    let writer = clean_writer hive found.block root pages.bins_size in
    let plan = plan_of writer bytes pages in
    let held : TreeMap × ℕ = (tree, found.block.applied.0) in
    let stands = both found.bins.items found.block tree bytes root in
    let own : IsAtRest (rule found.bins.items found.block tree) (work_of plan found.bins.items found.pages held held) (at_rest primary) = own_rest primary found tree plan clean x in
    let moved = absorbed (rule found.bins.items found.block tree) (work_of plan found.bins.items found.pages held held) held bytes pages (at_rest primary) now.marks own in
    record {
      stands = stands;
      right = both_right found.bins.items found.block tree bytes root within now.stands;
      plan = plan;
      ready = ready stands (both_gives found.bins.items found.block tree bytes root pages.bins_size);
      ends = record { block = refl; final = refl };
      flush = λ any. refl;
      on = record {
        rest = refl;
        clean = record {
          clean = own.clean.clean;
          own = own.clean.own;
          long = own.clean.long;
          tree = both_still found.bins.items found.block tree bytes root (block_of primary) (take (block_of primary).bins_size (drop 4096 primary)) own.clean.tree;
          number = own.clean.number;
        };
        behind = moved.behind;
      };
      rests = λ working. tt;
    }

pub unclean_on : (hive : ℕ) (primary log : List ℕ) (found : HiveContents) (tree : TreeMap) → is_clean_file primary ≡ false → UncleanFilesContain primary log found
    → BinsEncodeTreeInLimits found.bins.items found.block.root found.block.minor tree
    → ((stands : TreeDecoder TreeMap) (memory : TreeMap × ℕ) → found.block ≡ as_primary (block_of log) → LogIsWhole log → IsCovered (length (drop 4096 primary)) (pages_in log)
    → tree_under stands (block_of log) (repaired (drop 4096 primary) (pages_in log) (page_bytes_in log)) ≡ Some memory.0 → (block_of log).applied.0 ≡ memory.1
    → PlanFitsImage stands memory (repaired (drop 4096 primary) (pages_in log) (page_bytes_in log)) (pages_in log) (repair_plan found.block log)
    × IsBehind (repaired (drop 4096 primary) (pages_in log) (page_bytes_in log)) (pages_in log) primary)
    → FilesMatchWriter (unclean_writer hive found.block) found.bins.items found.pages (tree, found.block.applied.0) (tree, found.block.applied.0) (at_rest primary) (at_rest log)
unclean_on hive primary log found tree clean x within fits =
    let stands = rule found.bins.items found.block tree in
    let block = found.block in
    let is : block ≡ as_primary (block_of log) = x.by_log.block in
    let by = x.by_log.repaired in
    let plan = repair_plan block log in
    let root : block.root ≡ (block_of log).root = ap (λ (b : BaseBlock). b.root) is in
    let given : tree_under stands (block_of log) found.bins.items ≡ Some tree =
    sym (ap (λ (n : ℕ). stands found.bins.items n block.minor block.store) root ∙ ap (λ (n : ℕ). stands found.bins.items (block_of log).root n block.store) (ap (λ (b : BaseBlock). b.minor) is)
    ∙ ap (stands found.bins.items (block_of log).root (block_of log).minor) (ap (λ (b : BaseBlock). b.store) is)) ∙ rule_gives found.bins.items block tree in
    let made = fits stands (tree, block.applied.0) is by.whole by.covered (subst (λ (l : List ℕ). tree_under stands (block_of log) l ≡ Some tree) by.image given) (sym (ap (λ (b : BaseBlock). b.applied.0) is)) in
    let ready : PlanFitsImage stands (tree, block.applied.0) found.bins.items found.pages plan =
    subst (λ (v : Pages). PlanFitsImage stands (tree, block.applied.0) found.bins.items v plan) (sym x.by_log.pages)
    (subst (λ (l : List ℕ). PlanFitsImage stands (tree, block.applied.0) l (pages_in log) plan) (sym by.image) made.0) in
    let behind : IsBehind found.bins.items found.pages primary =
    subst (λ (v : Pages). IsBehind found.bins.items v primary) (sym x.by_log.pages) (subst (λ (l : List ℕ). IsBehind l (pages_in log) primary) (sym by.image) made.1) in
    record {
      stands = stands;
      right = rule_right found.bins.items block tree within;
      plan = plan;
      ready = ready;
      ends = record { block = sym is; final = refl };
      flush = λ not. absurd cc;
      on = repair_begins stands (work_of plan found.bins.items found.pages (tree, block.applied.0) (tree, block.applied.0)) (at_rest primary) (at_rest log) ready refl clean x.sector behind
          (record { rest = refl; front = take-length log });
      rests = λ working. tt;
    }

-- ---- the writer

pub planned_after : (block : BaseBlock) (root size : ℕ) (pages : Pages) → IsPrimary block → size % 4096 ≡ 0 → 4096 ≤ size → size ≤ 67108864 → size ≡ pages.bins_size
    → IsPlanned (block_after block root size block.last_written block.applied.0) pages
planned_after block root size pages own whole least most is = record {
  own = (record { signature = own.0.signature; bins_size = (whole, λ none. omega (arith, least, none)); within = most }, (own.1.0, omega arith, omega arith, own.1.3), own.2);
  equal = refl;
  size = is;
  version = refl;
}

-- the writer of files that were found clean or unclean, for an image of a size with a root
pub record IsWriterFor (writer : HiveWriter) (hive : ℕ) (block : BaseBlock) (is_clean : Bool) (root size : ℕ) : Type 0 where
  pub clean : is_clean ≡ true → writer ≡ clean_writer hive block root size
  pub unclean : is_clean ≡ false → writer ≡ unclean_writer hive block

pub writer_planned : (writer : HiveWriter) (hive : ℕ) (found : HiveContents) (root size : ℕ) (pages : Pages) → IsWriterFor writer hive found.block found.is_clean root size
    → size % 4096 ≡ 0 → 4096 ≤ size → size ≤ 67108864 → size ≡ pages.bins_size → (found.block.minor ≡ MINOR_VERSION → pages ≡ found.pages) → IsPlanned writer.block pages
writer_planned writer hive found root size pages w whole least most is kept = elim (cases_Bool found.is_clean) [
  | inl e ↦ subst (λ (x : HiveWriter). IsPlanned x.block pages) (sym (w.clean e)) (planned_after found.block root size pages found.used.own whole least most is)
  | inr e ↦
      let version = found.repaired e in
      subst (λ (x : HiveWriter). IsPlanned x.block pages) (sym (w.unclean e)) (subst (λ (v : Pages). IsPlanned found.block v) (sym (kept version))
      (record { own = found.used.own; equal = found.used.equal; size = found.used.size; version = version }))
]

pub writer_steady : (writer : HiveWriter) (hive : ℕ) (block : BaseBlock) (is_clean : Bool) (root size : ℕ) → IsWriterFor writer hive block is_clean root size → (IsFlushing writer.stage → ⊥) → writer.base ≡ writer.block
writer_steady writer hive block is_clean root size w not = elim (cases_Bool is_clean) [
  | inl e ↦ absurd (subst (λ (x : HiveWriter). IsFlushing x.stage → ⊥) (w.clean e) not tt)
  | inr e ↦ subst (λ (x : HiveWriter). x.base ≡ x.block) (sym (w.unclean e)) refl
]

pub writer_number : (writer : HiveWriter) (hive : ℕ) (block : BaseBlock) (is_clean : Bool) (root size : ℕ) → IsWriterFor writer hive block is_clean root size → block.applied.0 ≡ writer.block.applied.0
writer_number writer hive block is_clean root size w = elim (cases_Bool is_clean) [
  | inl e ↦ ap (λ (x : HiveWriter). x.block.applied.0) (sym (w.clean e))
  | inr e ↦ ap (λ (x : HiveWriter). x.block.applied.0) (sym (w.unclean e))
]

-- the block that is planned has the image's root, and the version that is written
pub writer_root : (writer : HiveWriter) (hive : ℕ) (found : HiveContents) (root size : ℕ) → IsWriterFor writer hive found.block found.is_clean root size
    → (found.block.minor ≡ MINOR_VERSION → root ≡ found.block.root) → writer.block.root ≡ root
writer_root writer hive found root size w kept = elim (cases_Bool found.is_clean) [
  | inl e ↦ ap (λ (x : HiveWriter). x.block.root) (w.clean e)
  | inr e ↦ ap (λ (x : HiveWriter). x.block.root) (w.unclean e) ∙ sym (kept (found.repaired e))
]

pub writer_minor : (writer : HiveWriter) (hive : ℕ) (found : HiveContents) (root size : ℕ) → IsWriterFor writer hive found.block found.is_clean root size → writer.block.minor ≡ MINOR_VERSION
writer_minor writer hive found root size w = elim (cases_Bool found.is_clean) [
  | inl e ↦ ap (λ (x : HiveWriter). x.block.minor) (w.clean e)
  | inr e ↦ ap (λ (x : HiveWriter). x.block.minor) (w.unclean e) ∙ found.repaired e
]

pub writer_ahead : (writer : HiveWriter) (hive : ℕ) (block : BaseBlock) (is_clean : Bool) (root size : ℕ) → IsWriterFor writer hive block is_clean root size → writer.base.applied.0 ≤ writer.block.applied.0
writer_ahead writer hive block is_clean root size w = elim (cases_Bool is_clean) [
  | inl e ↦ subst (λ (x : HiveWriter). x.base.applied.0 ≤ x.block.applied.0) (sym (w.clean e)) (omega arith)
  | inr e ↦ subst (λ (x : HiveWriter). x.base.applied.0 ≤ x.block.applied.0) (sym (w.unclean e)) (omega arith)
]

-- the primary file's own block is the one whose number is raised, if it was found clean
pub writer_base : (writer : HiveWriter) (hive : ℕ) (block : BaseBlock) (is_clean : Bool) (root size : ℕ) → IsWriterFor writer hive block is_clean root size → is_clean ≡ true → writer.base ≡ block
writer_base writer hive block is_clean root size w e = ap (λ (x : HiveWriter). x.base) (w.clean e)

pub writer_place : (writer : HiveWriter) (hive : ℕ) (block : BaseBlock) (is_clean : Bool) (root size : ℕ) → IsWriterFor writer hive block is_clean root size → writer.hive ≡ hive
writer_place writer hive block is_clean root size w = elim (cases_Bool is_clean) [
  | inl e ↦ ap (λ (x : HiveWriter). x.hive) (w.clean e)
  | inr e ↦ ap (λ (x : HiveWriter). x.hive) (w.unclean e)
]

pub writer_store : (writer : HiveWriter) (hive : ℕ) (block : BaseBlock) (is_clean : Bool) (root size : ℕ) → IsWriterFor writer hive block is_clean root size → writer.block.store ≡ block.store
writer_store writer hive block is_clean root size w = elim (cases_Bool is_clean) [
  | inl e ↦ ap (λ (x : HiveWriter). x.block.store) (w.clean e)
  | inr e ↦ ap (λ (x : HiveWriter). x.block.store) (w.unclean e)
]

pub writer_sound : (writer : HiveWriter) (hive : ℕ) (block : BaseBlock) (is_clean : Bool) (root size : ℕ) → IsWriterFor writer hive block is_clean root size → writer.failed ≡ false
writer_sound writer hive block is_clean root size w = elim (cases_Bool is_clean) [
  | inl e ↦ ap (λ (x : HiveWriter). x.failed) (w.clean e)
  | inr e ↦ ap (λ (x : HiveWriter). x.failed) (w.unclean e)
]

-- nothing is on its way but what is durable
pub writer_settled : (writer : HiveWriter) (hive : ℕ) (block : BaseBlock) (is_clean : Bool) (root size : ℕ) (held tree : TreeMap) → IsWriterFor writer hive block is_clean root size → held ≡ tree
    → choice_at writer.stage (held, writer.base.applied.0) (tree, writer.block.applied.0) ≡ settled (tree, writer.block.applied.0)
writer_settled writer hive block is_clean root size held tree w same = elim (cases_Bool is_clean) [
  | inl e ↦ subst (λ (x : HiveWriter). choice_at x.stage (held, x.base.applied.0) (tree, x.block.applied.0) ≡ settled (tree, x.block.applied.0)) (sym (w.clean e))
      (ap (λ (t : TreeMap). settled (t, block.applied.0)) same)
  | inr e ↦ subst (λ (x : HiveWriter). choice_at x.stage (held, x.base.applied.0) (tree, x.block.applied.0) ≡ settled (tree, x.block.applied.0)) (sym (w.unclean e)) refl
]

-- what is not whole was found unclean, and few calls of its repair are left
pub few_left : (writer : HiveWriter) (hive : ℕ) (block : BaseBlock) (is_clean : Bool) (root size total : ℕ) (pages : Pages) → IsWriterFor writer hive block is_clean root size → (IsFlushing writer.stage → ⊥)
    → (is_clean ≡ false) × (calls_left total pages writer.stage ≤ dirty_count pages + 3)
few_left writer hive block is_clean root size total pages w not = elim (cases_Bool is_clean) [
  | inl e ↦ absurd (subst (λ (x : HiveWriter). IsFlushing x.stage → ⊥) (w.clean e) not tt)
  | inr e ↦ (e, subst (λ (x : HiveWriter). calls_left total pages x.stage ≤ dirty_count pages + 3) (sym (w.unclean e)) (omega arith))
]

-- few calls of a repair are left, and none if the primary file was found clean
pub repairs_few : (primary log : List ℕ) (found : HiveContents) (hive : ℕ) (writer : HiveWriter) (root size : ℕ) (pages : Pages) → IsWriterFor writer hive found.block found.is_clean root size
    → (found.block.minor ≡ MINOR_VERSION → pages ≡ found.pages) → FilesContain primary log found → repairs_at pages writer.stage ≤ most_repairs primary log
repairs_few primary log found hive writer root size pages w kept f = elim (cases_Bool found.is_clean) [
  | inl e ↦
      subst (λ (b : Bool). repairs_at pages writer.stage ≤ (if b then 0 else marked_pages log + 3)) (sym e ∙ f.clean)
      (subst (λ (x : HiveWriter). repairs_at pages x.stage ≤ 0) (sym (w.clean e)) (omega arith))
  | inr e ↦
      let unclean : UncleanFilesContain primary log found = MatchBool-at_false _ _ e f.parts in
      let same : pages ≡ pages_in log = kept (found.repaired e) ∙ unclean.by_log.pages in
      subst (λ (b : Bool). repairs_at pages writer.stage ≤ (if b then 0 else marked_pages log + 3)) (sym e ∙ f.clean)
      (subst (λ (x : HiveWriter). repairs_at pages x.stage ≤ marked_pages log + 3) (sym (w.unclean e))
      (subst (λ (v : Pages). dirty_from pages 0 + 3 ≤ dirty_count v + 3) same (omega arith)))
]

-- a plan that fits what the writer has fits what it was made of
pub clean_ready : (writer : HiveWriter) (hive : ℕ) (block : BaseBlock) (root size : ℕ) (image bytes : List ℕ) (pages : Pages) (tree : TreeMap) (stands : TreeDecoder TreeMap)
    → writer ≡ clean_writer hive block root size → image ≡ bytes
    → ((s : TreeDecoder TreeMap) (memory : TreeMap × ℕ) → tree_under s writer.block image ≡ Some memory.0 → writer.block.applied.0 ≡ memory.1 → PlanFitsImage s memory image pages (plan_of writer image pages))
    → tree_under stands (clean_writer hive block root size).block bytes ≡ Some tree
    → PlanFitsImage stands (tree, block.applied.0) bytes pages (plan_of (clean_writer hive block root size) bytes pages)
clean_ready writer hive block root size image bytes pages tree stands is same ready given =
    let first = subst (λ (w : HiveWriter). (s : TreeDecoder TreeMap) (memory : TreeMap × ℕ) → tree_under s w.block image ≡ Some memory.0 → w.block.applied.0 ≡ memory.1 → PlanFitsImage s memory image pages (plan_of w image pages)) is ready in
    let second = subst (λ (l : List ℕ). (s : TreeDecoder TreeMap) (memory : TreeMap × ℕ) → tree_under s (clean_writer hive block root size).block l ≡ Some memory.0 → block.applied.0 ≡ memory.1
    → PlanFitsImage s memory l pages (plan_of (clean_writer hive block root size) l pages)) same first in
    second stands (tree, block.applied.0) given refl

-- a hive that was opened from a clean primary file
pub opened_from : (primary : List ℕ) (found : HiveContents) (tree : TreeMap) (bytes image : List ℕ) (root : ℕ) (pages : Pages) (writer : HiveWriter) → CleanFileContains primary found
    → IsInWrittenVersion found.block found.bins.items found.pages tree bytes root pages → image ≡ bytes → writer.base ≡ found.block → writer.block.root ≡ root
    → IsOpenedAs primary writer image pages tree
opened_from primary found tree bytes image root pages writer x made same base is =
    let read = x.own.read in
    record {
      base = base ∙ read;
      kept = λ m.
          let kept = made.kept (ap (λ (b : BaseBlock). b.minor) read ∙ m) in (
            same ∙ kept.0 ∙ x.own.part ∙ ap (λ (b : BaseBlock). take b.bins_size (drop 4096 primary)) read,
            kept.2 ∙ x.pages ∙ ap (λ (b : BaseBlock). clean_pages b.bins_size) read,
          );
      renewed = λ m.
          let renewed = made.renewed (λ is. m (sym (ap (λ (b : BaseBlock). b.minor) read) ∙ is)) in
          let long : length found.bins.items ≡ found.block.bins_size = omega (arith, ap (λ (l : List ℕ). length l) x.own.part, length-take found.block.bins_size (drop 4096 primary), length-drop 4096 primary, x.own.long) in (
            omega (arith, renewed.0, long, ap (λ (b : BaseBlock). b.bins_size) read, ap (λ (l : List ℕ). length l) same),
            subst (λ (r : ℕ). IsFormed image r tree) (sym is) (subst (λ (l : List ℕ). IsFormed l root tree) (sym same) renewed.1),
          );
    }

pub has_hive : (store primary log : List ℕ) (held : TreeMap × ℕ) → HiveFilesHold store primary log held → FilesHaveHive primary log
has_hive store primary log held h = record { block = h.block; bins = h.bins; in_use = h.in_use; own = h.own; sector = h.sector }
