-- What files that were just made hold.
use Rattle.std.proofs.Common.{◌≡◌, ◌≤◌, ℕ, ◌+◌, List, ◌++◌, true, length, take, drop, refl, sym, ap, subst, ◌∙◌, arith, length-append, append_assoc}
use Rattle.std.specs.Prelude.{◌%◌}
use Rattle.std.proofs.lemmas.Bool.{and_from, and_parts, eq-eqb, eqb-true, le-leb, leb-true}
use Rattle.std.proofs.lemmas.List.{take_at, drop_at, length-drop, length-take}
use Rattle.std.proofs.Math.Seq.{take-length}
use Rattle.base_block.specs.declared.block.BaseBlock.{BaseBlock}
use Rattle.base_block.specs.declared.block.TheConstants.{MINOR_VERSION, OLDEST_MINOR_VERSION}
use Rattle.base_block.specs.Layout.{block_at, is_clean_block, sector_of, zeros}
use Rattle.base_block.specs.Judgements.{IsPrimary}
use Rattle.dirt_log.specs.WholeLog.{block_of}
use Rattle.dirt_log.specs.FileContents.{is_clean_file}
use Rattle.dirty_vector.specs.Pages.{is_bins_size}
use Rattle.reg_tree.specs.Maps.{TreeMap}
use Rattle.disk_model.specs.FileState.{FileState}
use Rattle.hive_files.specs.FreshFiles.{FilesAreMade, primary_bytes}
use Rattle.hive_files.proofs.Anew.{base_long}
use Rattle.hive_flush.specs.Creation.{AreMadeFor, block_as_made}
use Rattle.hive_file_reader.specs.Hives.{FileHasBins}
use Rattle.hive_load.specs.Limits.{BinsEncodeTreeInLimits}
use Rattle.hive_flush.specs.Decoders.{HiveFilesHold}
use Rattle.hive_flush.proofs.Opened.{match_at_true, true_false}
use Rattle.hive_flush.proofs.Readying.{right_sum}

unfoldable pub first : ℕ → ℕ → ℕ → ℕ → List ℕ → BaseBlock
first number minor root size store = block_as_made store number minor root size

first_is_primary : (number minor root size : ℕ) (store : List ℕ) → OLDEST_MINOR_VERSION ≤ minor → minor ≤ MINOR_VERSION → is_bins_size size ≡ true → IsPrimary (first number minor root size store)
unfolding first
first_is_primary number minor root size store oldest newest right =
    let parts = and_parts _ _ right in
    let more = and_parts _ _ parts.0 in
    let whole = eqb-true (size % 4096) 0 more.0 in
    let some = leb-true 4096 size more.1 in
    (record { signature = refl; bins_size = (whole, λ none. omega (arith, some, none)); within = leb-true size 67108864 parts.1 }, (refl, oldest, newest, refl), refl)

pub created_holds : (store : List ℕ) (number minor root : ℕ) (bins log : List ℕ) (tree : TreeMap) → length (sector_of (first number minor root (length bins) store)) ≡ 512
    → block_at (sector_of (first number minor root (length bins) store)) ≡ record (first number minor root (length bins) store) { sum_is_right = true }
    → OLDEST_MINOR_VERSION ≤ minor → minor ≤ MINOR_VERSION → is_bins_size (length bins) ≡ true → BinsEncodeTreeInLimits bins root minor tree
    → HiveFilesHold store (primary_bytes (first number minor root (length bins) store) bins) log (tree, number)
unfolding first
created_holds store number minor root bins log tree long reads oldest newest size within =
    let block = first number minor root (length bins) store in
    let sector = sector_of block in
    let base = sector ++ zeros 3584 in
    let encoding = base ++ bins in
    let front : take 512 encoding ≡ sector = ap (λ (l : List ℕ). take 512 l) (append_assoc sector (zeros 3584) bins) ∙ take_at sector (zeros 3584 ++ bins) 512 long in
    let own : block_of encoding ≡ block = ap block_at front ∙ reads in
    let len : length encoding ≡ 4096 + length bins = length-append base bins ∙ ap (λ (n : ℕ). n + length bins) (base_long sector long) in
    let clean : is_clean_file encoding ≡ true = and_from _ _ (le-leb 512 (length encoding) (omega (arith, len))) (ap is_clean_block own) in
    record {
      block = block;
      bins = bins;
      in_use = match_at_true _ _ clean (record {
        read = sym own;
        long = omega (arith, len);
        part = sym (ap (λ (l : List ℕ). take (length bins) l) (drop_at base bins 4096 (base_long sector long)) ∙ take-length bins);
      });
      own = λ any. first_is_primary number minor root (length bins) store oldest newest size;
      sector = λ other. absurd (true_false (is_clean_file encoding) clean other);
      store_is = refl;
      tree = within;
      number = refl;
    }

-- the bins data of a file are of a size that bins data have
pub file_bins_size : (file : List ℕ) (block : BaseBlock) (bins : List ℕ) → FileHasBins file block bins → is_bins_size (length bins) ≡ true
file_bins_size file block bins has =
    let size = block.bins_size in
    let usable = has.0.judged.0 in
    let long : length bins ≡ size = omega (arith, ap (λ (l : List ℕ). length l) has.1.part, length-take size (drop 4096 file), length-drop 4096 file, has.1.long) in
    ap is_bins_size long ∙ and_from _ _ (and_from _ _ (eq-eqb (size % 4096) 0 usable.bins_size.0) (le-leb 4096 size (omega (arith, usable.bins_size.0, usable.bins_size.1)))) (le-leb size 67108864 usable.within)

-- What is written of an image: its two files, and what they hold.
pub record Created (store : List ℕ) (number minor root : ℕ) (bins : List ℕ) (tree : TreeMap) (primary log : FileState) : Type 0 where
  pub made : AreMadeFor store number minor root bins primary log
  pub holds : HiveFilesHold store primary.synced log.synced (tree, number)

pub created : (store : List ℕ) (number minor root : ℕ) (bins : List ℕ) (tree : TreeMap) (block : BaseBlock) (sector : List ℕ) (primary log : FileState) → block ≡ block_as_made store number minor root (length bins)
    → sector ≡ sector_of block → length sector ≡ 512 → block_at sector ≡ record block { sum_is_right = true }
    → OLDEST_MINOR_VERSION ≤ minor → minor ≤ MINOR_VERSION → is_bins_size (length bins) ≡ true → BinsEncodeTreeInLimits bins root minor tree
    → FilesAreMade block bins primary log → Created store number minor root bins tree primary log
unfolding first right_sum
created store number minor root bins tree block sector primary log is encoding long reads oldest newest size within made =
    let own = first number minor root (length bins) store in
    let made_of : FilesAreMade own bins primary log = subst (λ (b : BaseBlock). FilesAreMade b bins primary log) is made in
    let sector_is : sector ≡ sector_of own = encoding ∙ ap sector_of is in
    let read : block_at (sector_of own) ≡ record own { sum_is_right = true } = ap block_at (sym sector_is) ∙ reads ∙ ap right_sum is in
    record {
      made = made_of;
      holds = subst (λ (s : FileState). HiveFilesHold store s.synced log.synced (tree, number)) (sym made_of.whole)
          (created_holds store number minor root bins log.synced tree (ap (λ (l : List ℕ). length l) (sym sector_is) ∙ long) read oldest newest size within);
    }
