-- The bytes of a file that is made of a first sector, zeros and bins data hold the tree that the bins data encode.
use Rattle.std.proofs.Common.{◌≡◌, ◌≤◌, ℕ, ◌+◌, List, ◌++◌, true, length, take, replicate, refl, sym, ap, subst, ◌∙◌, arith, length-append, append_assoc}
use Rattle.std.proofs.lemmas.Bool.{and_from, le-leb}
use Rattle.std.proofs.lemmas.List.{take_at, drop_at}
use Rattle.std.proofs.Math.Seq.{take-length}
use Rattle.base_block.specs.declared.block.BaseBlock.{BaseBlock}
use Rattle.base_block.specs.declared.block.TheConstants.{MINOR_VERSION}
use Rattle.base_block.specs.Layout.{block_at, fresh_primary, is_clean_block}
use Rattle.base_block.specs.Judgements.{IsBinsSize, IsPrimary}
use Rattle.refusals.specs.declared.limits.TheConstants.{MOST_BINS_BYTES}
use Rattle.dirt_log.specs.WholeLog.{block_of}
use Rattle.dirt_log.specs.FileContents.{is_clean_file}
use Rattle.reg_tree.specs.Maps.{TreeMap}
use Rattle.hive_load.specs.Limits.{BinsEncodeTreeInLimits}
use Rattle.hive_file_reader.specs.Hives.{FileHoldsHive}

unfoldable pub first : ℕ → ℕ → List ℕ → BaseBlock
first root size store = fresh_primary 1 MINOR_VERSION root size store

first_is_primary : (root size : ℕ) (store : List ℕ) → IsBinsSize size → size ≤ MOST_BINS_BYTES → IsPrimary (first root size store)
unfolding first
first_is_primary root size store right within =
    (record { signature = refl; bins_size = right; within = within }, (refl, omega arith, omega arith, refl), refl)

pub file_holds : (sector bins store : List ℕ) (root : ℕ) (tree : TreeMap) → length sector ≡ 512
    → block_at sector ≡ fresh_primary 1 MINOR_VERSION root (length bins) store
    → IsBinsSize (length bins) → length bins ≤ MOST_BINS_BYTES → BinsEncodeTreeInLimits bins root MINOR_VERSION tree
    → FileHoldsHive ((sector ++ replicate 3584 0) ++ bins) tree
unfolding first
file_holds sector bins store root tree long reads right within encodes =
    let block = first root (length bins) store in
    let zeros = replicate 3584 0 in
    let base = sector ++ zeros in
    let file = base ++ bins in
    let base_long : length base ≡ 4096 = length-append sector zeros ∙ ap (λ (n : ℕ). n + 3584) long in
    let front : take 512 file ≡ sector = ap (λ (l : List ℕ). take 512 l) (append_assoc sector zeros bins) ∙ take_at sector (zeros ++ bins) 512 long in
    let own : block_of file ≡ block = ap block_at front ∙ reads in
    let len : length file ≡ 4096 + length bins = length-append base bins ∙ ap (λ (n : ℕ). n + length bins) base_long in
    let clean : is_clean_file file ≡ true = and_from _ _ (le-leb 512 (length file) (omega (arith, len))) (ap is_clean_block own) in
    record {
      block = block;
      bins = bins;
      has = record { clean = clean; read = sym own; judged = first_is_primary root (length bins) store right within };
      own = record {
        read = sym own;
        long = omega (arith, len);
        part = sym (ap (λ (l : List ℕ). take (length bins) l) (drop_at base bins 4096 base_long) ∙ take-length bins);
      };
      tree_is = encodes;
    }

-- the same, if base block and bins data come by other names
pub parts_hold : (base bins image sector store : List ℕ) (root size : ℕ) (tree : TreeMap) → bins ≡ image → size ≡ length image
    → base ≡ sector ++ replicate 3584 0 → length sector ≡ 512 → block_at sector ≡ fresh_primary 1 MINOR_VERSION root size store
    → IsBinsSize (length image) → length image ≤ MOST_BINS_BYTES → BinsEncodeTreeInLimits image root MINOR_VERSION tree
    → FileHoldsHive (base ++ bins) tree
parts_hold base bins image sector store root size tree bins_are size_is base_is long reads right within encodes =
    subst (λ (l : List ℕ). FileHoldsHive (l ++ bins) tree) (sym base_is)
    (subst (λ (l : List ℕ). FileHoldsHive ((sector ++ replicate 3584 0) ++ l) tree) (sym bins_are)
    (file_holds sector image store root tree long (reads ∙ ap (λ (n : ℕ). fresh_primary 1 MINOR_VERSION root n store) size_is) right within encodes))
