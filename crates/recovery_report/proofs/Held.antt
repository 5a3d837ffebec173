-- The file that a recovery makes, by what is found of its bytes.
use Rattle.std.proofs.Common.{◌≡◌, ℕ, Bool, true, false, List, refl, sym, ap, if◌then◌else◌}
use Rattle.std.specs.Prelude.{◌==◌, ◌&&◌}
use Rattle.std.proofs.lemmas.Bool.{eqb-true, true≢false}
use Rattle.base_block.specs.declared.block.BaseBlock.{BaseBlock}
use Rattle.base_block.specs.declared.fields.SequenceNumber.{SequenceNumber}
use Rattle.base_block.specs.Layout.{is_clean_block}
use Rattle.reg_tree.specs.Maps.{TreeMap}
use Rattle.hive_file_reader.specs.Hives.{FileHoldsShallowTree}
use Rattle.hive_check.specs.Findings.{IsFinding}
use Rattle.hive_check.specs.declared.finding.Finding.{Finding}
use Rattle.hive_check.specs.declared.finding.Finding.TheVariants as finding
use Rattle.hive_walk.specs.declared.errors.ImageError.TheVariants as image_error
use Rattle.recovery_report.specs.declared.judgement.Verdict.TheVariants as verdict
use Rattle.recovery_report.specs.Outcomes.{is_no_memory, verdict_of}

both : (a b : Bool) → (a && b) ≡ true → (a ≡ true) × (b ≡ true)
both true b e = (refl, e)
both false b e = absurd (true≢false (sym e))

-- both numbers of a clean block
pub numbers_equal : (block : BaseBlock) → is_clean_block block ≡ true → block.secondary ≡ block.primary
numbers_equal block clean =
    let equal : block.primary.0 ≡ block.secondary.0 = eqb-true block.primary.0 block.secondary.0 (both block.sum_is_right (block.primary.0 == block.secondary.0) clean).1 in
    let Number : ℕ → SequenceNumber = λ n. record { 0 = n } in
    ap Number (sym equal)

neither : (b : Bool) → (if b then verdict.NotKnown else verdict.NotWhole) ≡ verdict.Whole → ⊥
neither true e = cc
neither false e = cc

-- what is found of bytes that hold a tree
pub tree_found : (bytes : List ℕ) (its : Finding) → IsFinding bytes its → verdict_of its ≡ verdict.Whole → (tree : TreeMap) × FileHoldsShallowTree bytes tree
tree_found bytes (finding.Refused why) is e = absurd (neither (is_no_memory why) e)
tree_found bytes (finding.Untiled fault) is e = absurd (neither false e)
tree_found bytes (finding.Unwalked cells image_error.NoMemory) is e = absurd (neither true e)
tree_found bytes (finding.Unwalked cells (image_error.Fault fault)) is e = absurd (neither false e)
tree_found bytes (finding.Walked cells keys) (block, bins, has, (counted, (tree, encodes, short, counts))) e =
    (tree, record { block = block; bins = bins; has = has.0; own = has.1; tree_is = (encodes, short) })
