use Rattle.std.proofs.Common.{◌≡◌, ◌≤◌, ℕ, Ok, length}
use Rattle.base_block.specs.declared.block.TheConstants.{MINOR_VERSION}
use Rattle.reg_names.specs.Names.{folded_path}
use Rattle.reg_tree.specs.Maps.{TreeMap}
use Rattle.reg_tree.specs.Operations.{depth_there}
use Rattle.reg_tree.specs.Judgement.{judged}
use Rattle.reg_tree.specs.declared.op.Legality.TheVariants.{Legal}
use Rattle.reg_tree.specs.declared.op.Op.TheVariants.{CreateKey}
use Rattle.hive_records.specs.Images.{BinsEncodeTree}
use Rattle.hive_edit.proofs.LevelSteps.{LevelsMade}
use Rattle.hive_edit.proofs.key_create.create_key.Given as goal

abbrev pub invariant-loop-depth : goal.invariant-loop-depth
invariant-loop-depth l = record {
  low : l.there ≤ l.depth;
  high : l.depth ≤ length l.path;
  saved : l.image.saved ≡ l.fn.image.saved;
  made : (hive : ℕ) (tree : TreeMap) → BinsEncodeTree l.fn.image.bytes l.root MINOR_VERSION tree → judged tree (CreateKey hive l.path) ≡ Ok Legal → l.there ≡ depth_there tree (folded_path l.path)
      → LevelsMade (λ (t : TreeMap). BinsEncodeTree l.image.bytes l.root MINOR_VERSION t) hive tree l.path l.there l.depth l.moment;
}
