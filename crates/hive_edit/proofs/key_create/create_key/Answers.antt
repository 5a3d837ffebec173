use Rattle.std.proofs.Common.{[], inl, refl, ◌∙◌, ap, Ok, arith}
use Rattle.std.proofs.lemmas.List.{get_or_default}
use Rattle.base_block.specs.declared.block.TheConstants.{MINOR_VERSION}
use Rattle.reg_names.specs.Names.{folded_path}
use Rattle.reg_tree.specs.Maps.{TreeMap}
use Rattle.hive_records.specs.Images.{BinsEncodeTree}
use Rattle.hive_edit_laws.proofs.KeySearch.{root_found}
use Rattle.hive_edit_laws.proofs.TreeRevisions.{found_tree}
use Rattle.hive_edit.proofs.KeyAbsences.{legal_absent}
use Rattle.hive_edit.proofs.LevelSteps.{level_made, all_made}
use Rattle.hive_edit.proofs.key_create.create_key.Goals as goal

pub loop-depth-init : goal.loop-depth-init
loop-depth-init c = record {
  low = omega arith;
  high = omega arith;
  saved = refl;
  made = λ hive tree encodes legal there_is. inl (refl, encodes);
}

pub loop-depth-preserved : goal.loop-depth-preserved
loop-depth-preserved c =
    let root = c.args.root in
    let old = c.args.image.now.bytes in
    let mid = c.loop-depth.image.bytes in
    let new = c.create_level.new.image.bytes in
    let path = c.args.path.now in
    let low = c.loop-depth.invariant.low in
    record {
      low = omega (arith, low);
      high = omega (arith, c.loop-depth-test.true);
      saved = c.in_ok-create_level.ensures.saved ∙ c.loop-depth.invariant.saved;
      made = λ hive tree encodes legal there_is.
          level_made tree (found_tree old root MINOR_VERSION tree [] root (root_found old root MINOR_VERSION tree encodes)) path (legal_absent tree (folded_path path) legal) c.args.there there_is
          (λ (t : TreeMap). BinsEncodeTree mid root MINOR_VERSION t) (λ (t : TreeMap). BinsEncodeTree new root MINOR_VERSION t)
          (λ t e. found_tree mid root MINOR_VERSION t [] root (root_found mid root MINOR_VERSION t e)) hive c.args.moment c.loop-depth.depth c.index-path-depth.result c.loop-depth-test.true (c.index-path-depth.is ∙ get_or_default path c.loop-depth.depth c.index-path-depth.result [] c.loop-depth-test.true)
          (λ t e absent. c.in_ok-create_level.ensures.done (ap Ok c.in-Done.is) hive t e absent)
          (c.loop-depth.invariant.made hive tree encodes legal there_is);
    }

pub returns-clause-done : goal.returns-clause-done
returns-clause-done c = λ is hive tree encodes legal there_is.
    all_made (λ (t : TreeMap). BinsEncodeTree c.loop-depth.image.bytes c.args.root MINOR_VERSION t) hive tree c.args.path.now c.args.there c.loop-depth.depth c.args.moment c.if-path-there.false c.loop-depth-test.false (c.loop-depth.invariant.made hive tree encodes legal there_is)
