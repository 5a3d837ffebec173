use Rattle.std.proofs.Common.{ℕ, List, sym, subst}
use Rattle.reg_names.specs.Names.{folded}
use Rattle.base_block.specs.declared.block.TheConstants.{MINOR_VERSION}
use Rattle.hive_records.specs.Images.{BinsEncodeTree}
use Rattle.reg_tree.specs.Operations.{tree_after}
use Rattle.reg_tree.specs.declared.op.Op.TheVariants.{DeleteKey}
use Rattle.hive_edit.specs.Searches.{IsNamedAt}
use Rattle.hive_edit.specs.declared.search.RecordKind.TheVariants.{Key}
use Rattle.hive_edit.proofs.key_delete.drop_key.Goals as goal

pub returns-clause-done : goal.returns-clause-done
returns-clause-done c = λ is hive tree encodes.
    let front = c.in-Some.front.now in
    let name = c.in-Some.name.now in
    let bytes = c.args.image.now.bytes in
    subst (λ (p : List (List ℕ)). BinsEncodeTree c.take_key.new.image.bytes c.args.root MINOR_VERSION (tree_after tree (DeleteKey hive p) c.args.moment)) (sym c.in-Some.ensures.cases.0)
    (c.take_key.ensures.done is c.args.root hive tree front name (c.in-Some-find_key.ensures MINOR_VERSION tree encodes)
    (subst (λ (n : List ℕ). IsNamedAt Key bytes c.in-Some-find_slot.slot.subkey (folded n)) c.units.ensures c.in-Some-find_slot.ensures.1))
