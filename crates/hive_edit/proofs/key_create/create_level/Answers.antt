use Rattle.std.proofs.Common.{ℕ, List, ◌++◌, ◌∷◌, [], ap, subst, ◌∙◌}
use Rattle.reg_names.specs.Names.{folded, folded_path}
use Rattle.base_block.specs.declared.block.TheConstants.{MINOR_VERSION}
use Rattle.hive_records.specs.Images.{BinsEncodeTree}
use Rattle.reg_tree.specs.Maps.{row}
use Rattle.reg_tree.specs.Operations.{tree_after}
use Rattle.reg_tree.specs.declared.op.Op.TheVariants.{CreateKey}
use Rattle.hive_edit.proofs.key_create.create_level.Goals as goal

pub returns-clause-done : goal.returns-clause-done
returns-clause-done c = λ is hive tree encodes absent.
    let front = c.args.front.now in
    let units = c.units-2.ensures in
    subst (λ (n : List ℕ). BinsEncodeTree c.add_key.new.image.bytes c.args.root MINOR_VERSION (tree_after tree (CreateKey hive (front ++ n ∷ [])) c.args.moment)) units
    (let found = c.in-Some.ensures MINOR_VERSION tree encodes in
    c.add_key.ensures.done is c.args.root hive tree front (c.in_ok-count_key.ensures.found c.args.root tree tree (folded_path front) (folded_path front) c.in-Some.home found found)
    (ap (λ (n : List ℕ). row tree (folded_path front ++ folded n ∷ [])) units ∙ absent))
