use Rattle.std.proofs.Common.{◌++◌, ◌∷◌, [], true, false, sym, ◌∙◌, ap}
use Rattle.reg_names.specs.Names.{folded_path}
use Rattle.reg_tree_parts.specs.Nodes.{begins_path}
use Rattle.key_walk.specs.KeyPaths.{names_on}
use Rattle.key_walk.specs.declared.key_path.KeyPath.{KeyPath}
use Rattle.salvage_report.specs.Told.{same_path}
use Rattle.salvage_report.proofs.Ways.{begins_root, begins_below}
use Rattle.salvage_report.proofs.paths.+begins.Goals as goal

pub returns-in-Root : goal.returns-in-Root
returns-in-Root t c =
    c.is_empty.ensures ∙ begins_root c.args.names.now ∙ ap (λ (p : KeyPath). begins_path (folded_path c.args.names.now) (folded_path (names_on p))) (sym c.in-Root.is)

pub returns-then-begins : goal.returns-then-begins
returns-then-begins t c =
    c.if-begins.true
    ∙ begins_below c.args.names.now (names_on c.in-Below.above.now) c.in-Below.field-1.now true _ (sym c.if-begins.true ∙ c.begins.ensures) (λ i. same_path (folded_path c.args.names.now) (folded_path (names_on c.in-Below.above.now ++ c.in-Below.field-1.now ∷ [])))
    ∙ ap (λ (p : KeyPath). begins_path (folded_path c.args.names.now) (folded_path (names_on p))) (sym c.in-Below.is)

pub returns-else-begins : goal.returns-else-begins
returns-else-begins t c =
    begins_below c.args.names.now (names_on c.in-Below.above.now) c.in-Below.field-1.now false c.leads_to.result (sym c.if-begins.false ∙ c.begins.ensures)
    (c.leads_to.ensures ∙ ap (λ (p : KeyPath). same_path (folded_path c.args.names.now) (folded_path (names_on p))) c.in-Below.is)
    ∙ ap (λ (p : KeyPath). begins_path (folded_path c.args.names.now) (folded_path (names_on p))) (sym c.in-Below.is)
