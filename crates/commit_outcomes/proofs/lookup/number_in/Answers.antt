use Rattle.std.proofs.Common.{sym, ◌∙◌, ap}
use Rattle.std.specs.FinMap as finite
use Rattle.reg_names.specs.Names.{folded}
use Rattle.commit_outcomes.specs.CommitLists.{number_of_data}
use Rattle.commit_outcomes.proofs.Roots.{root_values_are, number_there, none_there}
use Rattle.commit_outcomes.proofs.lookup.number_in.Goals as goal

pub returns-in-Some : goal.returns-in-Some
returns-in-Some c = λ commits has.
    let values = root_values_are c.args.tree.now c.root.result.now c.key.result.now c.root.ensures.node c.root.ensures.same c.key.ensures.here ∙ sym c.values.ensures in
    c.number_of.ensures.number ∙ ap number_of_data c.bytes.ensures ∙ number_there c.args.tree.now commits c.args.unit.now c.values.result.now c.in-Some.value.now has values
    (ap (λ n. finite.get c.values.result.now (folded n)) (sym (c.name-2.ensures.same ∙ c.in_ok-name.ensures)) ∙ sym c.in-Some.ensures.found)

pub returns : goal.returns
returns c = λ commits has.
    let values = root_values_are c.args.tree.now c.root.result.now c.key.result.now c.root.ensures.node c.root.ensures.same c.key.ensures.here ∙ sym c.values.ensures in
    none_there c.args.tree.now c.args.unit.now c.values.result.now values
    (ap (λ n. finite.get c.values.result.now (folded n)) (sym (c.name-2.ensures.same ∙ c.in_ok-name.ensures)) ∙ sym c.in-None.ensures.found)
