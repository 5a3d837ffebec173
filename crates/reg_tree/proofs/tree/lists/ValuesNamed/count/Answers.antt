use Rattle.std.proofs.Common.{sym, ◌∙◌}
use Rattle.std.specs.FinMap as finite
use Rattle.std.proofs.lemmas.List.{length-map}
use Rattle.reg_tree.proofs.tree.lists.ValuesNamed.count.Goals as goal

pub returns : goal.returns
returns c =
    let values = c.args.self.now in
    c.len.ensures ∙ finite.len-entries values ∙ sym (length-map (finite.values values) (λ value. value.name) ∙ length-map (finite.entries values) (λ entry. entry.1))
