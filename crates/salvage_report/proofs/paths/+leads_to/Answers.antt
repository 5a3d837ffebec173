use Rattle.std.proofs.Common.{◌&&◌, sym, ◌∙◌, ap}
use Rattle.reg_names.specs.Names.{folded_path}
use Rattle.key_walk.specs.KeyPaths.{names_on}
use Rattle.key_walk.specs.declared.key_path.KeyPath.{KeyPath}
use Rattle.salvage_report.specs.Told.{same_path}
use Rattle.salvage_report.proofs.Ways.{same_root, leads_below}
use Rattle.salvage_report.proofs.paths.+leads_to.Goals as goal

pub returns-in-Root : goal.returns-in-Root
returns-in-Root t c =
    c.is_empty.ensures ∙ same_root c.args.names.now ∙ ap (λ (p : KeyPath). same_path (folded_path c.args.names.now) (folded_path (names_on p))) (sym c.in-Root.is)

pub returns-then-eq : goal.returns-then-eq
returns-then-eq t c =
    c.leads_to.ensures
    ∙ (λ i. (sym c.if-eq.true ∙ c.eq.ensures) i && same_path (folded_path c.in-Some.front.now) (folded_path (names_on c.in-Below.above.now)))
    ∙ sym (leads_below c.args.names.now c.in-Some.front.now (names_on c.in-Below.above.now) c.in-Some.last.now c.in-Below.name.now c.in-Some.ensures.cases.0)
    ∙ ap (λ (p : KeyPath). same_path (folded_path c.args.names.now) (folded_path (names_on p))) (sym c.in-Below.is)

pub returns-else-eq : goal.returns-else-eq
returns-else-eq t c =
    c.if-eq.false
    ∙ (λ i. (sym c.if-eq.false ∙ c.eq.ensures) i && same_path (folded_path c.in-Some.front.now) (folded_path (names_on c.in-Below.above.now)))
    ∙ sym (leads_below c.args.names.now c.in-Some.front.now (names_on c.in-Below.above.now) c.in-Some.last.now c.in-Below.name.now c.in-Some.ensures.cases.0)
    ∙ ap (λ (p : KeyPath). same_path (folded_path c.args.names.now) (folded_path (names_on p))) (sym c.in-Below.is)
