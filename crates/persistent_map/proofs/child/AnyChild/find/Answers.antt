use Rattle.std.proofs.Common.{sym, ◌∙◌, ap, is_eq}
use Rattle.reg_names.specs.Names.{folded}
use Rattle.persistent_map.specs.Orders.{name_order}
use Rattle.persistent_map.proofs.Names.{same_name}
use Rattle.persistent_map.proofs.child.AnyChild.find.Goals as goal

pub returns-then-is_eq-clause-named : goal.returns-then-is_eq-clause-named
returns-then-is_eq-clause-named g c =
    sym (same_name _ _ (ap (λ k. is_eq (name_order (folded c.args.name.now) k)) (sym c.name.ensures) ∙ sym (c.is_eq.ensures ∙ ap is_eq c.cmp.ensures) ∙ c.if-is_eq.true))
