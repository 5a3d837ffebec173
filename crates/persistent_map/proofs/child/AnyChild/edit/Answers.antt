use Rattle.std.proofs.Common.{OnOk, sym, ◌∙◌, ap, subst, is_eq}
use Rattle.std.specs.Arc.{arc_value}
use Rattle.reg_names.specs.Names.{folded}
use Rattle.persistent_map.specs.Orders.{name_order}
use Rattle.persistent_map.specs.Listings.{entry_list}
use Rattle.persistent_map.specs.Children.{entry_kind, IsMore}
use Rattle.persistent_map.specs.Writes.{edited}
use Rattle.persistent_map.proofs.Adds.{on_ok}
use Rattle.persistent_map.proofs.Entries.{one_stays, one_goes}
use Rattle.persistent_map.proofs.child.AnyChild.edit.Goals as goal

pub returns-in_ok-clone-in-Remove : goal.returns-in_ok-clone-in-Remove
returns-in_ok-clone-in-Remove g c =
    subst (λ x. OnOk c.add.result (IsMore (entry_kind g.E.MapEntry.key g.E.MapEntry.entry_weight) (edited g.E.MapEntry.key g.E.MapEntry.over x (entry_list g.E.MapEntry.key (arc_value c.args.this.now))) c.args.made.now.items c.add.new.made.items)) (sym c.in-Remove.is)
    (on_ok c.add.result (one_stays g.E.MapEntry.key g.E.MapEntry.entry_weight (folded c.in-Remove.name.now) c.in_ok-clone-in-Remove.field-0 c.args.this.now c.args.made.now.items c.add.new.made.items
    (ap (λ k. is_eq (name_order (folded c.in-Remove.name.now) k)) (sym (c.name.ensures ∙ ap g.E.MapEntry.key c.deref.ensures)) ∙ sym (c.is_eq.ensures ∙ ap is_eq c.cmp.ensures) ∙ c.if-is_eq.false)
    c.in_ok-clone-in-Remove.ensures.cases) c.add.ensures)

pub returns-then-is_eq : goal.returns-then-is_eq
returns-then-is_eq g c =
    subst (λ x. IsMore (entry_kind g.E.MapEntry.key g.E.MapEntry.entry_weight) (edited g.E.MapEntry.key g.E.MapEntry.over x (entry_list g.E.MapEntry.key (arc_value c.args.this.now))) c.args.made.now.items c.args.made.now.items) (sym c.in-Remove.is)
    (one_goes g.E.MapEntry.key g.E.MapEntry.entry_weight (folded c.in-Remove.name.now) c.args.this.now c.args.made.now.items
    (ap (λ k. is_eq (name_order (folded c.in-Remove.name.now) k)) (sym (c.name.ensures ∙ ap g.E.MapEntry.key c.deref.ensures)) ∙ sym (c.is_eq.ensures ∙ ap is_eq c.cmp.ensures) ∙ c.if-is_eq.true))
