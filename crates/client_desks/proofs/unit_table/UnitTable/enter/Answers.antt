use Rattle.std.proofs.Common.{◌≡◌, List, sym, subst, true}
use Rattle.client_desks.specs.Units.{HaveOnePlace, IsElsewhere}
use Rattle.client_desks.specs.declared.unit_table.ActiveUnit.{ActiveUnit}
use Rattle.client_desks.proofs.Tables.{added}
use Rattle.client_desks.proofs.unit_table.UnitTable.enter.Goals as goal
use Rattle.client_desks.proofs.unit_table.UnitTable.enter.Goals.{in-Ok, in-Err}

pub invariant_of-self : goal.invariant_of-self
invariant_of-self c =
    let items = c.self.inside.active.items in
    let none : ¬ (IsElsewhere items c.args.place c.args.unit) = λ h.
    let found : c.is_elsewhere.result ≡ true = c.is_elsewhere.ensures.1 (subst (λ (xs : List ActiveUnit). IsElsewhere xs c.args.place c.args.unit) c.self.view_is h) in cc in
    elim c.match-push.branch [
      | in-Ok w ↦ subst HaveOnePlace (sym w.in-Ok.ensures.items) (added items (record { unit = c.args.unit; place = c.args.place }) c.self.invariant none)
      | in-Err w ↦ subst HaveOnePlace (sym w.in-Err.ensures.items) c.self.invariant
    ]

pub returns-clause-one_place : goal.returns-clause-one_place
returns-clause-one_place c =
    let items = c.self.inside.active.items in
    let none : ¬ (IsElsewhere items c.args.place c.args.unit) = λ h.
    let found : c.is_elsewhere.result ≡ true = c.is_elsewhere.ensures.1 (subst (λ (xs : List ActiveUnit). IsElsewhere xs c.args.place c.args.unit) c.self.view_is h) in cc in
    elim c.match-push.branch [
      | in-Ok w ↦ subst HaveOnePlace (sym w.in-Ok.ensures.items) (added items (record { unit = c.args.unit; place = c.args.place }) c.self.invariant none)
      | in-Err w ↦ subst HaveOnePlace (sym w.in-Err.ensures.items) c.self.invariant
    ]
