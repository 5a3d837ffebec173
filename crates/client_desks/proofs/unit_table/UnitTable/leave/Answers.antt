use Rattle.client_desks.proofs.Tables.{fewer, loses, without}
use Rattle.client_desks.proofs.unit_table.UnitTable.leave.Goals as goal

pub invariant_of-self : goal.invariant_of-self
invariant_of-self c =
    let items = c.self.inside.active.items in
    fewer items c.remove.new.self.items c.self.invariant (λ e h. without c.in-Some.at items e (rw c.remove.ensures.by_index.2 at h))

pub returns-in-Some : goal.returns-in-Some
returns-in-Some c =
    loses c.in-Some.at c.args.self.now c.remove.new.self.items (record { unit = c.args.unit; place = c.args.place }) c.in-Some.ensures.0 c.in-Some.ensures.1
    (rw c.self.view_is at c.remove.ensures.by_index.2)
