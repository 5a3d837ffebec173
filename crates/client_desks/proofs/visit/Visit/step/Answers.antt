use Rattle.client_desks.proofs.Visits.{from_same}
use Rattle.client_desks.proofs.visit.Visit.step.Goals as goal

pub returns-in-Ok-Part : goal.returns-in-Ok-Part
returns-in-Ok-Part c =
    from_same c.take_piece.result c.args.self.now c.take_from.new.lines c.take_from.new.self c.take_piece.new.self
    (rw c.in-Ok-Part.field-0-is at c.in-Ok-Part.ensures.taken).2 (c.take_piece.ensures c.take_from.new.self)
