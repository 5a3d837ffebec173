use Rattle.store_model.proofs.Accepting.{bounds_stay, openings_stay}
use Rattle.store_model.proofs.laws.openings_stay.Goals as goal

pub returns-clause-opening : goal.returns-clause-opening
returns-clause-opening c old new = openings_stay old new

pub returns-clause-bounds : goal.returns-clause-bounds
returns-clause-bounds c old new = bounds_stay old new
