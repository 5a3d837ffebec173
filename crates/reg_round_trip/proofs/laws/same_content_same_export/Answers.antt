use Rattle.reg_round_trip.proofs.SameExports.{same_export}
use Rattle.reg_round_trip.proofs.laws.same_content_same_export.Goals as goal

pub returns : goal.returns
returns c = same_export
