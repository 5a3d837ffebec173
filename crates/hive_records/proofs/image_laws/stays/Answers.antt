use Rattle.hive_records.proofs.Images.{image_stays}
use Rattle.hive_records.proofs.image_laws.stays.Goals as goal

pub returns : goal.returns
returns c = λ old new before after h g split at parts below w stay. image_stays old new before after h g split at parts below w stay
