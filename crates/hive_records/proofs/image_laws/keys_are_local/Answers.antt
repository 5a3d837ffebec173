use Rattle.hive_records.proofs.Keys.{keys_local, keys_there, keys_trail, keys_lends}
use Rattle.hive_records.proofs.image_laws.keys_are_local.Goals as goal

pub returns-clause-hangs : goal.returns-clause-hangs
returns-clause-hangs c = λ split. keys_local split

pub returns-clause-trail : goal.returns-clause-trail
returns-clause-trail c = λ split cells. keys_trail split cells

pub returns-clause-there : goal.returns-clause-there
returns-clause-there c = λ split. keys_there split

pub returns-clause-lends : goal.returns-clause-lends
returns-clause-lends c = λ split cells. keys_lends split cells
