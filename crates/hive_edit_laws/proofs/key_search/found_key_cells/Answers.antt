use Rattle.hive_edit_laws.proofs.KeyCells.{own_kinds, own_values, own_trail, own_once, own_there, lent_there}
use Rattle.hive_edit_laws.proofs.key_search.found_key_cells.Goals as goal

pub returns-clause-own : goal.returns-clause-own
returns-clause-own c = λ bytes root minor tree path at found. own_kinds bytes root minor tree path at found

pub returns-clause-values : goal.returns-clause-values
returns-clause-values c = λ bytes root minor tree path at found. own_values bytes root minor tree path at found

pub returns-clause-trail : goal.returns-clause-trail
returns-clause-trail c = λ bytes root minor tree path at found. own_trail bytes root minor tree path at found

pub returns-clause-once : goal.returns-clause-once
returns-clause-once c = λ bytes root minor tree path at found. own_once bytes root minor tree path at found

pub returns-clause-there : goal.returns-clause-there
returns-clause-there c = λ bytes root minor tree path at found cell i. own_there bytes root minor tree path at found cell i

pub returns-clause-lent : goal.returns-clause-lent
returns-clause-lent c = λ bytes root minor tree path at found cell i. lent_there bytes root minor tree path at found cell i
