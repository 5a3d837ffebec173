use Rattle.hive_edit_laws.proofs.CellsShown.{shown_some, shown_here, shown_none}
use Rattle.hive_edit_laws.proofs.list_search.shown_cells.Goals as goal

pub returns-clause-some : goal.returns-clause-some
returns-clause-some c = λ bytes cells shows at its e. shown_some bytes cells shows at its e

pub returns-clause-here : goal.returns-clause-here
returns-clause-here c = λ bytes cells shows at is. shown_here bytes cells shows at is

pub returns-clause-none : goal.returns-clause-none
returns-clause-none c = λ bytes cells shows at is. shown_none bytes cells shows at is
