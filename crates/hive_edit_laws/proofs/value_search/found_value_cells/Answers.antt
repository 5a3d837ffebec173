use Rattle.hive_edit_laws.proofs.DataCells.{found_data, found_kind, found_once, found_there}
use Rattle.hive_edit_laws.proofs.value_search.found_value_cells.Goals as goal

pub returns-clause-its_data : goal.returns-clause-its_data
returns-clause-its_data c = λ bytes root minor tree path name key index at found. found_data bytes root minor tree path name key index at found

pub returns-clause-kind : goal.returns-clause-kind
returns-clause-kind c = λ bytes root minor tree path name key index at found. found_kind bytes root minor tree path name key index at found

pub returns-clause-once : goal.returns-clause-once
returns-clause-once c = λ bytes root minor tree path name key index at found. found_once bytes root minor tree path name key index at found

pub returns-clause-there : goal.returns-clause-there
returns-clause-there c = λ bytes root minor tree path name key index at found cell i. found_there bytes root minor tree path name key index at found cell i
