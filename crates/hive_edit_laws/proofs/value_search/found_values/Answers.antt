use Rattle.hive_edit_laws.proofs.ValueSearch.{no_values, list_there, record_there, value_there, value_absent, value_is}
use Rattle.hive_edit_laws.proofs.value_search.found_values.Goals as goal

pub returns-clause-none : goal.returns-clause-none
returns-clause-none c = λ bytes root minor tree path at found zero name. no_values bytes root minor tree path at found zero name

pub returns-clause-list : goal.returns-clause-list
returns-clause-list c = λ bytes root minor tree path at found some. list_there bytes root minor tree path at found some

pub returns-clause-holds : goal.returns-clause-holds
returns-clause-holds c = λ bytes root minor tree path at found index less. record_there bytes root minor tree path at found index less

pub returns-clause-there : goal.returns-clause-there
returns-clause-there c = λ bytes root minor tree path at found index name less is. value_there bytes root minor tree path at found index name less is

pub returns-clause-absent : goal.returns-clause-absent
returns-clause-absent c = λ bytes root minor tree path at found name apart. value_absent bytes root minor tree path at found name apart

pub returns-clause-is : goal.returns-clause-is
returns-clause-is c = λ bytes root minor tree path name key index at found. value_is bytes root minor tree path name key index at found
