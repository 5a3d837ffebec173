use Rattle.hive_edit_laws.proofs.KeySearch.{subkey_node, subkey_there, subkey_absent}
use Rattle.hive_edit_laws.proofs.key_search.found_subkeys.Goals as goal

pub returns-clause-node : goal.returns-clause-node
returns-clause-node c = λ bytes root minor tree path at found offset i. subkey_node bytes root minor tree path at found offset i

pub returns-clause-there : goal.returns-clause-there
returns-clause-there c = λ bytes root minor tree path at found offset name i is. subkey_there bytes root minor tree path at found offset name i is

pub returns-clause-absent : goal.returns-clause-absent
returns-clause-absent c = λ bytes root minor tree path at found name apart rest. subkey_absent bytes root minor tree path at found name apart rest
