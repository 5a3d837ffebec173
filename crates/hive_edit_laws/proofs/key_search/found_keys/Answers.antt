use Rattle.hive_edit_laws.proofs.KeySearch.{holds_node, subkeys_read, values_read}
use Rattle.hive_edit_laws.proofs.RowRevisions.{row_found}
use Rattle.hive_edit_laws.proofs.key_search.found_keys.Goals as goal

pub returns-clause-encodes : goal.returns-clause-encodes
returns-clause-encodes c = λ bytes root minor tree path at found tiles. (tiles, found.cells, found.shows, (found.above, found.subkey_list, found.whole, found.is, found.apart))

pub returns-clause-row : goal.returns-clause-row
returns-clause-row c = λ bytes root minor tree path at found. row_found bytes root minor tree path at found

pub returns-clause-node : goal.returns-clause-node
returns-clause-node c = λ bytes root minor tree path at found. holds_node bytes root minor tree path at found

pub returns-clause-subkeys : goal.returns-clause-subkeys
returns-clause-subkeys c = λ bytes root minor tree path at found. subkeys_read bytes root minor tree path at found

pub returns-clause-values : goal.returns-clause-values
returns-clause-values c = λ bytes root minor tree path at found. values_read bytes root minor tree path at found
