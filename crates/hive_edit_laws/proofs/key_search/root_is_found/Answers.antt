use Rattle.hive_edit_laws.proofs.KeySearch.{root_found}
use Rattle.hive_edit_laws.proofs.key_search.root_is_found.Goals as goal

pub returns : goal.returns
returns c = λ bytes root minor tree h. root_found bytes root minor tree h
