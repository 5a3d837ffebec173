use Rattle.hive_edit_laws.proofs.KeyChains.{last_whole, next_whole}
use Rattle.hive_edit_laws.proofs.subkey_edits.new_keys.Goals as goal

pub returns-clause-last : goal.returns-clause-last
returns-clause-last c = λ split cells at parts reads none once. last_whole split cells at parts reads none once

pub returns-clause-next : goal.returns-clause-next
returns-clause-next c = λ split cells home at parts its sub reads whole lists named once. next_whole split cells home at parts its sub reads whole lists named once
