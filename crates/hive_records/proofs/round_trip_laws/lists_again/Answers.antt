use Rattle.hive_records.proofs.ListsAgain.{plain_again, hashed_again, one_plain, one_hashed}
use Rattle.hive_records.proofs.round_trip_laws.lists_again.Goals as goal

pub returns-clause-plain : goal.returns-clause-plain
returns-clause-plain c = λ cells at offsets few are h. plain_again cells at offsets few are h

pub returns-clause-hashed : goal.returns-clause-hashed
returns-clause-hashed c = λ cells at subkey_list few are h. hashed_again cells at subkey_list few are h

pub returns-clause-one_plain : goal.returns-clause-one_plain
returns-clause-one_plain c = λ cells at offsets some few are h. one_plain cells at offsets some few are h

pub returns-clause-one_hashed : goal.returns-clause-one_hashed
returns-clause-one_hashed c = λ cells at subkey_list some few are h. one_hashed cells at subkey_list some few are h
