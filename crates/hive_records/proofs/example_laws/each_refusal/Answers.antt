use Rattle.hive_records.proofs.Samples.{no_cell_refused, empty_refused, handle_refused, odd_refused, backslash_refused, values_refused, no_list_refused, lists_refused, total_refused}
use Rattle.hive_records.proofs.example_laws.each_refusal.Goals as goal

pub returns-clause-offset : goal.returns-clause-offset
returns-clause-offset c = no_cell_refused

pub returns-clause-empty : goal.returns-clause-empty
returns-clause-empty c = empty_refused

pub returns-clause-handle : goal.returns-clause-handle
returns-clause-handle c = handle_refused

pub returns-clause-odd : goal.returns-clause-odd
returns-clause-odd c = odd_refused

pub returns-clause-backslash : goal.returns-clause-backslash
returns-clause-backslash c = backslash_refused

pub returns-clause-values : goal.returns-clause-values
returns-clause-values c = values_refused

pub returns-clause-list : goal.returns-clause-list
returns-clause-list c = no_list_refused

pub returns-clause-inside : goal.returns-clause-inside
returns-clause-inside c = lists_refused

pub returns-clause-total : goal.returns-clause-total
returns-clause-total c = total_refused
