use Rattle.store_model.specs.Invariant.{handle_in}
use Rattle.store_model.proofs.TransactionChanges.{way}
use Rattle.store_model.proofs.Handles.{counted, numbers_rise, still_gone, gone_for_good, closed_gone, ended_gone, not_own, not_found}
use Rattle.store_model.proofs.laws.handles_are_given_once.Goals as goal

pub returns-clause-step : goal.returns-clause-step
returns-clause-step c = λ old new e r s. counted old new (handle_in r) (way old new e r s)

pub returns-clause-run : goal.returns-clause-run
returns-clause-run c = numbers_rise

pub returns-clause-closed : goal.returns-clause-closed
returns-clause-closed c = closed_gone

pub returns-clause-ended : goal.returns-clause-ended
returns-clause-ended c = ended_gone

pub returns-clause-gone : goal.returns-clause-gone
returns-clause-gone c = λ old new e r tx g s. still_gone old new (handle_in r) tx (way old new e r s) g

pub returns-clause-for_good : goal.returns-clause-for_good
returns-clause-for_good c = gone_for_good

pub returns-clause-answered : goal.returns-clause-answered
returns-clause-answered c = not_own

pub returns-clause-not_found : goal.returns-clause-not_found
returns-clause-not_found c = not_found
