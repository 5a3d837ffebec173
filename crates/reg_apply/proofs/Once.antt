-- How an application ends, for the unit of work that it is for.
use Rattle.std.proofs.Common.{inl, inr, ℕ, List, Some, None}
use Rattle.store_model.specs.Machine.{Machine}
use Rattle.store_change.specs.Reports.{AllOrNothing}
use Rattle.store_change.proofs.Transacting.{keeps_same}
use Rattle.reg_prefixes.specs.declared.prefix.Prefix.{Prefix}
use Rattle.reg_file.specs.declared.file.RegFile.{RegFile}
use Rattle.reg_apply.specs.declared.outcome.ApplyOutcome.{ApplyOutcome}
use Rattle.reg_apply.specs.declared.request.UnitOfWork.{UnitOfWork}
use Rattle.reg_apply.specs.declared.request.UnitOfWork.TheVariants.{Own, Again, Once}
use Rattle.reg_apply.specs.Applied.{AsksTaken, EndsFor, unit_of}
use Rattle.reg_apply.proofs.Finished.{all_or_nothing}

-- however it ends, all was accepted or nothing
pub all_for : (work : UnitOfWork) (prefixes : List Prefix) (moment : ℕ) (file : RegFile) (old new : Machine) (outcome : ApplyOutcome) → EndsFor work prefixes moment file old outcome new → AllOrNothing (AsksTaken prefixes moment (unit_of work) file) moment old new
all_for Own prefixes moment file old new outcome ends = all_or_nothing prefixes moment None file old new outcome ends
all_for (Again unit) prefixes moment file old new outcome ends = all_or_nothing prefixes moment (Some unit) file old new outcome ends
all_for (Once unit) prefixes moment file old new outcome (inl is) = inl (keeps_same old new is.4)
all_for (Once unit) prefixes moment file old new outcome (inr (inl applied)) = all_or_nothing prefixes moment (Some unit) file old new outcome applied.1
all_for (Once unit) prefixes moment file old new outcome (inr (inr refused)) = inl (keeps_same old new refused.3)
