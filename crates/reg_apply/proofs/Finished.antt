-- How an application ends.
use Rattle.std.proofs.Common.{inl, inr, ℕ, List, Option, refl}
use Rattle.store_model.specs.Machine.{Machine}
use Rattle.store_change.specs.Commits.{FailsToCommit}
use Rattle.store_change.specs.Reports.{AllOrNothing}
use Rattle.reg_prefixes.specs.declared.prefix.Prefix.{Prefix}
use Rattle.reg_file.specs.declared.file.RegFile.{RegFile}
use Rattle.reg_apply.specs.declared.outcome.ApplyOutcome.{ApplyOutcome}
use Rattle.reg_apply.specs.declared.outcome.ApplyOutcome.TheVariants.{Applied, BadFile, NoHive, Denied, Refused}
use Rattle.reg_apply.specs.Applied.{AsksTaken, EndsApplication}

-- however it ends, all was accepted or nothing
pub all_or_nothing : (prefixes : List Prefix) (moment : ℕ) (unit : Option (List ℕ)) (file : RegFile) (old new : Machine) (outcome : ApplyOutcome) → EndsApplication prefixes moment unit file old outcome new → AllOrNothing (AsksTaken prefixes moment unit file) moment old new
all_or_nothing prefixes moment unit file old new (Applied number) ends = inr (ends.3, ends.0.ops, (ends.0, ends.2, ends.4, refl), ends.5.accepts)
all_or_nothing prefixes moment unit file old new (BadFile fault) ends = inl ends.0
all_or_nothing prefixes moment unit file old new (NoHive line) ends = inl ends.0
all_or_nothing prefixes moment unit file old new (Denied line why) ends = inl ends.0
all_or_nothing prefixes moment unit file old new (Refused why) (inl lacking) = inl lacking.1
all_or_nothing prefixes moment unit file old new (Refused why) (inr failed) = by_case failed.5
  where
    by_case : FailsToCommit old failed.3 moment failed.0.ops why new → AllOrNothing (AsksTaken prefixes moment unit file) moment old new
    by_case (inl none) = inl none.0
    by_case (inr accepts) = inr (failed.3, failed.0.ops, (failed.0, failed.2, failed.4, refl), accepts.0)
