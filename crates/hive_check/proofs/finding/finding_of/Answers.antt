use Rattle.std.proofs.Common.{subst}
use Rattle.hive_check.specs.Findings.{BinsAreOf}
use Rattle.hive_check.proofs.finding.finding_of.Goals as goal

pub returns-in-Ok : goal.returns-in-Ok
returns-in-Ok c = λ file read. c.finding_in.ensures file (subst (BinsAreOf file) c.in-Ok.is read)
