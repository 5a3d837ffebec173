-- What comes of a recovery by logs that were read.
use Rattle.std.proofs.Common.{◌≡◌, ℕ, List, refl, sym, subst}
use Rattle.hive_recovery.specs.declared.log.Log.{Log}
use Rattle.recovery_report.specs.Recoveries.{IsRecoveryOf}
use Rattle.recovery_report.specs.declared.report.Recovery.{Recovery}
use Rattle.regtx_c.specs.declared.recovery.LogBytes.{LogBytes}
use Rattle.regtx_c.specs.Recoveries.{AreLogs, IsOutcomeOf, no_limits}

pub outcome_of : (file : List ℕ) (logs : List LogBytes) (read lent : List Log) (found : Recovery) → AreLogs logs read → lent ≡ read → IsRecoveryOf file no_limits lent found → IsOutcomeOf file logs found.outcome
outcome_of file logs read lent found are same recovers = (lent, subst (λ (its : List Log). AreLogs logs its) (sym same) are, found, recovers, refl)
