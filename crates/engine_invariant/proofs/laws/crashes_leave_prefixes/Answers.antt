use Rattle.engine_invariant.proofs.StoreReads.{disk_stands, past_stays}
use Rattle.engine_invariant.proofs.laws.crashes_leave_prefixes.Goals as goal

pub returns : goal.returns
returns c = record {
  safe = λ store machine base opened journal hives states moment kept owner same placed on.
      disk_stands c.leaves.ensures c.files_hold.ensures store machine base opened journal hives states moment kept owner same placed on;
  past = past_stays;
}
