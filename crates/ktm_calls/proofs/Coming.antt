-- The change that was told before it is accepted.
use Rattle.std.proofs.Common.{◌≡◌, Option, Some, None}
use Rattle.std.specs.Option.{option_map}
use Rattle.store_model.specs.Machine.{Machine}
use Rattle.transactions.specs.Prepared.{AcceptsJust, change_and_trees}
use Rattle.transactions.specs.declared.prepared.Next.{Next}
use Rattle.ktm_calls.specs.Moments.{with_next}

-- just the change that was told is accepted
pub accepts_next : (old new : Machine) (next : Option Next) → AcceptsJust (option_map change_and_trees next) old new → new.accepted ≡ with_next old.accepted next
accepts_next old new None h = h
accepts_next old new (Some n) h = h.1
