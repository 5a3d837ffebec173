-- All is accepted or nothing, also after steps that accept nothing.
use Rattle.std.proofs.Common.{inl, inr, ℕ, List}
use Rattle.reg_tree.specs.declared.op.Op.{Op}
use Rattle.store_model.specs.Machine.{Machine}
use Rattle.store_change.specs.Commits.{KeepsAccepted}
use Rattle.store_change.specs.Reports.{AllOrNothing}
use Rattle.store_change.proofs.Transacting.{keeps_on}
use Rattle.store_change.proofs.Waiting.{accepts_on}

pub all_on : (may_ask : Machine → List ℕ → List Op → Type 0) (moment : ℕ) (old mid new : Machine) → AllOrNothing may_ask moment old mid → KeepsAccepted mid new → AllOrNothing may_ask moment old new
all_on may_ask moment old mid new (inl nothing) keeps = inl (keeps_on old mid new nothing keeps)
all_on may_ask moment old mid new (inr all) keeps = inr (all.0, all.1, all.2, accepts_on old mid new all.0 moment all.1 all.3 keeps)
