use Rattle.std.proofs.Common.{subst}
use Rattle.store_model.specs.Invariant.{InvariantHolds}
use Rattle.engine.specs.Shown.{Shown}
use Rattle.engine.proofs.engine.Engine.keeps_invariant.Goals as goal

pub returns : goal.returns
returns g c = subst (λ (s : Shown _). InvariantHolds s.machine) c.self.view_is c.self.invariant.sound.holds.kept.kept
