use Rattle.std.proofs.Common.{◌≤◌, length, subst, sym}
use Rattle.engine.specs.Shown.{Shown}
use Rattle.engine.proofs.Limits.{limit_fits}
use Rattle.engine.proofs.engine.Engine.limit_history.Goals as goal

pub invariant_of-self : goal.invariant_of-self
invariant_of-self g c = record {
  sound = limit_fits c.self.inside.parts c.limit_history.new.self c.args.limit (subst (λ (s : Shown _). length s.machine.accepted ≤ c.args.limit) (sym c.self.view_is) c.requires.there)
      c.limit_history.ensures.machine c.limit_history.ensures.retained c.self.invariant.sound;
  on_disk = c.self.invariant.on_disk;
  prepared = tt;
}
