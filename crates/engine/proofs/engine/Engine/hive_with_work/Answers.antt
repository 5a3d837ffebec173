use Rattle.std.proofs.Common.{◌<◌, ℕ, arith, length, subst, Option, Some, None}
use Rattle.std.specs.Prelude.{IfNone, IfSome}
use Rattle.engine.specs.Shown.{Shown}
use Rattle.engine.specs.Work.{AreFlushed}
use Rattle.engine.proofs.engine.Engine.hive_with_work.Goals as goal

pub returns-clause-none : goal.returns-clause-none
returns-clause-none g c = subst (λ (s : Shown _). IfNone c.hive_with_work.result (AreFlushed s.machine s.base s.opened s.hives 0 (length s.hives))) c.self.view_is c.hive_with_work.ensures.none

some_there : (P : ℕ → Type 0) (most : ℕ) (found : Option ℕ) → IfSome found P → ((i : ℕ) → P i → i < most) → IfSome found (λ i. i < most)
some_there P most None holds less = tt
some_there P most (Some i) holds less = less i holds

pub returns-clause-there : goal.returns-clause-there
returns-clause-there g c =
    let p = c.self.inside.parts in
    let all = c.self.invariant.sound.holds.kept.all in
    subst (λ (s : Shown _). IfSome c.hive_with_work.result (λ i. i < length s.machine.opened)) c.self.view_is
    (some_there _ (length p.store.machine.opened) c.hive_with_work.result c.hive_with_work.ensures.some (λ i next. omega (arith, next.there, all)))
