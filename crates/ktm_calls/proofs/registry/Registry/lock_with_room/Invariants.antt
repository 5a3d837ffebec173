use Rattle.std.specs.Prelude.{◌≡◌, IfSome}
use Rattle.ktm_calls.specs.Room.{IsStuck}
use Rattle.ktm_calls.proofs.registry.Registry.lock_with_room.Given as goal

-- if it was tried to make room, no step could free any at the end of a beginning of the history
abbrev pub invariant-loop : goal.invariant-loop
invariant-loop g l = IfSome l.tried (λ tried. (tried.book ≡ g.O.Start.history) × IsStuck g.O.Start.start tried.log)
