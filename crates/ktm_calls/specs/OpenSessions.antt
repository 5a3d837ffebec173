-- The numbers of the sessions that are open.
use Rattle.std.specs.Prelude.{ℕ, ◌<◌, ⊤}
use Rattle.std.specs.List.{All}
use Rattle.store_model.specs.Machine.{Machine}
use Rattle.store_model.specs.declared.event.Event.{Event}
use Rattle.store_model.specs.declared.event.Event.TheVariants as event

-- the number of each open session is below this one
abbrev pub AreBelow : ℕ → Machine → Type 0
AreBelow bound machine = All (λ session. session < bound) machine.sessions

-- if an event opens a session, the session's number is below this one
abbrev pub OpensBelow : ℕ → Event → Type 0
OpensBelow bound (event.StartSession session) = session < bound
OpensBelow bound _ = ⊤
