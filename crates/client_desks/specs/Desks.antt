-- Desks.
use Rattle.std.specs.Prelude.{ℕ}
use Rattle.client_desks.specs.declared.desk.Desk.{Desk}

-- the place of a desk's client
abbrev pub place_of : Desk → ℕ
place_of desk = desk.slot.now.place
