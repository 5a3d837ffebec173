-- A session's reader.
use Rattle.std.specs.Prelude.{◌≡◌, ◌≢◌, ℕ, ◌<◌, List, [], ◌++◌, Option, take}
use Rattle.client_desks.specs.Lines.{IsLine}
use Rattle.client_desks.specs.declared.desk_reader.DeskReader.{DeskReader}
use Rattle.client_desks.specs.declared.order.InputEnd.{InputEnd}

-- why a reader hands out no further line, if that is so
abbrev pub why_ended : {R : Type 0} → DeskReader R → Option InputEnd
why_ended reader = reader.end

-- what a reader has yet to hand out of its line
abbrev pub line_left : {R : Type 0} → DeskReader R → List ℕ
line_left reader = reader.line.rest

-- so many of these bytes were handed out: the next ones of the line, if something was left of it, and else the first ones
-- of a whole line; and this is left
abbrev pub HandsOut : List ℕ → ℕ → List ℕ → List ℕ → Type 0
HandsOut left count bytes rest =
    (left ≢ [] → left ≡ take count bytes ++ rest) × (left ≡ [] → 0 < count → IsLine (take count bytes ++ rest))
