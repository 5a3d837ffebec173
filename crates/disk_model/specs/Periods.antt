-- The calls of a period of a disk in memory.
use Rattle.std.specs.Prelude.{List, [], ◌∷◌}
use Rattle.disk_model.specs.declared.call_counts.MadeCall.{MadeCall}
use Rattle.disk_model.specs.declared.course.Period.{Period, Begun, Then'}

-- the latest first
abbrev pub made_in : Period → List MadeCall
made_in Begun = []
made_in (Then' shape before made) = made ∷ made_in before
