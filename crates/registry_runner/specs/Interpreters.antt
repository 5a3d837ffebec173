-- What a script of the program shows of its run.
use Rattle.std.specs.Prelude.{ℕ, Bool, List}
use Rattle.reg_tree.specs.Maps.{TreeMap}
use Rattle.engine_invariant.specs.Engines.{EngineView}
use Rattle.histories.specs.Points.{HistoryEntry}
use Rattle.registry_lines.specs.Interpreters.{script_of}
use Rattle.registry_lines.specs.declared.script.Script.{Script as Shown}
use Rattle.registry_runner.specs.Parts.{Part}

-- the part of a run that comes after this past, whose registry's history begins here, and its list of changes on these
-- trees after this number
abbrev pub part_of : {O : Type 0} → List HistoryEntry → Bool → EngineView → List TreeMap → ℕ → ℕ → Shown O → Part
part_of past sole origin trees number hives shown = record { past = past; sole = sole; start = origin; trees = trees; number = number; hives = hives; script = script_of shown }
