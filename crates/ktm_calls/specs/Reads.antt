-- What plain reads find.
use Rattle.std.specs.Prelude.{ℕ, nat_le, if◌then◌else◌, List, Option, None}
use Rattle.reg_tree.specs.Maps.{TreeMap}
use Rattle.store_model.specs.Machine.{looked_up}
use Rattle.store_model.specs.declared.event.Question.{Question}
use Rattle.store_model.specs.declared.event.ReadResult.{ReadResult}

-- what is read of trees, if it is there, in one of the first `hives` hives, which calls may name
abbrev pub read_within : ℕ → List TreeMap → ℕ → List (List ℕ) → Question → Option ReadResult
read_within hives trees hive path question = if nat_le hives hive then None else looked_up trees hive path question
