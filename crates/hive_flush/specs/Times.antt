-- When a hive was last written.
use Rattle.std.specs.Prelude.{ℕ, ◌==◌, if◌then◌else◌, Bool, List, [], ◌∷◌}
use Rattle.std.specs.List.{list_any}
use Rattle.reg_tree.specs.declared.element.Element.{Element}
use Rattle.change_codec.specs.Changes.{hives_of}
use Rattle.hive_flush.specs.declared.hive.HiveFile.{HiveFile}

-- the last written time of the base block with which the next flush ends
abbrev pub time_of : HiveFile → ℕ
time_of file = file.writer.block.last_written

-- a change has an operation on a hive
abbrev pub names_hive : ℕ → Element → Bool
names_hive hive change = list_any (λ one. one == hive) (hives_of change)

-- the moment of the last of some changes that has an operation on a hive; if none has, the time before
abbrev pub time_after : ℕ → List Element → ℕ → ℕ
time_after hive [] before = before
time_after hive (change ∷ changes) before = time_after hive changes (if names_hive hive change then change.moment else before)
