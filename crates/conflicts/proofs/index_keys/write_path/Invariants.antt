use Rattle.std.proofs.Common.{◌≡◌, ◌++◌, take}
use Rattle.reg_names.specs.Names.{folded_path}
use Rattle.conflicts.specs.IndexKeys.{path_text}
use Rattle.conflicts.proofs.index_keys.write_path.Given as goal

abbrev pub invariant-loop-name : goal.invariant-loop-name
invariant-loop-name l = l.text.items ≡ l.initial.text.items ++ path_text (folded_path (take l.name-index l.names))
