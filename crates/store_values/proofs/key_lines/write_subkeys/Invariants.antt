use Rattle.std.proofs.Common.{take}
use Rattle.std.specs.List.{flat_map}
use Rattle.std.specs.Io.KnownBytes.{Appends}
use Rattle.reg_names.specs.Names.{folded_path}
use Rattle.store_values.specs.Answers.{subkey_line}
use Rattle.store_values.specs.Listed.{subkeys_at}
use Rattle.store_values.proofs.key_lines.write_subkeys.Given as goal

-- the lines of those so far were written
abbrev pub invariant-loop-index : goal.invariant-loop-index
invariant-loop-index g l = Appends (g.W.Write.contents l.fn.writer) (g.W.Write.contents l.writer) (flat_map subkey_line (take l.index (subkeys_at l.tree (folded_path l.path))))
