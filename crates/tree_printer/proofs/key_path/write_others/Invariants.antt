use Rattle.std.proofs.Common.{◌∷◌, take}
use Rattle.std.specs.List.{flat_map}
use Rattle.std.specs.Io.KnownBytes.{Appends}
use Rattle.reply_lines.specs.Replies.{name_text}
use Rattle.tree_printer.proofs.key_path.write_others.Given as goal

-- the text of those so far was written
abbrev pub invariant-loop-name : goal.invariant-loop-name
invariant-loop-name g l = Appends (g.W.Write.contents l.fn.writer) (g.W.Write.contents l.writer) (flat_map (λ name. 92 ∷ name_text name) (take l.name-index l.names))
