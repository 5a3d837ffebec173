use Rattle.std.proofs.Common.{◌≡◌, ◌+◌, ◌≤◌, false, None}
use Rattle.std.specs.Option.{option_copied}
use Rattle.reg_file.specs.Files.{file_from, onto_file}
use Rattle.reg_file.specs.Lines.{lines_left}
use Rattle.reg_file.specs.Views.{bytes_left}
use Rattle.reg_file.proofs.file.read_statements.Given as goal

abbrev pub invariant-lines : goal.invariant-lines
invariant-lines l =
    record {
      file : onto_file l.statements (file_from l.old l.has_key l.number l.item (lines_left l.lines.encoding (option_copied l.lines.rest))) ≡ file_from l.old false 2 None (lines_left l.fn.lines.encoding (option_copied l.fn.lines.rest));
      number : l.number + bytes_left (option_copied l.lines.rest) ≤ bytes_left (option_copied l.fn.lines.rest) + 2;
    }

abbrev pub decreases-lines : goal.decreases-lines
decreases-lines l = bytes_left (option_copied l.lines.rest)
