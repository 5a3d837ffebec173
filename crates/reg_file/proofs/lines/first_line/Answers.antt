use Rattle.std.proofs.Common.{◌==◌, sym}
use Rattle.std.proofs.lemmas.List.{take_rest}
use Rattle.reg_names.proofs.Parts.{split_at_position, split_with_no_position}
use Rattle.reg_file.proofs.lines.first_line.Goals as goal

pub returns-in-Some-clause-lines : goal.returns-in-Some-clause-lines
returns-in-Some-clause-lines c = rw take_rest (split_at_position (λ byte. byte == 10) c.args.bytes.now c.in-Some.at (sym c.in-Some.ensures)).1

pub returns-in-None-clause-lines : goal.returns-in-None-clause-lines
returns-in-None-clause-lines c = split_with_no_position _ _ (sym c.in-None.ensures)
