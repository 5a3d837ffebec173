use Rattle.std.proofs.Common.{sym}
use Rattle.std.proofs.lemmas.List.{take_rest}
use Rattle.reg_names.proofs.Parts.{split_at_position, split_with_no_position}
use Rattle.word_syntax.proofs.parts.first_part.Goals as goal

pub returns-in-Some-clause-parts : goal.returns-in-Some-clause-parts
returns-in-Some-clause-parts c = rw take_rest ((split_at_position _ _ _ (sym c.in-Some.ensures)).1)

pub returns-in-None-clause-parts : goal.returns-in-None-clause-parts
returns-in-None-clause-parts c = split_with_no_position _ _ (sym c.in-None.ensures)
