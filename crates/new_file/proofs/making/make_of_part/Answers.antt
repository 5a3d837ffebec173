use Rattle.new_file.proofs.making.make_of_part.Goals as goal

pub returns-in-Err-clause-safe : goal.returns-in-Err-clause-safe
returns-in-Err-clause-safe g c = c.give_up.ensures.safe c.args.bytes.now (c.in-Err.ensures.failed.safe c.args.bytes.now c.requires.safe)
