use Rattle.new_file.proofs.making.place.Goals as goal

pub returns-in-Ok-clause-safe : goal.returns-in-Ok-clause-safe
returns-in-Ok-clause-safe g c = c.settle.ensures.added.safe c.args.bytes.now c.name.ensures.safe

pub returns-in-Err-clause-safe : goal.returns-in-Err-clause-safe
returns-in-Err-clause-safe g c = c.give_up.ensures.safe c.args.bytes.now c.name.ensures.safe
