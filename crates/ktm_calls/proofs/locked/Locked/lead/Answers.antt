use Rattle.ktm_calls.proofs.locked.Locked.lead.Goals as goal

pub returns-in_default-clause-ends : goal.returns-in_default-clause-ends
returns-in_default-clause-ends g c = c.lacks_memory.ensures.ends c.args.number c.args.mine.now c.serve.new.mine
