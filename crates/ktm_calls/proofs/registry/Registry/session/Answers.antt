use Rattle.ktm_calls.proofs.registry.Registry.session.Goals as goal

pub returns-in-Ok-clause-opened : goal.returns-in-Ok-clause-opened
returns-in-Ok-clause-opened g c = rw c.new.ensures (c.in-Ok.ensures.opened c.args.asker c.start_session-opened.new.mine c.start_session-opened.ensures.opens)
