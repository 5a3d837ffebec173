use Rattle.std.proofs.lemmas.Result.{IfErr-weaker, IfOk-weaker}
use Rattle.ktm_calls.proofs.registry.Registry.open_handle.Goals as goal

pub returns-clause-opened : goal.returns-clause-opened
returns-clause-opened g c =
    rw (← c.session.view_is) (IfOk-weaker c.open_result.result _ _ (λ made opens. opens c.session.inside.asker c.start_session-opened.new.mine c.start_session-opened.ensures.opens) c.open_result.ensures.opened)

pub returns-clause-denied : goal.returns-clause-denied
returns-clause-denied g c =
    rw (← c.session.view_is) (IfErr-weaker c.open_result.result _ _ (λ why denies. denies c.session.inside.asker c.start_session-opened.new.mine c.start_session-opened.ensures.opens) c.open_result.ensures.denied)
