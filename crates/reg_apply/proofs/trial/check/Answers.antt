use Rattle.std.proofs.Common.{inl, subst}
use Rattle.recovery.specs.Shown.{store_of}
use Rattle.std.proofs.lemmas.Result.{IfOk-weaker}
use Rattle.reg_apply.proofs.trial.check.Goals as goal

pub returns-in-Ok-clause-reports : goal.returns-in-Ok-clause-reports
returns-in-Ok-clause-reports g c =
    let D = g.D.Disk in
    let opened = c.in-Ok.opened in
    IfOk-weaker c.check_opened-status.result _ _ (λ status told. inl (store_of opened, opened.found.number, opened.found.trees, (λ f. c.in-Ok.ensures.recovered (subst D.faithful c.into_disk.ensures f)), told)) c.check_opened-status.ensures
