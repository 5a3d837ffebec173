use Rattle.std.proofs.Common.{inl, inr}
use Rattle.std.proofs.lemmas.Result.{IfOk-weaker}
use Rattle.store_values.proofs.read.list_key.Goals as goal

pub returns-in-Ok-clause-reports : goal.returns-in-Ok-clause-reports
returns-in-Ok-clause-reports g c =
    let found = c.in-Ok.ensures.recovers in
    IfOk-weaker c.print_key-status.result _ _ (λ status told. inl (found.0, c.in-Ok.tree, found.1, found.2, told)) c.print_key-status.ensures

pub returns-in-Err-clause-reports : goal.returns-in-Err-clause-reports
returns-in-Err-clause-reports g c = IfOk-weaker c.print_refusal-status.result _ _ (λ status told. inr (c.in-Err.refusal, c.in-Err.ensures.fails, told)) c.print_refusal-status.ensures
