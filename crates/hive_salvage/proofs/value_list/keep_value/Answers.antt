use Rattle.std.proofs.Common.{inl, inr, refl}
use Rattle.std.proofs.lemmas.Result.{on_ok_weaker}
use Rattle.hive_salvage.proofs.Telling.{silent, told, unless_memory}
use Rattle.hive_salvage.proofs.value_list.keep_value.Goals as goal

pub returns-in-Err-clause-kept : goal.returns-in-Err-clause-kept
returns-in-Err-clause-kept g c = on_ok_weaker c.tell.result (λ h. told _ _ _ _ _ _ h.0 (λ cells shows. inr (c.in-Err.why, unless_memory c.in-Err.why h.1 (c.in-Err.ensures.fresh cells shows), refl, refl))) c.tell.ensures

pub returns-clause-kept : goal.returns-clause-kept
returns-clause-kept g c = silent _ _ _ _ (g.met.S.SalvageSink.took_none _) (λ cells shows. let its = c.in-Ok.ensures.fresh cells shows in inl (c.in-Ok.value, its.0, its.1, c.in_ok-values.ensures, refl))
