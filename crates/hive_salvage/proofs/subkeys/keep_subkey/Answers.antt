use Rattle.std.proofs.Common.{inl, inr, refl}
use Rattle.std.proofs.lemmas.Result.{on_ok_weaker}
use Rattle.hive_salvage.proofs.Telling.{silent, told, unless_memory}
use Rattle.hive_salvage.proofs.subkeys.keep_subkey.Goals as goal

pub returns-in_ok-push-in-Ok-clause-kept : goal.returns-in_ok-push-in-Ok-clause-kept
returns-in_ok-push-in-Ok-clause-kept g c = silent _ _ _ _ (g.met.S.SalvageSink.took_none _) (λ cells shows. inl (c.in-Ok.name, c.in-Ok.ensures.taken cells shows, c.in_ok-push-in-Ok.ensures.items, refl))

pub returns-in-Err-clause-kept : goal.returns-in-Err-clause-kept
returns-in-Err-clause-kept g c = on_ok_weaker c.tell.result (λ h. told _ _ _ _ _ _ h.0 (λ cells shows. inr (c.in-Err.why, unless_memory c.in-Err.why h.1 (c.in-Err.ensures.taken cells shows), refl, refl))) c.tell.ensures
