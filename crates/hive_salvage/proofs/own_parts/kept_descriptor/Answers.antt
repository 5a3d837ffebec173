use Rattle.std.proofs.Common.{inl, inr, refl}
use Rattle.hive_salvage.proofs.Telling.{silent, told, unless_memory}
use Rattle.hive_salvage.proofs.own_parts.kept_descriptor.Goals as goal

pub returns-in-Ok-clause-kept : goal.returns-in-Ok-clause-kept
returns-in-Ok-clause-kept g c = silent _ _ _ _ (g.met.S.SalvageSink.took_none _) (λ cells shows marks. inl (c.in-Ok.ensures.reads cells shows marks, refl))

pub returns-clause-kept : goal.returns-clause-kept
returns-clause-kept g c = told _ _ _ _ _ _ c.in_ok-tell.ensures.0 (λ cells shows marks. inr (c.in-Err.why, unless_memory c.in-Err.why c.in_ok-tell.ensures.1 (c.in-Err.ensures.reads cells shows marks), c.in_ok-new.ensures, refl))
