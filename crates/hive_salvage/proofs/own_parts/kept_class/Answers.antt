use Rattle.std.proofs.Common.{inl, refl}
use Rattle.hive_salvage.proofs.Telling.{silent}
use Rattle.hive_salvage.proofs.own_parts.kept_class.Goals as goal

pub returns-in-Ok-clause-kept : goal.returns-in-Ok-clause-kept
returns-in-Ok-clause-kept g c = silent _ _ _ _ (g.met.S.SalvageSink.took_none _) (λ cells shows. inl (c.in-Ok.ensures.reads cells shows, refl))
