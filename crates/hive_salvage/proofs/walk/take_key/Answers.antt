use Rattle.std.proofs.Common.{refl}
use Rattle.std.proofs.lemmas.Result.{IfOk-weaker}
use Rattle.hive_load_parts.specs.CellReads.{marks_of}
use Rattle.hive_salvage.proofs.Telling.{both}
use Rattle.hive_salvage.proofs.walk.take_key.Goals as goal

pub returns-in-Ok-clause-kept : goal.returns-in-Ok-clause-kept
returns-in-Ok-clause-kept g c = IfOk-weaker c.kept_subkeys.result _ _ (λ siblings t. both _ g.met.S.SalvageSink.took_more _ _ _ _ _ _ _ c.in-Ok.ensures.kept t (λ cells shows first rest own subkeys.
    (marks_of c.take_row.new.seen, first, rest, own, subkeys, refl))) c.kept_subkeys.ensures.kept
