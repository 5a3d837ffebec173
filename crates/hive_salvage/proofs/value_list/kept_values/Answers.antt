use Rattle.std.proofs.Common.{inl, inr, refl, ap}
use Rattle.std.proofs.lemmas.Result.{IfOk-weaker}
use Rattle.hive_load_parts.specs.CellReads.{marks_of}
use Rattle.hive_salvage.proofs.Telling.{silent, so_too, told, unless_memory}
use Rattle.hive_salvage.proofs.value_list.kept_values.Goals as goal

pub returns-then-count-eq0-clause-kept : goal.returns-then-count-eq0-clause-kept
returns-then-count-eq0-clause-kept g c = silent _ _ _ _ (g.met.S.SalvageSink.took_none _) (λ cells shows. inl (c.if-count-eq0.true, ap (λ v. (marks_of c.args.seen.now, v)) c.new.ensures, refl))

pub returns-in-Ok-clause-kept : goal.returns-in-Ok-clause-kept
returns-in-Ok-clause-kept g c = IfOk-weaker c.with_room.result _ _ (λ values t. so_too _ _ _ _ _ _ t (λ cells shows events its.
    inr (inr (c.in-Ok.list.now, marks_of c.look_once.new.seen, its.0, its.1, c.if-count-eq0.false, c.in-Ok.ensures.reads cells shows, its.2, its.3, its.4)))) c.with_room.ensures.kept

pub returns-clause-kept : goal.returns-clause-kept
returns-clause-kept g c = told _ _ _ _ _ _ c.in_ok-tell.ensures.0 (λ cells shows. inr (inl (c.in-Err.why, c.if-count-eq0.false, unless_memory c.in-Err.why c.in_ok-tell.ensures.1 (c.in-Err.ensures.reads cells shows), c.new-2.ensures, refl)))
