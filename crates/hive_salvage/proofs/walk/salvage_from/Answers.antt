use Rattle.std.proofs.Common.{Bool, [], refl, subst}
use Rattle.std.proofs.lemmas.Result.{on_ok_weaker}
use Rattle.refusals.specs.declared.limits.TheConstants.{MOST_PATH_NAMES}
use Rattle.hive_load_parts.specs.CellReads.{marks_of}
use Rattle.hive_salvage.specs.Salvage.{KeyIs}
use Rattle.hive_salvage.proofs.Telling.{both}
use Rattle.hive_salvage.proofs.walk.salvage_from.Goals as goal

pub returns-in-Ok : goal.returns-in-Ok
returns-in-Ok g c = record {
  kept = on_ok_weaker c.tell_shared.result (λ h. both _ g.met.S.SalvageSink.took_more _ _ _ _ _ _ _ c.in-Ok.ensures.kept h (λ cells shows first rest keys end. (
    first,
    rest,
    marks_of c.salvage_key.new.seen,
    subst (λ (split : Bool). KeyIs split cells MOST_PATH_NAMES [] c.args.node.now (marks_of c.args.seen.now) (marks_of c.salvage_key.new.seen) first) c.has_segments-split.ensures keys,
    end,
    refl,
  ))) c.tell_shared.ensures;
}
