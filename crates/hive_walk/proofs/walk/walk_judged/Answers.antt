use Rattle.std.proofs.Common.{sym, subst, Bool}
use Rattle.hive_walk.specs.Walks.{KeyIsSound}
use Rattle.hive_walk.proofs.Walked.{on_match}
use Rattle.hive_walk.proofs.walk.walk_judged.Goals as goal

pub returns : goal.returns
returns g c = λ cells shows parts below sound.
    on_match _ c.walk_key.result (λ h. h.1)
    (c.walk_key.ensures.answers cells shows parts below (subst (λ (b : Bool). KeyIsSound b cells 512 c.args.at parts below) (sym c.has_segments-split.ensures) sound) (λ cell i. c.in-Ok.ensures.unset cell))
