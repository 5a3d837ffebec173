use Rattle.key_walk.specs.KeyPaths.{names_on}
use Rattle.hive_walk.proofs.Judged.{image_judged, image_refused}
use Rattle.hive_walk.proofs.judgement.judge.Goals as goal

pub returns-clause-stands : goal.returns-clause-stands
returns-clause-stands c =
    image_judged c.args.image.now.bytes c.args.at c.args.minor c.has_segments.result c.has_segments.ensures c.args.levels (names_on c.args.path.now) c.judge_part.result c.judge_part.ensures

pub returns-clause-refused : goal.returns-clause-refused
returns-clause-refused c =
    let shown = c.tiles.ensures.shown in
    image_refused c.args.image.now.bytes c.args.at c.args.minor c.has_segments.result c.has_segments.ensures c.args.levels (names_on c.args.path.now) c.judge_part.result c.judge_part.ensures shown.0 shown.1
