use Rattle.hive_walk.specs.Walks.{IsNoFault}
use Rattle.key_walk.specs.KeyPaths.{names_on}
use Rattle.store_export.proofs.FilePrints.{took_rows}
use Rattle.store_export.proofs.hive_part.walk_part.Goals as goal

pub returns : goal.returns
returns g c = λ tree encodes.
    took_rows g.S.KeySink.Took IsNoFault _ _ c.walk_below.result c.args.part.now.0 c.args.part.now.1.0 c.args.part.now.1.1 (names_on c.args.way.now) tree c.one_tree.ensures.one encodes c.walk_below.ensures.took c.walk_below.ensures.refused
