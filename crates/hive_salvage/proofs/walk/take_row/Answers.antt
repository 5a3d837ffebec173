use Rattle.std.proofs.Common.{◌++◌, ◌∷◌, [], refl}
use Rattle.key_walk.specs.KeyPaths.{names_on}
use Rattle.hive_salvage.specs.Events.{found}
use Rattle.hive_salvage.proofs.walk.take_row.Goals as goal

pub returns-in-Ok-found-clause-kept : goal.returns-in-Ok-found-clause-kept
returns-in-Ok-found-clause-kept g c =
    let own = c.in-Ok.ensures.kept in record {
      events = own.events ++ found (names_on c.args.path.now, c.in-Ok.key) ∷ [];
      took = g.met.S.SalvageSink.took_more _ _ _ _ _ own.took c.in-Ok-found.ensures;
      so = λ cells shows. (c.in-Ok.key, own.events, own.so cells shows, refl);
    }
