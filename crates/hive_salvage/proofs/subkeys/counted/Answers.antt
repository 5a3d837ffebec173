use Rattle.std.proofs.Common.{◌++◌, refl}
use Rattle.hive_salvage.proofs.subkeys.counted.Goals as goal

pub returns-clause-kept : goal.returns-clause-kept
returns-clause-kept g c =
    let t = c.in_ok-listed.ensures.kept in
    let u = c.in_ok-tell_count.ensures in record {
      events = t.events ++ u.0;
      took = g.met.S.SalvageSink.took_more _ _ _ _ _ t.took u.1;
      so = λ cells shows. (c.in_ok-listed.listed, t.events, u.0, t.so cells shows, u.2, refl);
    }
