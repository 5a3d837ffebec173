use Rattle.std.proofs.Common.{◌++◌, ℕ, refl, subst}
use Rattle.std.specs.FinMap as finite
use Rattle.hive_load_parts.specs.CellReads.{marks_of}
use Rattle.key_walk.specs.KeyPaths.{names_on}
use Rattle.hive_salvage.specs.Readings.{ValuesAre}
use Rattle.std.proofs.lemmas.Result.{IfOk-weaker}
use Rattle.hive_salvage.proofs.value_list.with_room.Goals as goal

pub returns-clause-kept : goal.returns-clause-kept
returns-clause-kept g c =
    let room = c.in_ok-tell_room.ensures in
    IfOk-weaker c.listed.result _ _ (λ values its. record {
      events = room.0 ++ its.events;
      took = g.met.S.SalvageSink.took_more _ _ _ _ _ room.1 its.took;
      so = λ cells shows. (room.0, its.events, room.2, subst (λ (n : ℕ). ValuesAre c.args.split cells (names_on c.args.path.now) c.args.list.now n (marks_of c.args.seen.now, finite.empty) (marks_of c.listed.new.seen, values) its.events) c.min-room.ensures (its.so cells shows), refl);
    }) c.listed.ensures.kept
