use Rattle.std.proofs.Common.{◌≡◌, ◌++◌, refl, subst, sym}
use Rattle.reg_tree_parts.specs.Rows.{Row}
use Rattle.hive_load_parts.specs.CellReads.{marks_of}
use Rattle.key_walk.specs.KeyPaths.{names_on}
use Rattle.hive_salvage.specs.Events.{Tells}
use Rattle.hive_salvage.specs.Salvage.{OwnIs}
use Rattle.hive_salvage.proofs.walk.own_key.Goals as goal

pub returns-clause-kept : goal.returns-clause-kept
returns-clause-kept g c =
    let class = c.in-Ok.ensures.kept in
    let descriptor = c.in-Ok-kept_descriptor.ensures.kept in
    let values = c.in-Ok-kept_values.ensures.kept in
    let row : c.in_ok-key.key ≡ record { name = c.in_ok-name.name; class = c.in-Ok.class; flags = c.args.node.now.flags; descriptor = c.in-Ok-kept_descriptor.descriptor; time = c.args.node.now.time; values = c.in-Ok-kept_values.values } = c.in_ok-key.ensures in
    subst (λ (its : Row). Tells g.S.SalvageSink.Took c.args.sink.now c.kept_values.new.sink c.args.image.now.bytes (λ cells told. OwnIs c.args.split cells (names_on c.args.path.now) c.args.node.now (marks_of c.args.seen.now) (marks_of c.kept_values.new.seen) its told)) (sym row)
    (record {
      events = class.events ++ (descriptor.events ++ values.events);
      took = g.met.S.SalvageSink.took_more _ _ _ _ _ class.took (g.met.S.SalvageSink.took_more _ _ _ _ _ descriptor.took values.took);
      so = λ cells shows. (marks_of c.kept_class.new.seen, class.events, descriptor.events, values.events, class.so cells shows, descriptor.so cells shows (marks_of c.kept_class.new.seen), values.so cells shows, c.in_ok-name.ensures, refl, refl, refl);
    })
