use Rattle.std.proofs.Common.{refl}
use Rattle.store_model.specs.declared.event.Event.TheVariants as event
use Rattle.ktm_calls.specs.declared.registry.Denied.TheVariants as denied
use Rattle.ktm_calls.proofs.Seen.{lacks_nothing}
use Rattle.registry_lines.proofs.script.Script.begin.Goals as goal

pub returns-in_default-clause-refused : goal.returns-in_default-clause-refused
returns-in_default-clause-refused g c =
    let first = event.StartSession 0 in
    (first, tt, denied.NoMemory, lacks_nothing g.O.Start.sole c.args.asker first, refl)
