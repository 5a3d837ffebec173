use Rattle.std.proofs.lemmas.Result.{IfErr-weaker}
use Rattle.registry_lines.proofs.Hearing.{on_ok, probes, told_sound}
use Rattle.registry_lines.proofs.caller.Caller.check_not_faulted.Goals as goal

pub returns-in-Ok-clause-probes : goal.returns-in-Ok-clause-probes
returns-in-Ok-clause-probes g c =
    let O = g.O.Origin in
    probes g.O.Start.sole g.O.Start.start O.trees O.number O.hives c.args.session.now.seen c.probe.new.session.seen c.nil.result c.probe.result c.probe.ensures.told c.probe.ensures.denied

pub returns-in-Err-clause-probes : goal.returns-in-Err-clause-probes
returns-in-Err-clause-probes g c =
    let O = g.O.Origin in
    probes g.O.Start.sole g.O.Start.start O.trees O.number O.hives c.args.session.now.seen c.probe.new.session.seen c.nil.result c.probe.result c.probe.ensures.told c.probe.ensures.denied

pub returns-in-Ok-clause-sound : goal.returns-in-Ok-clause-sound
returns-in-Ok-clause-sound g c =
    let O = g.O.Origin in
    told_sound g.O.Start.sole g.O.Start.start O.trees O.number O.hives c.args.session.now.seen c.probe.new.session.seen c.nil.result c.in-Ok._told c.in-Ok.ensures.told c.in-Ok.ensures.granted

pub returns-in-Err-clause-sound : goal.returns-in-Err-clause-sound
returns-in-Err-clause-sound g c =
    let O = g.O.Origin in
    on_ok c.unless_closed.result _ _ (λ all. all g.O.Start.sole g.O.Start.start O.trees O.number O.hives c.args.session.now.seen c.probe.new.session.seen c.nil.result c.in-Err.ensures.denied) c.unless_closed.ensures.sound

pub returns-in-Err-clause-refused : goal.returns-in-Err-clause-refused
returns-in-Err-clause-refused g c =
    let O = g.O.Origin in
    IfErr-weaker c.unless_closed.result _ _ (λ why all. all g.O.Start.sole g.O.Start.start O.trees O.number O.hives c.args.session.now.seen c.probe.new.session.seen c.nil.result c.in-Err.ensures.denied) c.unless_closed.ensures.refused
