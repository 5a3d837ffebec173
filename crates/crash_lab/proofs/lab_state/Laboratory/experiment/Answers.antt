use Rattle.std.proofs.Common.{ap, sym, subst}
use Rattle.crash_lab.specs.LabStates.{lab_state_of}
use Rattle.crash_lab.specs.Experiments.{Experiments, IsFlushedWhole, Replies}
use Rattle.crash_lab.proofs.lab_state.Laboratory.experiment.Goals as goal

pub returns-in-FlushWhole : goal.returns-in-FlushWhole
returns-in-FlushWhole c =
    let old = lab_state_of c.args.self.now in
    let new = lab_state_of c.flush_whole.new.self in
    subst (λ line. Experiments old line c.reported-in-FlushWhole.result new) (sym c.in-FlushWhole.is)
    (subst (λ reported. Replies (IsFlushedWhole old.script c.in-FlushWhole.hive) old reported new) (sym c.reported-in-FlushWhole.ensures)
    (c.flush_whole.ensures.reported, ap (λ device. device.points) c.flush_whole.ensures.device, c.flush_whole.ensures.limit))
