use Rattle.std.proofs.Common.{ℕ, refl, sym, subst}
use Rattle.crash_model.specs.Promises.{Content, nothing}
use Rattle.change_codec.specs.ModelChanges.{TimedOp}
use Rattle.commit_journal.specs.OnDisk.{is_on, view_at, Phase.AtRest, Phase.TrimWritten, Phase.Broken}
use Rattle.commit_journal.specs.Journals.{content_of, encodings_of}
use Rattle.commit_journal.specs.declared.extent.Extent.{Extent}
use Rattle.commit_journal.proofs.Calls as calls
use Rattle.commit_journal.proofs.journal.Journal.sync_trim.Goals as goal

pub returns-in-Ok-clause-on : goal.returns-in-Ok-clause-on
returns-in-Ok-clause-on g c = λ faithful on.
    let j = c.args.self.now in
    let n = c.nothing-nothing in
    let st = g.D.Disk.state_at c.sync.new.disk (g.D.Disk.clock c.sync.new.disk) 0 in
    subst (λ (s : Content TimedOp). is_on (encodings_of j) (view_at s nothing n.result.gate n.result.gate AtRest) st) (sym n.ensures.decodes)
    (subst (λ (k : ℕ). is_on (encodings_of j) (view_at nothing nothing k k AtRest) st) (sym n.ensures.gate)
    (calls.trim_synced (encodings_of j) (content_of j.on_device) j.on_device.gate _ _ nothing on (c.in-Ok.ensures.done faithful)))

pub returns-in-Err-clause-on : goal.returns-in-Err-clause-on
returns-in-Err-clause-on g c = λ faithful on.
    let j = c.args.self.now in
    let n = c.nothing-nothing in
    let st = g.D.Disk.state_at c.sync.new.disk (g.D.Disk.clock c.sync.new.disk) 0 in
    subst (λ (x : Extent). is_on (encodings_of j) (view_at (content_of j.on_device) (content_of x) j.on_device.gate x.gate Broken) st) (sym c.of.ensures)
    (subst (λ (s : Content TimedOp). is_on (encodings_of j) (view_at (content_of j.on_device) s j.on_device.gate n.result.gate Broken) st) (sym n.ensures.decodes)
    (subst (λ (k : ℕ). is_on (encodings_of j) (view_at (content_of j.on_device) nothing j.on_device.gate k Broken) st) (sym n.ensures.gate)
    (calls.sync_failed (encodings_of j) (content_of j.on_device) nothing j.on_device.gate 64 _ _ TrimWritten refl on (c.in-Err.ensures.failed faithful))))
