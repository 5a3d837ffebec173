use Rattle.std.proofs.Common.{ℕ, sym, subst}
use Rattle.crash_model.specs.Promises.{Content, nothing}
use Rattle.change_codec.specs.ModelChanges.{TimedOp}
use Rattle.commit_journal.specs.OnDisk.{is_on, view_at}
use Rattle.commit_journal.specs.OnDisk as disk
use Rattle.commit_journal.specs.Journals.{content_of, view_in_phase, encodings_of}
use Rattle.commit_journal.specs.declared.journal.Phase.{Phase}
use Rattle.commit_journal.specs.declared.extent.Extent.{Extent}
use Rattle.commit_journal.proofs.Calls as calls
use Rattle.commit_journal.proofs.journal.Journal.begin_trim.Goals as goal

pub returns-in-Ok-clause-on : goal.returns-in-Ok-clause-on
returns-in-Ok-clause-on g c = λ faithful on.
    let j = c.args.self.now in
    let st = g.D.Disk.state_at c.args.disk.now (g.D.Disk.clock c.args.disk.now) 0 in
    let quiet = subst (λ (p : Phase). is_on (encodings_of j) (view_in_phase j.on_device p) st) c.requires.quiet on in
    calls.trim_ok (encodings_of j) (content_of j.on_device) nothing j.on_device.gate j.on_device.gate _ _ c.requires.some quiet (c.in-Ok.ensures.done faithful)

pub returns-in-Err-clause-on : goal.returns-in-Err-clause-on
returns-in-Err-clause-on g c = λ faithful on.
    let j = c.args.self.now in
    let n = c.nothing-nothing in
    let st = g.D.Disk.state_at c.args.disk.now (g.D.Disk.clock c.args.disk.now) 0 in
    let new = g.D.Disk.state_at c.write.new.disk (g.D.Disk.clock c.write.new.disk) 0 in
    let quiet = subst (λ (p : Phase). is_on (encodings_of j) (view_in_phase j.on_device p) st) c.requires.quiet on in
    subst (λ (x : Extent). is_on (encodings_of j) (view_at (content_of j.on_device) (content_of x) j.on_device.gate x.gate disk.Phase.Broken) new) (sym c.of.ensures)
    (subst (λ (s : Content TimedOp). is_on (encodings_of j) (view_at (content_of j.on_device) s j.on_device.gate n.result.gate disk.Phase.Broken) new) (sym n.ensures.decodes)
    (subst (λ (k : ℕ). is_on (encodings_of j) (view_at (content_of j.on_device) nothing j.on_device.gate k disk.Phase.Broken) new) (sym n.ensures.gate)
    (calls.trim_failed (encodings_of j) (content_of j.on_device) nothing j.on_device.gate j.on_device.gate _ _ c.requires.some quiet (c.in-Err.ensures.failed faithful))))
