use Rattle.std.proofs.Common.{sym, subst}
use Rattle.commit_journal.specs.OnDisk.{is_on, view_at, Phase.Broken}
use Rattle.commit_journal.specs.Journals.{content_of, encodings_of}
use Rattle.commit_journal.specs.declared.extent.Extent.{Extent}
use Rattle.commit_journal.proofs.Calls as calls
use Rattle.commit_journal.proofs.journal.Journal.open_gate.Goals as goal

pub returns-in-Ok-clause-on : goal.returns-in-Ok-clause-on
returns-in-Ok-clause-on g c = λ faithful on.
    let j = c.args.self.now in
    let a = c.args.batch.ahead in
    calls.gate_ok (encodings_of j) (content_of j.on_device) (content_of a) j.on_device.gate a.gate _ _ on (c.in-Ok.ensures.done faithful)

pub returns-in-Err-clause-on : goal.returns-in-Err-clause-on
returns-in-Err-clause-on g c = λ faithful on.
    let j = c.args.self.now in
    let a = c.args.batch.ahead in
    let st = g.D.Disk.state_at c.write.new.disk (g.D.Disk.clock c.write.new.disk) 0 in
    subst (λ (s : Extent). is_on (encodings_of j) (view_at (content_of j.on_device) (content_of s) j.on_device.gate s.gate Broken) st) (sym c.of.ensures)
    (calls.gate_failed (encodings_of j) (content_of j.on_device) (content_of a) j.on_device.gate a.gate _ _ on (c.in-Err.ensures.failed faithful))
