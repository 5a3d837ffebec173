use Rattle.std.proofs.Common.{◌+◌, List, ℕ, inl, sym, subst}
use Rattle.crash_model.specs.Promises.{under_way, BeginsBatch}
use Rattle.disk_model.specs.FileState.{Writes, MayWrite}
use Rattle.change_codec.specs.ModelChanges.{timed_elements}
use Rattle.commit_journal.specs.Journals.{content_of, choice_of, encodings_of}
use Rattle.commit_journal.specs.declared.extent.Extent.{Extent}
use Rattle.commit_journal.proofs.Begins.{begins, body_ok, body_failed}
use Rattle.commit_journal.proofs.journal.Journal.begin_batch.Goals as goal

pub returns-in-Ok-clause-says : goal.returns-in-Ok-clause-says
returns-in-Ok-clause-says g c =
    let j = c.args.self.now in
    let made = c.in_ok-bytes in
    inl (begins (encodings_of j) j.on_device c.args.first c.args.handed.now made.bytes.items made.batch.ahead made.ensures.ready j.phase c.requires.quiet)

pub returns-in-Ok-clause-on : goal.returns-in-Ok-clause-on
returns-in-Ok-clause-on g c = λ faithful on.
    let j = c.args.self.now in
    let made = c.in_ok-bytes in
    let h = c.requires.handed in
    let old = g.D.Disk.state_at c.args.disk.now (g.D.Disk.clock c.args.disk.now) 0 in
    let new = g.D.Disk.state_at c.write.new.disk (g.D.Disk.clock c.write.new.disk) 0 in
    body_ok (encodings_of j) j.on_device c.args.first c.args.handed.now made.bytes.items made.batch.ahead made.ensures.ready h.number h.continue_at j.phase c.requires.quiet old new on
    (subst (λ (l : List ℕ). Writes (j.on_device.gate + 1) l old new) c.deref.ensures.value (c.in-Ok.ensures.done faithful))

pub returns-clause-says : goal.returns-clause-says
returns-clause-says g c =
    let j = c.args.self.now in
    let made = c.in_ok-bytes in
    inl (subst (λ (x : Extent). BeginsBatch c.args.first (timed_elements c.args.handed.now) (choice_of j) (under_way (content_of j.on_device) (content_of x))) (sym c.of.ensures)
    (begins (encodings_of j) j.on_device c.args.first c.args.handed.now made.bytes.items made.batch.ahead made.ensures.ready j.phase c.requires.quiet))

pub returns-clause-on : goal.returns-clause-on
returns-clause-on g c = λ faithful on.
    let j = c.args.self.now in
    let made = c.in_ok-bytes in
    let h = c.requires.handed in
    let old = g.D.Disk.state_at c.args.disk.now (g.D.Disk.clock c.args.disk.now) 0 in
    let new = g.D.Disk.state_at c.write.new.disk (g.D.Disk.clock c.write.new.disk) 0 in
    body_failed (encodings_of j) j.on_device c.args.first c.args.handed.now made.bytes.items made.batch.ahead made.ensures.ready h.number h.continue_at j.phase c.requires.quiet old new on c.of.result.value c.of.ensures
    (subst (λ (l : List ℕ). MayWrite (j.on_device.gate + 1) l old new) c.deref.ensures.value (c.in-Err.ensures.failed faithful))
