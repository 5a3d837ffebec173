use Rattle.std.proofs.Common.{◌∙◌, sym, ap, subst}
use Rattle.disk_model.specs.FileState.{at_rest}
use Rattle.change_codec.specs.ModelChanges.{TimedOp}
use Rattle.commit_journal.specs.OnDisk.{JournalView, is_on}
use Rattle.commit_journal.specs.Journals.{journal_view}
use Rattle.commit_journal.specs.Store.{Store, created_bytes, encodings}
use Rattle.commit_journal.proofs.Created.{created_file, created_on}
use Rattle.commit_journal.proofs.creation.JournalImage.write.Goals as goal

pub returns-clause-file : goal.returns-clause-file
returns-clause-file g c = λ faithful.
    let store : Store = record { id = c.args.self.id; hives = c.args.self.hives; layout = c.args.self.layout } in
    let after = c.sync.ensures.faithful faithful in
    created_file store c.deref.result.now (c.deref.ensures.value ∙ c.args.self.whole) _ _ _ _ (c.in_ok-clear.ensures.done (c.write.ensures.faithful after)) (c.in_ok-write.ensures.done after) (c.in_ok-sync.ensures.done faithful)
    ∙ ap (λ (s : Store). at_rest (created_bytes s)) (sym c.found.ensures.store)

pub returns-clause-on : goal.returns-clause-on
returns-clause-on g c = λ faithful.
    let store : Store = record { id = c.args.self.id; hives = c.args.self.hives; layout = c.args.self.layout } in
    let state = g.D.Disk.state_at c.sync.new.disk (g.D.Disk.clock c.sync.new.disk) 0 in
    let after = c.sync.ensures.faithful faithful in
    let file = created_file store c.deref.result.now (c.deref.ensures.value ∙ c.args.self.whole) _ _ _ _ (c.in_ok-clear.ensures.done (c.write.ensures.faithful after)) (c.in_ok-write.ensures.done after) (c.in_ok-sync.ensures.done faithful) in
    let on = created_on store c.args.self.size state file _ _ c.nothing-nothing.ensures.decodes c.nothing-nothing.ensures.gate in
    subst (λ (s : Store). is_on (encodings s) (journal_view c.found.result) state) (sym c.found.ensures.store)
    (subst (λ (v : JournalView TimedOp). is_on (encodings store) v state) (sym c.found.ensures.value) on)
