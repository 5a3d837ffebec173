use Rattle.std.proofs.Common.{◌≡◌, ◌∙◌, ◌+◌, ◌≤◌, ℕ, List, length, ap, subst, sym}
use Rattle.reg_tree.specs.declared.element.Element.{Element}
use Rattle.crash_model.specs.Promises.{Choice, Content}
use Rattle.change_codec.specs.ModelChanges.{TimedOp}
use Rattle.disk_model.specs.StoreFiles.{journal_file}
use Rattle.commit_journal.specs.Encoding.{decoded}
use Rattle.commit_journal.specs.Journals.{choice_of, encodings_of, store_of}
use Rattle.commit_journal.specs.ReadBuffers.{journal_bytes_at}
use Rattle.recovery.specs.Recovered.{seen_in}
use Rattle.recovery.specs.Shown.{store_of as recovered_store}
use Rattle.store_changes.specs.Followed.{JournalHolds}
use Rattle.store_changes.proofs.Held.{enough, holds}
use Rattle.store_changes.proofs.Refusals.{other_refused, same_bytes}
use Rattle.store_changes.proofs.held_changes.held_changes.Goals as goal

pub returns-in-Some-clause-held : goal.returns-in-Some-clause-held
returns-in-Some-clause-held g c =
    let D = g.D.Disk in
    let was = c.args.disk in
    let files = seen_in (D.state_at was (D.clock was)) in
    let opened = c.in-Ok.opened in
    let journal = c.in-Ok-open.journal.journal in
    let changes = c.in-Ok-open.journal.elements.items in
    let read = (choice_of journal).now in
    let it = c.in-Some.held in
    let held = c.in-Some.ensures.held in
    let items : it.changes.items ≡ changes = ap (λ v. v.items) held.2 in (
      store_of journal,
      sym held.0,
      λ f.
          let fo = subst D.faithful c.into_disk-disk.ensures (c.open-in-Ok.ensures.faithful f) in
          let recovered = c.in-Ok.ensures.recovered fo in
          let bytes = ap (λ d. journal_bytes_at (D.state_at d) (D.clock d)) c.into_disk-disk.ensures ∙ same_bytes (D.state_at was) (D.state_at opened.disk) (D.clock was) (D.clock opened.disk) (c.in-Ok.ensures.synced fo) in
          let reads = ap (decoded (encodings_of journal)) (sym bytes) ∙ c.in-Ok-open.ensures.decodes f in
          let read_is = ap (λ (x : Choice (Content TimedOp)). x.now) c.in-Ok-open.ensures.choice in
          let same = c.one_store.ensures (files journal_file) (store_of journal) (recovered_store opened) read recovered.recovers.journal c.in-Ok-open.ensures.store recovered.store_is reads recovered.recovers.decoded in
          let is = ap (λ (xs : List Element). it.base + length xs) (sym items) ∙ (it.last ∙ (held.1 ∙ c.number-number.ensures)) in
          let all = holds files (recovered_store opened) (store_of journal) opened.found.number _ changes read recovered same reads read_is it.base is c.in-Ok-open.ensures.fit in
          subst (λ s. JournalHolds files s it.base it.changes.items) (sym same) (subst (λ (xs : List Element). JournalHolds files (recovered_store opened) it.base xs) (sym items) all),
    )

pub returns-in-None-clause-fails : goal.returns-in-None-clause-fails
returns-in-None-clause-fails g c =
    let D = g.D.Disk in
    let was = c.args.disk in
    let files = seen_in (D.state_at was (D.clock was)) in
    let opened = c.in-Ok.opened in
    let journal = c.in-Ok-open.journal.journal in
    let changes = c.in-Ok-open.journal.elements.items in
    let read = (choice_of journal).now in
    other_refused _ _ files (λ f.
    let fo = subst D.faithful c.into_disk-disk.ensures (c.open-in-Ok.ensures.faithful f) in
    let recovered = c.in-Ok.ensures.recovered fo in
    let bytes = ap (λ d. journal_bytes_at (D.state_at d) (D.clock d)) c.into_disk-disk.ensures ∙ same_bytes (D.state_at was) (D.state_at opened.disk) (D.clock was) (D.clock opened.disk) (c.in-Ok.ensures.synced fo) in
    let reads = ap (decoded (encodings_of journal)) (sym bytes) ∙ c.in-Ok-open.ensures.decodes f in
    let read_is = ap (λ (x : Choice (Content TimedOp)). x.now) c.in-Ok-open.ensures.choice in
    let same = c.one_store.ensures (files journal_file) (store_of journal) (recovered_store opened) read recovered.recovers.journal c.in-Ok-open.ensures.store recovered.store_is reads recovered.recovers.decoded in
    let fits = enough files (recovered_store opened) (store_of journal) opened.found.number _ changes read recovered same reads read_is in
    cc (c.in-None.ensures.none (subst (λ (n : ℕ). length changes ≤ n) (sym c.number-number.ensures) fits)))
