use Rattle.transactions.specs.CommitLogs.{commits_in}
use Rattle.std.proofs.Common.{◌≡◌, ◌+◌, ℕ, [], ◌∷◌, ◌++◌, ◌∙◌, ap, refl, sym, subst}
use Rattle.reg_tree.specs.Judgement.{legal, applied_one}
use Rattle.reg_tree.specs.TreeLists.{levels_made}
use Rattle.reg_tree.specs.declared.element.Element.{Element}
use Rattle.reg_tree.specs.declared.op.Op.{Op}
use Rattle.reg_tree.specs.Encodings.{element_encoded_len}
use Rattle.store_model.specs.Machine.{Machine, change}
use Rattle.store_model.specs.Steps.{AcceptsWrite, Step}
use Rattle.store_model.specs.declared.event.Event.TheVariants as event
use Rattle.store_model.specs.declared.event.Reply.{Reply}
use Rattle.transactions.specs.Entries.{AreRebased}
use Rattle.transactions.specs.Prepared.{IsReadyWrite}
use Rattle.transactions.specs.Stores.{TableMatchesMachine, StoreView, store_of}
use Rattle.transactions.specs.Tables.{Table}
use Rattle.std.proofs.Common.{List, length, arith, length-append}
use Rattle.reg_tree.specs.Sequences.{after_elements}
use Rattle.store_model.specs.Machine.{outcome_tree}
use Rattle.transactions.proofs.Outcomes.{outcomes_stay, one_more_stays, named_one, below_named, room_left}
use Rattle.transactions.proofs.Stored.{accepts, below_most, tied_more}
use Rattle.transactions.proofs.store.Store.accept_write.Goals as goal

abbrev old_store : (c : goal.After-drop-holders) → Machine
old_store c = store_of c.self.inside.opened.value c.self.inside.before c.self.inside.history.changes (commits_in c.self.inside.commits) c.self.inside.sessions c.self.inside.table c.self.inside.durable c.self.inside.room c.self.inside.faulted c.self.inside.bounds

seen : (c : goal.After-drop-holders) (session moment : ℕ) (op : Op) → IsReadyWrite c.args.self.now.machine session moment op c.args.write → IsReadyWrite (old_store c) session moment op c.args.write
seen c session moment op ready = subst (λ (v : StoreView). IsReadyWrite v.machine session moment op c.args.write) (sym c.self.view_is) ready

added : (c : goal.After-drop-holders) (session moment : ℕ) (op : Op) → IsReadyWrite (old_store c) session moment op c.args.write → c.push_reserved.new.self.changes ≡ c.self.inside.history.changes ++ change moment op ∷ []
added c session moment op ready = c.push_reserved.ensures.changes ∙ ap (λ (e : Element). c.self.inside.history.changes ++ e ∷ []) ready.element

tied : (c : goal.After-drop-holders) → TableMatchesMachine c.roll_back_all.new.self (store_of c.self.inside.opened.value c.self.inside.before c.push_reserved.new.self.changes (commits_in c.self.inside.commits) c.self.inside.sessions c.roll_back_all.new.self c.self.inside.durable c.args.write.room c.self.inside.faulted c.self.inside.bounds)
tied c =
    let session = c.requires.ready.0 in
    let moment = c.requires.ready.1 in
    let op = c.requires.ready.2 in
    let ready = seen c session moment op c.requires.ready.3 in
    tied_more c.self.inside.opened.value c.self.inside.before c.self.inside.history.changes c.push_reserved.new.self.changes (commits_in c.self.inside.commits) (commits_in c.self.inside.commits) c.self.inside.sessions c.self.inside.table c.roll_back_all.new.self c.self.inside.durable c.self.inside.room c.args.write.room c.self.inside.faulted c.self.inside.bounds
    (change moment op) c.self.invariant.0 (below_most (old_store c) (element_encoded_len (change moment op)) ready.roomy) (added c session moment op ready)
    (ap (λ (t : Table). t.trees) c.roll_back_all.ensures.rest ∙ ap (λ (t : Table). t.trees) (c.take_views.ensures ∙ c.accept.ensures) ∙ ready.trees ∙ ap (λ x. applied_one x op moment) (sym c.self.invariant.0.trees))
    (ap (λ (t : Table). t.number) c.roll_back_all.ensures.rest ∙ ap (λ (t : Table). t.number) (c.take_views.ensures ∙ c.accept.ensures))
    (ap (λ (t : Table). t.hives) c.roll_back_all.ensures.rest ∙ ap (λ (t : Table). t.hives) (c.take_views.ensures ∙ c.accept.ensures))
    (ap (λ (t : Table). t.aside) c.roll_back_all.ensures.rest ∙ ap (λ (t : Table). t.aside) (c.take_views.ensures ∙ c.accept.ensures))

abbrev new_store : (c : goal.After-drop-holders) → Machine
new_store c = store_of c.self.inside.opened.value c.self.inside.before c.push_reserved.new.self.changes (commits_in c.self.inside.commits) c.self.inside.sessions c.roll_back_all.new.self c.self.inside.durable c.args.write.room c.self.inside.faulted c.self.inside.bounds

pub invariant_of-self : goal.invariant_of-self
invariant_of-self c =
    let moment = c.requires.ready.1 in
    let op = c.requires.ready.2 in
    let ready = seen c c.requires.ready.0 moment op c.requires.ready.3 in
    let grown = added c c.requires.ready.0 moment op ready in (
      tied c,
      outcomes_stay c.self.inside.outcomes (old_store c) (new_store c) refl
          (ap (λ es. outcome_tree c.self.inside.bounds (after_elements c.self.inside.opened.value es)) grown ∙ one_more_stays c.self.inside.bounds c.self.inside.opened.value c.self.inside.history.changes (change moment op) (named_one c.self.inside.bounds.hives op (below_named (old_store c) op ready.named)))
          (omega (arith, ap (λ (es : List Element). length es) grown, length-append c.self.inside.history.changes (change moment op ∷ [])))
          (omega (arith, ap (λ (es : List Element). length es) grown, length-append c.self.inside.history.changes (change moment op ∷ []), room_left (old_store c) (element_encoded_len (change moment op)) ready.roomy))
          c.self.invariant.1,
    )

pub returns-clause-step : goal.returns-clause-step
returns-clause-step c = λ session moment op told.
    let ready = seen c session moment op told in
    let number = c.roll_back_all.new.self.number in
    let new = store_of c.self.inside.opened.value c.self.inside.before c.push_reserved.new.self.changes (commits_in c.self.inside.commits) c.self.inside.sessions c.roll_back_all.new.self c.self.inside.durable c.args.write.room c.self.inside.faulted c.self.inside.bounds in
    subst (λ (answer : Reply). Step c.args.self.now.machine (event.Write session moment op) answer new) (sym c.accepted.ensures)
    (subst (λ (v : StoreView). AcceptsWrite v.machine session moment op c.args.write.levels number new) c.self.view_is
    (accepts c.self.inside.opened.value c.self.inside.before c.self.inside.history.changes c.push_reserved.new.self.changes (commits_in c.self.inside.commits) c.self.inside.sessions c.self.inside.table c.take_views.new.self c.roll_back_all.new.self c.self.inside.durable c.self.inside.room c.args.write.room c.self.inside.faulted c.self.inside.bounds
    ready.free session moment number op c.args.write.levels c.args.write.trees c.args.write.holders c.self.invariant.0 ready.there ready.named
    (ap (λ x. legal x op) c.self.invariant.0.trees ∙ ready.is_legal) ready.roomy (ready.levels ∙ ap (λ x. levels_made x op) (sym c.self.invariant.0.trees)) refl (added c session moment op ready) ready.room
    (c.take_views.ensures ∙ c.accept.ensures) c.roll_back_all.ensures.rest c.roll_back_all.ensures.rolled_back ready.holders))

pub returns-clause-trees : goal.returns-clause-trees
returns-clause-trees c = sym (tied c).trees ∙ ap (λ (t : Table). t.trees) c.roll_back_all.ensures.rest ∙ ap (λ (t : Table). t.trees) (c.take_views.ensures ∙ c.accept.ensures)

pub take_views-requires : goal.take_views-requires
take_views-requires c =
    let ready = subst (λ (v : StoreView). IsReadyWrite v.machine c.requires.ready.0 c.requires.ready.1 c.requires.ready.2 c.args.write) (sym c.self.view_is) c.requires.ready.3 in
    subst (λ (t : Table). AreRebased t.trees t.number t.tx_slots c.args.write.rebased.items) (sym c.accept.ensures)
    (subst (λ n. AreRebased c.args.write.trees (n + 1) c.self.inside.table.tx_slots c.args.write.rebased.items) (sym c.self.invariant.0.number) ready.rebased)

pub returns-clause-grows : goal.returns-clause-grows
returns-clause-grows c = subst (λ (v : StoreView). c.push_reserved.new.self.changes ≡ v.machine.accepted ++ c.args.write.element ∷ []) c.self.view_is c.push_reserved.ensures.changes
