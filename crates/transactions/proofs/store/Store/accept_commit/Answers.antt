use Rattle.std.proofs.Common.{◌≡◌, ℕ, ◌+◌, List, [], ◌∷◌, ◌++◌, Some, Option, refl, ◌∙◌, ap, sym, subst}
use Rattle.std.specs.Option.{option_map}
use Rattle.reg_tree.specs.Judgement.{applied}
use Rattle.reg_tree.specs.Encodings.{element_encoded_len}
use Rattle.reg_tree.specs.declared.element.Element.{Element}
use Rattle.reg_tree.specs.declared.op.Op.{Op}
use Rattle.commit_outcomes.specs.Units.{unit_name}
use Rattle.commit_outcomes.specs.Commits.{Commit, kept}
use Rattle.store_model.specs.Machine.{Machine, commit_change, last_number, next_commit, outcome_of}
use Rattle.store_model.specs.Steps.{CommitsTx}
use Rattle.transactions.specs.CommitLogs.{commits_in}
use Rattle.transactions.specs.Entries.{AreRebased}
use Rattle.transactions.specs.Prepared.{IsReadyCommit}
use Rattle.transactions.specs.Stores.{OutcomesMatch, TableMatchesMachine, StoreView, store_of}
use Rattle.transactions.specs.Tables.{Table}
use Rattle.transactions.specs.contracts.store.Store.{the_view}
use Rattle.transactions.proofs.Outcomes.{may_record, recorded}
use Rattle.transactions.proofs.Stored.{below_limit, below_most, commit_free, commits, ends_before, tied_more}
use Rattle.transactions.proofs.store.Store.accept_commit.Goals as goal

pub push_reserved-requires-clause-short : goal.push_reserved-requires-clause-short
push_reserved-requires-clause-short c = c.requires.ready.short

pub take_views-requires : goal.take_views-requires
take_views-requires c =
    let ready = subst (λ (v : StoreView). IsReadyCommit v.machine c.args.commit) (sym c.self.view_is) c.requires.ready in
    subst (λ (t : Table). AreRebased t.trees t.number t.tx_slots c.args.commit.rebased.items) (sym c.accept.ensures)
    (subst (λ n. AreRebased c.args.commit.trees (n + 1) c.self.inside.table.tx_slots c.args.commit.rebased.items) (sym c.self.invariant.0.number) ready.rebased)

pub record_commit-requires : goal.record_commit-requires
record_commit-requires c =
    let old : Machine = (the_view c.self.inside).machine in
    let ready : IsReadyCommit old c.args.commit = subst (λ (v : StoreView). IsReadyCommit v.machine c.args.commit) (sym c.self.view_is) c.requires.ready in
    let ends = ends_before c.self.inside.table c.take_views.new.self c.commit.new.self c.args.commit.trees c.args.commit.session c.args.commit.tx c.in-Ok._ops.items (c.take_views.ensures ∙ c.accept.ensures) c.in-Ok.ensures.ok in
    let number : c.number-number.result ≡ last_number old + 1 = c.number-number.ensures ∙ ap (λ (t : Table). t.number) ends.1 ∙ ap (λ n. n + 1) c.self.invariant.0.number in
    may_record c.self.inside.outcomes old c.args.commit.unit c.number-number.result c.args.commit.earlier c.self.invariant.1 number (λ keeps. ready.earlier keeps ∙ ap (outcome_of old) (sym ready.unit)) c.trees_have_commits.ensures.looked_up

-- the machine that the store shows then
abbrev new_store : goal.After-drop-ops → Machine
new_store c = store_of c.self.inside.opened.value c.self.inside.before c.push_reserved.new.self.changes (commits_in c.with.result) c.self.inside.sessions c.commit.new.self c.self.inside.durable c.args.commit.room c.self.inside.faulted c.self.inside.bounds

tied : (c : goal.After-drop-ops) → TableMatchesMachine c.commit.new.self (new_store c)
tied c =
    let old : Machine = (the_view c.self.inside).machine in
    let ready : IsReadyCommit old c.args.commit = subst (λ (v : StoreView). IsReadyCommit v.machine c.args.commit) (sym c.self.view_is) c.requires.ready in
    let ends = ends_before c.self.inside.table c.take_views.new.self c.commit.new.self c.args.commit.trees c.args.commit.session c.args.commit.tx c.in-Ok._ops.items (c.take_views.ensures ∙ c.accept.ensures) c.in-Ok.ensures.ok in
    let one = ready.one in
    let element = commit_change old c.args.commit.moment one in
    let number : c.number-number.result ≡ last_number old + 1 = c.number-number.ensures ∙ ap (λ (t : Table). t.number) ends.1 ∙ ap (λ n. n + 1) c.self.invariant.0.number in
    let grown : c.push_reserved.new.self.changes ≡ c.self.inside.history.changes ++ element ∷ [] = c.push_reserved.ensures.changes ∙ ap (λ (e : Element). c.self.inside.history.changes ++ e ∷ []) ready.element in
    let more : commits_in c.with.result ≡ commits_in c.self.inside.commits ++ next_commit old one ∷ [] =
    c.with.ensures ∙ ap (λ n. commits_in c.self.inside.commits ++ (n, unit_name c.args.commit.unit) ∷ []) number ∙ ap (λ (id : List ℕ). commits_in c.self.inside.commits ++ (last_number old + 1, unit_name id) ∷ []) ready.unit in
    tied_more c.self.inside.opened.value c.self.inside.before c.self.inside.history.changes c.push_reserved.new.self.changes (commits_in c.self.inside.commits) (commits_in c.with.result) c.self.inside.sessions c.self.inside.table c.commit.new.self c.self.inside.durable c.self.inside.room c.args.commit.room c.self.inside.faulted c.self.inside.bounds
    element c.self.invariant.0 (below_most old (element_encoded_len element) ready.roomy) grown
    (ap (λ (t : Table). t.trees) ends.1 ∙ ready.trees ∙ ap (λ x. applied x element.ops c.args.commit.moment) (sym c.self.invariant.0.trees))
    (ap (λ (t : Table). t.number) ends.1) (ap (λ (t : Table). t.hives) ends.1) (ap (λ (t : Table). t.aside) ends.1)

pub invariant_of-self : goal.invariant_of-self
invariant_of-self c =
    let old : Machine = (the_view c.self.inside).machine in
    let ready : IsReadyCommit old c.args.commit = subst (λ (v : StoreView). IsReadyCommit v.machine c.args.commit) (sym c.self.view_is) c.requires.ready in
    let ends = ends_before c.self.inside.table c.take_views.new.self c.commit.new.self c.args.commit.trees c.args.commit.session c.args.commit.tx c.in-Ok._ops.items (c.take_views.ensures ∙ c.accept.ensures) c.in-Ok.ensures.ok in
    let one = ready.one in
    let element = commit_change old c.args.commit.moment one in
    let number : c.number-number.result ≡ last_number old + 1 = c.number-number.ensures ∙ ap (λ (t : Table). t.number) ends.1 ∙ ap (λ n. n + 1) c.self.invariant.0.number in
    let grown : c.push_reserved.new.self.changes ≡ c.self.inside.history.changes ++ element ∷ [] = c.push_reserved.ensures.changes ∙ ap (λ (e : Element). c.self.inside.history.changes ++ e ∷ []) ready.element in
    let more : commits_in c.with.result ≡ commits_in c.self.inside.commits ++ next_commit old one ∷ [] =
    c.with.ensures ∙ ap (λ n. commits_in c.self.inside.commits ++ (n, unit_name c.args.commit.unit) ∷ []) number ∙ ap (λ (id : List ℕ). commits_in c.self.inside.commits ++ (last_number old + 1, unit_name id) ∷ []) ready.unit in (
      tied c,
      subst (λ o. OutcomesMatch o (new_store c))
          (ap (λ n. option_map (λ (l : List Commit). kept (l ++ (n, unit_name one.id) ∷ [])) c.self.inside.outcomes) (sym number) ∙ ap (λ (id : List ℕ). option_map (λ (l : List Commit). kept (l ++ (c.number-number.result, unit_name id) ∷ [])) c.self.inside.outcomes) (sym ready.unit) ∙ sym c.record_commit.ensures)
          (recorded old (new_store c) one c.args.commit.moment refl refl refl grown ready.named (below_limit old (element_encoded_len element) ready.roomy) c.self.inside.outcomes c.self.invariant.1 c.commits_are_kept.ensures.has c.units_have_names.ensures.named),
    )

pub returns-clause-step : goal.returns-clause-step
returns-clause-step c =
    let old : Machine = (the_view c.self.inside).machine in
    let ready : IsReadyCommit old c.args.commit = subst (λ (v : StoreView). IsReadyCommit v.machine c.args.commit) (sym c.self.view_is) c.requires.ready in
    let ends = ends_before c.self.inside.table c.take_views.new.self c.commit.new.self c.args.commit.trees c.args.commit.session c.args.commit.tx c.in-Ok._ops.items (c.take_views.ensures ∙ c.accept.ensures) c.in-Ok.ensures.ok in
    let one = ready.one in
    let element = commit_change old c.args.commit.moment one in
    let number : c.number-number.result ≡ last_number old + 1 = c.number-number.ensures ∙ ap (λ (t : Table). t.number) ends.1 ∙ ap (λ n. n + 1) c.self.invariant.0.number in
    let grown : c.push_reserved.new.self.changes ≡ c.self.inside.history.changes ++ element ∷ [] = c.push_reserved.ensures.changes ∙ ap (λ (e : Element). c.self.inside.history.changes ++ e ∷ []) ready.element in
    let more : commits_in c.with.result ≡ commits_in c.self.inside.commits ++ next_commit old one ∷ [] =
    c.with.ensures ∙ ap (λ n. commits_in c.self.inside.commits ++ (n, unit_name c.args.commit.unit) ∷ []) number ∙ ap (λ (id : List ℕ). commits_in c.self.inside.commits ++ (last_number old + 1, unit_name id) ∷ []) ready.unit in
    subst (λ (v : StoreView). CommitsTx v.machine c.args.commit.session c.args.commit.tx c.args.commit.moment c.number-number.result (new_store c)) c.self.view_is
    (commits c.self.inside.opened.value c.self.inside.before c.self.inside.history.changes c.push_reserved.new.self.changes (commits_in c.self.inside.commits) (commits_in c.with.result) c.self.inside.sessions c.self.inside.table (record c.self.inside.table { tx_slots = c.commit.new.self.tx_slots }) c.commit.new.self c.self.inside.durable c.self.inside.room c.args.commit.room c.self.inside.faulted c.self.inside.bounds
    c.args.commit.session c.args.commit.moment c.number-number.result c.args.commit.tx c.args.commit.trees c.in-Ok._ops.items one c.self.invariant.0 ready.free ready.there ready.found ready.active ends.0 ready.some
    (commit_free old c.args.commit.moment one ready.some ready.light ready.roomy) c.number-number.ensures grown more ready.room ends.1)

pub returns-clause-trees : goal.returns-clause-trees
returns-clause-trees c =
    let old : Machine = (the_view c.self.inside).machine in
    let ready : IsReadyCommit old c.args.commit = subst (λ (v : StoreView). IsReadyCommit v.machine c.args.commit) (sym c.self.view_is) c.requires.ready in
    let ends = ends_before c.self.inside.table c.take_views.new.self c.commit.new.self c.args.commit.trees c.args.commit.session c.args.commit.tx c.in-Ok._ops.items (c.take_views.ensures ∙ c.accept.ensures) c.in-Ok.ensures.ok in
    sym (tied c).trees ∙ ap (λ (t : Table). t.trees) ends.1

pub returns-clause-grows : goal.returns-clause-grows
returns-clause-grows c = subst (λ (v : StoreView). c.push_reserved.new.self.changes ≡ v.machine.accepted ++ c.args.commit.element ∷ []) c.self.view_is c.push_reserved.ensures.changes
