use Rattle.std.proofs.Common.{◌∙◌, refl, inl, inr, sym, arith, ap, subst}
use Rattle.crash_model.specs.Promises.{JournalSays}
use Rattle.crash_model.specs.StepAnswers.{Says}
use Rattle.commit_journal.specs.Journals.{view_in_phase, choice_of, steps_in}
use Rattle.commit_journal.specs.declared.journal.Phase.{Phase}
use Rattle.commit_journal.proofs.Transitions.{ok_on}
use Rattle.commit_journal.proofs.Progress.{whole, no_trim, only_now}
use Rattle.commit_journal.proofs.journal.Journal.go_on.Goals as goal

pub returns-in-BodyWritten-clause-says : goal.returns-in-BodyWritten-clause-says
returns-in-BodyWritten-clause-says g c = λ first handed.
    subst (λ (p : Phase). Says (JournalSays first handed) c.sync_body.result (view_in_phase c.args.self.now.on_device p).choice (choice_of c.sync_body.new.self)) c.in-BodyWritten.ensures.value (c.sync_body.ensures.says first handed)

pub returns-in-BodyWritten-clause-faulted : goal.returns-in-BodyWritten-clause-faulted
returns-in-BodyWritten-clause-faulted g c =
    (λ e. absurd (c.sync_body.ensures.unbroken e), λ broken. absurd (let wrong = ap (λ (p : Phase). (view_in_phase c.args.self.now.on_device p).phase) c.in-BodyWritten.ensures.value ∙ broken in (cc)))

pub returns-in-BodySynced-clause-says : goal.returns-in-BodySynced-clause-says
returns-in-BodySynced-clause-says g c = λ first handed.
    subst (λ (p : Phase). Says (JournalSays first handed) c.open_gate.result (view_in_phase c.args.self.now.on_device p).choice (choice_of c.open_gate.new.self)) c.in-BodySynced.ensures.value (c.open_gate.ensures.says first handed)

pub returns-in-BodySynced-clause-faulted : goal.returns-in-BodySynced-clause-faulted
returns-in-BodySynced-clause-faulted g c =
    (λ e. absurd (c.open_gate.ensures.unbroken e), λ broken. absurd (let wrong = ap (λ (p : Phase). (view_in_phase c.args.self.now.on_device p).phase) c.in-BodySynced.ensures.value ∙ broken in (cc)))

pub returns-in-GateWritten-clause-says : goal.returns-in-GateWritten-clause-says
returns-in-GateWritten-clause-says g c = λ first handed.
    subst (λ (p : Phase). Says (JournalSays first handed) c.sync_gate.result (view_in_phase c.args.self.now.on_device p).choice (choice_of c.sync_gate.new.self)) c.in-GateWritten.ensures.value (c.sync_gate.ensures.says first handed)

pub returns-in-GateWritten-clause-faulted : goal.returns-in-GateWritten-clause-faulted
returns-in-GateWritten-clause-faulted g c =
    (λ e. absurd (c.sync_gate.ensures.unbroken e), λ broken. absurd (let wrong = ap (λ (p : Phase). (view_in_phase c.args.self.now.on_device p).phase) c.in-GateWritten.ensures.value ∙ broken in (cc)))

pub returns-in-TrimWritten-clause-faulted : goal.returns-in-TrimWritten-clause-faulted
returns-in-TrimWritten-clause-faulted g c =
    (λ e. absurd (c.sync_trim.ensures.unbroken e), λ broken. absurd (let wrong = ap (λ (p : Phase). (view_in_phase c.args.self.now.on_device p).phase) c.in-TrimWritten.ensures.value ∙ broken in (cc)))

pub returns-in-BodyWritten-clause-nearer : goal.returns-in-BodyWritten-clause-nearer
returns-in-BodyWritten-clause-nearer g c = ok_on c.sync_body.result _ _ (λ left. inl (omega (arith, left, ap (λ (p : Phase). steps_in (view_in_phase c.args.self.now.on_device p).phase) c.in-BodyWritten.ensures.value))) c.sync_body.ensures.nearer

pub returns-in-BodySynced-clause-nearer : goal.returns-in-BodySynced-clause-nearer
returns-in-BodySynced-clause-nearer g c = ok_on c.open_gate.result _ _ (λ left. inl (omega (arith, left, ap (λ (p : Phase). steps_in (view_in_phase c.args.self.now.on_device p).phase) c.in-BodySynced.ensures.value))) c.open_gate.ensures.nearer

pub returns-in-GateWritten-clause-nearer : goal.returns-in-GateWritten-clause-nearer
returns-in-GateWritten-clause-nearer g c = ok_on c.sync_gate.result _ _ (λ on_device. inr (
  sym (ap (λ (p : Phase). steps_in (view_in_phase c.args.self.now.on_device p).phase) c.in-GateWritten.ensures.value),
  (_, sym (ap (λ (p : Phase). (view_in_phase c.args.self.now.on_device p).choice.next) c.in-GateWritten.ensures.value), on_device),
)) c.sync_gate.ensures.on_device

pub returns-in-TrimWritten-clause-nearer : goal.returns-in-TrimWritten-clause-nearer
returns-in-TrimWritten-clause-nearer g c = ok_on c.sync_trim.result _ _ (λ left. inl (omega (arith, left, ap (λ (p : Phase). steps_in (view_in_phase c.args.self.now.on_device p).phase) c.in-TrimWritten.ensures.value))) c.sync_trim.ensures.nearer

pub returns-in-BodyWritten-clause-broken : goal.returns-in-BodyWritten-clause-broken
returns-in-BodyWritten-clause-broken g c = only_now (whole c.args.self.now.on_device _ _ 2 c.in-BodyWritten.ensures.value refl) c.sync_body.ensures.breaks

pub returns-in-BodySynced-clause-broken : goal.returns-in-BodySynced-clause-broken
returns-in-BodySynced-clause-broken g c = only_now (whole c.args.self.now.on_device _ _ 1 c.in-BodySynced.ensures.value refl) c.open_gate.ensures.breaks

pub returns-in-GateWritten-clause-broken : goal.returns-in-GateWritten-clause-broken
returns-in-GateWritten-clause-broken g c = only_now (whole c.args.self.now.on_device _ _ 0 c.in-GateWritten.ensures.value refl) c.sync_gate.ensures.breaks

pub returns-in-TrimWritten-clause-broken : goal.returns-in-TrimWritten-clause-broken
returns-in-TrimWritten-clause-broken g c = only_now (whole c.args.self.now.on_device _ _ 4 c.in-TrimWritten.ensures.value refl) c.sync_trim.ensures.breaks

pub returns-in-BodyWritten-clause-ends : goal.returns-in-BodyWritten-clause-ends
returns-in-BodyWritten-clause-ends g c = λ trims. absurd (no_trim c.args.self.now.on_device _ _ 3 c.in-BodyWritten.ensures.value refl (omega arith) trims)

pub returns-in-BodySynced-clause-ends : goal.returns-in-BodySynced-clause-ends
returns-in-BodySynced-clause-ends g c = λ trims. absurd (no_trim c.args.self.now.on_device _ _ 2 c.in-BodySynced.ensures.value refl (omega arith) trims)

pub returns-in-GateWritten-clause-ends : goal.returns-in-GateWritten-clause-ends
returns-in-GateWritten-clause-ends g c = λ trims. absurd (no_trim c.args.self.now.on_device _ _ 1 c.in-GateWritten.ensures.value refl (omega arith) trims)
