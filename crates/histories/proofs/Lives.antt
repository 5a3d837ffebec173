-- What is left of a store after a history is what a life of it leaves.
use Rattle.std.proofs.Common.{◌≡◌, ◌<◌, ◌≤◌, ℕ, false, List, [], length, map, ap, sym, subst, ◌∙◌, arith, inl, inr}
use Rattle.std.proofs.lemmas.Bool.{true≢false}
use Rattle.disk_model.specs.FileState.{FileState}
use Rattle.commit_journal.specs.Store.{Store}
use Rattle.store_model.specs.Machine.{Machine}
use Rattle.store_model.specs.Steps.{Run}
use Rattle.engine_invariant.specs.Prefixes.{IsPrefix, IsSafeAt}
use Rattle.engine.specs.Lives.{ReadsSafely}
use Rattle.recovery.specs.Recovered.{seen_in}
use Rattle.store_driver.specs.Openings.{IsOpenedOn, LeavesLife}
use Rattle.store_driver.proofs.OpeningLives.{left_begun, opened_came}
use Rattle.histories.specs.Histories.{LeadsTo}
use Rattle.histories.specs.Leaving.{IsOver, LeavesHistory}
use Rattle.engine_invariant.specs.Engines.{EngineView}
use Rattle.histories.specs.Points.{HistoryEntry}
use Rattle.histories.proofs.Chains.{faulted_since, run_of, safe_end}

pub leaves_life : {D : Type 0} (is_faithful : D → Type 0) (states_of : D → ℕ → ℕ → FileState) (clock_of failures_of : D → ℕ) (store : Store) (number : ℕ) (before first disk : D) (begun last : EngineView) (history : List HistoryEntry)
    → failures_of before ≤ failures_of first → IsOpenedOn (is_faithful first) (seen_in (states_of before (clock_of before))) store number [] begun.machine
    → LeavesHistory is_faithful states_of clock_of failures_of store first begun disk history last
    → LeavesLife (failures_of before < failures_of disk) (is_faithful disk) (states_of before (clock_of before)) (states_of disk (clock_of disk))
leaves_life is_faithful states_of clock_of failures_of store number before first disk begun last history opening opened left =
    let leads = left.leads in
    let machine = begun.machine in
    let events = map (λ x. x.event) history in
    let replies = map (λ x. x.reply) history in
    left_begun (failures_of before < failures_of disk) (failures_of first < failures_of disk) (is_faithful disk) (is_faithful first)
    (states_of before (clock_of before)) (states_of disk (clock_of disk)) store number [] machine
    (λ rose. omega (arith, opening, rose)) leads.back opened (opened_came store number opened.room opened.trees machine opened.begins)
    (λ f. (
      last.machine,
      (events, replies, subst (λ (p : EngineView). Run machine events replies p.machine) leads.now_is (run_of begun history leads.run)),
      record {
        safe = rw (← left.ended.calls) (subst (λ (p : EngineView). IsSafeAt store (states_of disk) p.clock p.machine) leads.now_is (safe_end (IsSafeAt store (states_of disk)) begun history (leads.crashes f)));
        reads = left.honest f;
        why = λ faulted. elim (faulted_since begun history leads.run (ap (λ (p : EngineView). p.machine.faulted) leads.now_is ∙ faulted)) [
          | inl was ↦ absurd (true≢false (sym was ∙ ap (λ (m : Machine). m.faulted) opened.begins))
          | inr rose ↦ omega (arith, subst (λ (p : EngineView). begun.failures < p.failures) leads.now_is rose, left.began.failures, left.ended.failures)
        ];
      },
    ))

-- What is left as an engine hands its disk back, which a history has led to.
pub leaves_history : {D : Type 0} (is_faithful : D → Type 0) (states_of : D → ℕ → ℕ → FileState) (clock_of failures_of : D → ℕ) (store kept : Store) (first end disk : D) (begun last : EngineView)
    → disk ≡ end → kept ≡ store → IsOver clock_of failures_of first begun → IsOver clock_of failures_of end last
    → (history : List HistoryEntry) → LeadsTo begun (IsSafeAt store (states_of first)) (is_faithful first) (IsSafeAt kept (states_of end)) (is_faithful end) history last
    → (is_faithful end → last.machine.faulted ≡ false → ReadsSafely (length last.machine.opened) (states_of end (clock_of end)))
    → (is_faithful end → last.machine.faulted ≡ false → IsPrefix kept last.machine (seen_in (states_of end (clock_of end))))
    → LeavesHistory is_faithful states_of clock_of failures_of store first begun disk history last
leaves_history is_faithful states_of clock_of failures_of store kept first end disk begun last back same began ended history leads honest prefix =
    subst (λ d. LeavesHistory is_faithful states_of clock_of failures_of store first begun d history last) (sym back) (record {
      began = began;
      ended = ended;
      leads = subst (λ (s : Store). LeadsTo begun (IsSafeAt store (states_of first)) (is_faithful first) (IsSafeAt s (states_of end)) (is_faithful end) history last) same leads;
      honest = honest;
      prefix = λ f e. subst (λ (s : Store). IsPrefix s last.machine (seen_in (states_of end (clock_of end)))) same (prefix f e);
    })
