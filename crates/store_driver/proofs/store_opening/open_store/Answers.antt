use Rattle.std.proofs.Common.{◌≡◌, ◌<◌, ◌∙◌, [], false, inl, inr, ap, sym, subst, arith}
use Rattle.std.proofs.lemmas.Bool.{true≢false}
use Rattle.std.proofs.lemmas.Result.{err_from_is_err_and}
use Rattle.commit_journal.specs.Store.{Store}
use Rattle.store_model.specs.Machine.{Machine}
use Rattle.store_model.specs.Steps.{with_session}
use Rattle.recovery.specs.Recovered.{seen_in}
use Rattle.store_driver.specs.Openings.{HasFailedSince, IsOpenedOn, session_0}
use Rattle.store_driver.proofs.OpeningLives.{left_begun, opened_came}
use Rattle.store_driver.proofs.store_opening.open_store.Goals as goal

pub returns-clause-ok : goal.returns-clause-ok
returns-clause-ok g c =
    let D = g.D.Disk in
    let first = c.in_ok-engine.engine in
    let number = c.in_ok-engine.number in
    let engine = c.in_ok-begun.begun in
    let opened = c.in_ok-engine.ensures.ok in
    let files = seen_in (D.state_at c.args.disk (D.clock c.args.disk)) in
    let said = c.in_ok-begun.ensures.ok in
    subst (λ (s : Store). IsOpenedOn (D.faithful engine.disk) files s number session_0 engine.machine) (sym said.1.store) (record {
      trees = opened.trees;
      room = opened.room;
      begins = said.0 ∙ ap (λ (m : Machine). with_session m 0) opened.begins;
      kept = c.keeps_invariant.ensures;
      recovered = λ f. opened.recovered (said.1.faithful f);
      room_is = λ f. opened.room_is (said.1.faithful f);
    })

pub returns-in_err-begun-clause-left : goal.returns-in_err-begun-clause-left
returns-in_err-begun-clause-left g c =
    let D = g.D.Disk in
    let p = err_from_is_err_and c.from_residual-in_err-begun.result c.from_residual-in_err-begun.ensures.1 in
    let first = c.in_ok-engine.engine in
    let number = c.in_ok-engine.number in
    let opened = c.in_ok-engine.ensures.ok in
    let back = c.in_err-begun.field-0.0 in
    let e = c.in_err-begun.ensures in
    let failed = D.failures c.args.disk < D.failures back.1 in
    let whole : first.machine.faulted ≡ false = ap (λ (m : Machine). m.faulted) opened.begins in
    rw (p.1, p.2) (left_begun failed (HasFailedSince first.machine (D.failures first.disk) (D.failures back.1)) (D.faithful back.1) (D.faithful first.disk) (D.state_at c.args.disk (D.clock c.args.disk)) (D.state_at back.1 (D.clock back.1)) first.store number [] first.machine
    (λ since. elim (since) [ inl was ↦ absurd (true≢false (sym was ∙ whole)) | inr rose ↦ (let lt : failed = omega (arith, rose, c.in_ok-engine.ensures.failures) in lt) ])
    e.back opened (opened_came first.store number opened.room opened.trees first.machine opened.begins) e.left)
