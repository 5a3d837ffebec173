use Rattle.std.proofs.Common.{[], ◌∙◌, ◌<◌, sym, subst, arith}
use Rattle.std.proofs.lemmas.Result.{err_from_is_err_and}
use Rattle.commit_journal.specs.Store.{Store}
use Rattle.recovery.specs.Recovered.{IsRecovered, seen_in}
use Rattle.recovery.specs.Shown.{store_of}
use Rattle.store_driver.specs.Openings.{BeginsAt, IsOpenedOn, room_in}
use Rattle.store_driver.proofs.OpeningLives.{left_opened}
use Rattle.store_driver.proofs.store_opening.open_engine.Goals as goal

pub returns-clause-ok : goal.returns-clause-ok
returns-clause-ok g c =
    let D = g.D.Disk in
    let first = c.in_ok-found.field-0 in
    let whole = c.in_ok-opened.opened in
    let engine = c.in_ok-engine.engine in
    let same = c.in_ok-opened.ensures.same in
    let files = seen_in (D.state_at c.args.disk (D.clock c.args.disk)) in
    let was : D.faithful engine.disk → D.faithful first.disk = λ f. c.in_ok-opened.ensures.faithful (subst (λ d. D.faithful d) c.in_ok-engine.ensures.disk f) in
    subst (λ (s : Store). IsOpenedOn (D.faithful engine.disk) files s c.number-number.result [] engine.machine) (sym (c.in_ok-engine.ensures.store ∙ same.2)) (record {
      trees = whole.found.trees;
      room = room_in first;
      begins =
          subst (λ (s : Store). BeginsAt s.hives c.number-number.result whole.found.trees (room_in first) [] engine.machine) same.2
          (subst (λ n. BeginsAt (store_of whole).hives n whole.found.trees (room_in first) [] engine.machine) (sym c.number-number.ensures)
          (subst (λ r. BeginsAt (store_of whole).hives whole.found.number whole.found.trees r [] engine.machine) same.3 c.in_ok-engine.ensures.begins));
      kept = c.keeps_invariant.ensures;
      recovered = λ f.
          subst (λ n. IsRecovered files (store_of first) n whole.found.trees) (sym same.0 ∙ sym c.number-number.ensures)
          (subst (λ trees. IsRecovered files (store_of first) first.found.number trees) (sym same.1) (c.in_ok-found.ensures.recovered (was f)));
      room_is = λ f. c.in_ok-found.ensures.room (was f);
    })

pub returns-in_err-opened-clause-left : goal.returns-in_err-opened-clause-left
returns-in_err-opened-clause-left g c =
    let D = g.D.Disk in
    let p = err_from_is_err_and c.from_residual-in_err-opened.result c.from_residual-in_err-opened.ensures.1 in
    let first = c.in_ok-found.field-0 in
    let back = c.in_err-opened.field-0.0 in
    let failed = D.failures c.args.disk < D.failures back.1 in
    let e = c.in_err-opened.ensures in
    rw (p.1, p.2) (left_opened failed (D.failures first.disk < D.failures back.1) (D.faithful back.1) (D.faithful first.disk) (D.state_at c.args.disk (D.clock c.args.disk)) (D.state_at back.1 (D.clock back.1)) (store_of first) first.found.number first.found.trees
    (λ rose. (let lt : failed = omega (arith, rose, c.in_ok-found.ensures.failures) in lt)) e.back c.in_ok-found.ensures.recovered e.left)

pub returns-in_err-engine-clause-left : goal.returns-in_err-engine-clause-left
returns-in_err-engine-clause-left g c =
    let D = g.D.Disk in
    let p = err_from_is_err_and c.from_residual-in_err-engine.result c.from_residual-in_err-engine.ensures.1 in
    let first = c.in_ok-found.field-0 in
    let whole = c.in_ok-opened.opened in
    let same = c.in_ok-opened.ensures.same in
    let back = c.in_err-engine.field-0.0 in
    let failed = D.failures c.args.disk < D.failures back.1 in
    let e = c.in_err-engine.ensures in
    let files = seen_in (D.state_at c.args.disk (D.clock c.args.disk)) in
    rw (p.1, p.2) (left_opened failed (D.failures whole.disk < D.failures back.1) (D.faithful back.1) (D.faithful first.disk) (D.state_at c.args.disk (D.clock c.args.disk)) (D.state_at back.1 (D.clock back.1)) (store_of whole) whole.found.number whole.found.trees
    (λ rose. (let lt : failed = omega (arith, rose, c.in_ok-found.ensures.failures, c.in_ok-opened.ensures.failures) in lt)) (λ f. c.in_ok-opened.ensures.faithful (e.back f))
    (λ f. subst (λ (s : Store). IsRecovered files s whole.found.number whole.found.trees) (sym same.2)
    (subst (λ n. IsRecovered files (store_of first) n whole.found.trees) (sym same.0) (subst (λ trees. IsRecovered files (store_of first) first.found.number trees) (sym same.1) (c.in_ok-found.ensures.recovered f)))) e.left)
