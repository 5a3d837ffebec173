use Rattle.std.proofs.Common.{Result, inl, sym, subst}
use Rattle.std.specs.Prelude.{IfErr}
use Rattle.store_model.specs.Machine.{Machine}
use Rattle.engine_invariant.specs.Prefixes.{IsSafeAt}
use Rattle.commit_journal.specs.Store.{Store}
use Rattle.store_driver.specs.Later.{ReachedByEvents}
use Rattle.store_driver.specs.Openings.{LifeReaches, HasFailedSince}
use Rattle.store_driver.proofs.store_opening.in_session_0.Goals.{in-Done, in_default}
use Rattle.store_driver.proofs.store_opening.in_session_0.Goals as goal

pub returns-clause-left : goal.returns-clause-left
returns-clause-left g c =
    let D = g.D.Disk in
    let first = c.args.engine in
    let engine = c.ask.new.engine in
    let later = c.ask.ensures.later in
    let Left : _ → Type 0 = λ d. D.faithful d → (last : Machine) × ReachedByEvents first.machine last × LifeReaches (HasFailedSince first.machine (D.failures first.disk) (D.failures d)) first.store last (D.state_at d (D.clock d)) in
    elim c.match-ask.branch [
      | in-Done w ↦ subst (λ (r : Result _ _). IfErr r (λ back. Left back.1)) (sym w.result-is) tt
      | in_default w ↦ subst (λ (r : Result _ _). IfErr r (λ back. Left back.1)) (sym w.result-is)
          (subst Left (sym w.into_disk.ensures)
          (λ f. (
            engine.machine,
            later.comes,
            record {
              safe = subst (λ (s : Store). IsSafeAt s (D.state_at engine.disk) (D.clock engine.disk) engine.machine) later.store (w.keeps_a_prefix.ensures f);
              reads = λ e. w.reads_a_prefix.ensures.honest f (inl e);
              why = later.faulted;
            },
          )))
    ]
