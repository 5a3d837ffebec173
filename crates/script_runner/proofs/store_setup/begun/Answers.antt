use Rattle.std.proofs.Common.{◌≡◌, ◌+◌, [], ◌∙◌, subst}
use Rattle.commit_journal.specs.Store.{room_of}
use Rattle.commit_journal.specs.Journals.{choice_of, store_of}
use Rattle.store_model.specs.Machine.{bounds_for, opened_machine}
use Rattle.recovery.specs.Invariant.{InvariantHolds}
use Rattle.recovery.specs.declared.found.RecoveredStore.{RecoveredStore}
use Rattle.script_runner.proofs.Fresh.{is_at_0}
use Rattle.script_runner.proofs.store_setup.begun.Goals as goal

pub returns-in-Ok : goal.returns-in-Ok
returns-in-Ok c zero =
    let machine = c.in-Ok.engine.machine in
    let is = subst (λ (found : RecoveredStore). machine ≡ record (opened_machine (bounds_for (store_of found.journal).hives) found.trees found.number [] 0) { room = 65 + room_of (choice_of found.journal).now.elements }) (c.from_parts.ensures.found ∙ c.into_parts-disk.ensures.found) c.in-Ok.ensures.machine in
    is_at_0 machine c.args.opened.found is (subst InvariantHolds c.into_parts-disk.ensures.found c.into_parts-disk.ensures.kept) zero
