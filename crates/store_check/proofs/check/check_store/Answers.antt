use Rattle.std.proofs.Common.{inl, inr, sym, subst}
use Rattle.disk_model.specs.StoreFiles.{journal_file}
use Rattle.commit_journal.specs.Journals.{choice_of, store_of}
use Rattle.engine_invariant.specs.Prefixes.{JournalDecodesTo}
use Rattle.recovery.specs.Recovered.{IsRecovered, seen_in}
use Rattle.recovery.specs.declared.found.RecoveredStore.{RecoveredStore}
use Rattle.store_check.proofs.Found.{if_ok}
use Rattle.store_check.proofs.check.check_store.Goals as goal

pub returns-in-Ok-clause-reports : goal.returns-in-Ok-clause-reports
returns-in-Ok-clause-reports g c =
    let D = g.D.Disk in
    let files = seen_in (D.state_at c.args.disk (D.clock c.args.disk)) in
    let parts = c.into_parts-disk in
    if_ok c.print_found-status.result (λ status printed. inl (
      parts.result.1,
      parts.ensures.kept,
      (λ f.
          let faithful = subst D.faithful parts.ensures.disk f in
          record {
            recovers = subst (λ (found : RecoveredStore). IsRecovered files (store_of found.journal) found.number found.trees) (sym parts.ensures.found) (c.in-Ok.ensures.recovered faithful);
            decodes = subst (λ (found : RecoveredStore). JournalDecodesTo (store_of found.journal) (files journal_file) (choice_of found.journal).now) (sym parts.ensures.found) (c.in-Ok.ensures.decodes faithful);
            on_disk = parts.ensures.on_disk f;
          }),
      printed.0,
      printed.1,
    )) c.print_found-status.ensures

pub returns-in-Err-clause-reports : goal.returns-in-Err-clause-reports
returns-in-Err-clause-reports g c = if_ok c.print_refused.result (λ status printed. inr (c.in-Err.refusal, c.in-Err.ensures.fails, printed.0, printed.1)) c.print_refused.ensures
