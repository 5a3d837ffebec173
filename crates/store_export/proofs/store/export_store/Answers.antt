use Rattle.std.proofs.Common.{inl, inr, refl, subst}
use Rattle.refusals.specs.declared.refusal.Refusal.TheVariants.{NoMemory}
use Rattle.recovery.specs.Shown.{store_of}
use Rattle.store_export.proofs.Told.{if_ok}
use Rattle.store_export.proofs.store.export_store.Goals as goal

pub returns-in-Ok-clause-reports : goal.returns-in-Ok-clause-reports
returns-in-Ok-clause-reports g c =
    let D = g.D.Disk in
    let opened = c.in-Ok.opened in
    if_ok c.print_named-status.result (λ status told. elim (told) [
      | inl reports ↦ inl (store_of opened, opened.found.number, opened.found.trees, (λ f. c.in-Ok.ensures.recovered (subst D.faithful c.into_disk.ensures f)), reports)
      | inr refused ↦ inr (NoMemory, inl refl, refused)
    ]) c.print_named-status.ensures
