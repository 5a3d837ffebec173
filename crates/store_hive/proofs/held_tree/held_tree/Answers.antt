use Rattle.std.proofs.Common.{◌≢◌, inl, inr, ⊎_elim, subst}
use Rattle.std.proofs.lemmas.Result.{IfOk-weaker, IfErr-weaker}
use Rattle.refusals.specs.declared.refusal.Refusal.{Refusal}
use Rattle.refusals.specs.declared.refusal.Refusal.TheVariants.{DiskFault}
use Rattle.disk_model.specs.StoreFiles.{primary_file, log_file}
use Rattle.hive_files.specs.Contents.{IsHiveRefusal}
use Rattle.hive_flush.specs.Decoders.{unusable}
use Rattle.hive_flush.proofs.Opened.{has_hive}
use Rattle.store_hive.proofs.held_tree.held_tree.Goals as goal

pub returns-in-Ok-clause-held : goal.returns-in-Ok-clause-held
returns-in-Ok-clause-held g c = IfOk-weaker c.of_contents.result _ _ (λ file held faithful.
    let old = g.D.Disk.state_at c.args.disk.now (g.D.Disk.clock c.args.disk.now) in
    held (old (primary_file c.args.hive)).seen (old (log_file c.args.hive)).seen (c.in-Ok.ensures.found faithful)) c.of_contents.ensures.held

pub returns-in-Ok-clause-fails : goal.returns-in-Ok-clause-fails
returns-in-Ok-clause-fails g c = IfErr-weaker c.of_contents.result _ _ (λ why fails. ⊎_elim (λ none. inl none) (λ hive_refusal. inr (inr (
  hive_refusal.0,
  λ faithful.
      let old = g.D.Disk.state_at c.args.disk.now (g.D.Disk.clock c.args.disk.now) in
      hive_refusal.1 (old (primary_file c.args.hive)).seen (old (log_file c.args.hive)).seen (c.in-Ok.ensures.found faithful),
))) fails) c.of_contents.ensures.fails

pub returns-in-Err-clause-fails : goal.returns-in-Err-clause-fails
returns-in-Err-clause-fails g c = ⊎_elim (λ none. inl (c.file_refusal.ensures.memory none)) (λ other. ⊎_elim (λ fault. inr (inl (c.file_refusal.ensures.fault fault.0, fault.1)))
    (λ nothing.
    let works : c.in-Err.why ≢ DiskFault = λ e. subst (λ (r : Refusal). IsHiveRefusal r) e nothing.0 in
    ⊎_elim (λ none. inl none) (λ is. inr (inr (
      is,
      λ faithful. record {
        none = λ held h. (nothing.1 faithful).none (has_hive c.args.store _ _ held h);
        tells = unusable c.in-Err.why (c.file_refusal.ensures.cause works) (nothing.1 faithful).tells;
      },
    ))) (c.file_refusal.ensures.hive_refusal works)) other) c.in-Err.ensures.fails
