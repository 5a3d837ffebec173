use Rattle.std.proofs.Common.{◌≡◌, ◌∙◌, ℕ, sym, subst, refl, length}
use Rattle.std.specs.Vec.{with_item}
use Rattle.std.proofs.lemmas.Option.{same_Some, slice_get_read}
use Rattle.std.proofs.lemmas.Result.{on_ok_weaker}
use Rattle.disk_model.specs.FileState.{FileState}
use Rattle.disk_model.specs.StoreFiles.{IsFileOfHive, primary_file, log_file}
use Rattle.hive_flush.specs.HiveStates.{FilesMatchHive, HiveIsRepaired, hive_number}
use Rattle.hive_flush.specs.declared.hive.HiveFile.{HiveFile}
use Rattle.engine_invariant.proofs.HiveLists.{hive_writes}
use Rattle.recovery.proofs.Counting.{fewer_left}
use Rattle.recovery.proofs.Repairs.{kept_on, works_on, views_on, only_fault}
use Rattle.recovery.proofs.found.RecoveredStore.repair.Goals as goal

pub returns-clause-kept : goal.returns-clause-kept
returns-clause-kept g c =
    let s = c.args.self.now in
    let e = c.repair_step.ensures in
    kept_on s c.args.place c.index_mut.result.now c.repair_step.new.self (with_item s.hives c.args.place c.repair_step.new.self) refl c.requires.kept c.requires.there c.index_mut.ensures.value e.files e.memory e.place e.store

pub returns-clause-works : goal.returns-clause-works
returns-clause-works g c =
    let s = c.args.self.now in
    let is = slice_get_read s.hives.items (length s.hives.items) c.args.place c.index_mut.result.now refl c.requires.there c.index_mut.ensures.value in
    works_on s.hives.items c.args.place c.index_mut.result.now c.repair_step.new.self is c.repair_step.result c.requires.works c.repair_step.ensures.broken.0

pub returns-clause-same : goal.returns-clause-same
returns-clause-same g c =
    views_on c.args.self.now.hives.items c.args.place c.index_mut.result.now c.repair_step.new.self c.index_mut.ensures.value c.repair_step.ensures.files c.repair_step.ensures.memory

pub returns-clause-on_disk : goal.returns-clause-on_disk
returns-clause-on_disk g c =
    let s = c.args.self.now in
    let is = slice_get_read s.hives.items (length s.hives.items) c.args.place c.index_mut.result.now refl c.requires.there c.index_mut.ensures.value in
    let its : hive_number c.index_mut.result.now ≡ c.args.place = c.requires.kept.placed.place c.args.place c.index_mut.result.now is in
    let old : ℕ → FileState = g.D.Disk.state_at c.args.disk.now (g.D.Disk.clock c.args.disk.now) in
    let new : ℕ → FileState = g.D.Disk.state_at c.repair_step.new.disk (g.D.Disk.clock c.repair_step.new.disk) in
    λ f on. hive_writes s.journal s.hives.items c.args.place c.index_mut.result.now c.repair_step.new.self old new is on
    (λ file none. c.repair_step.ensures.call.others file (λ own. none (subst (λ n. IsFileOfHive n file) its own)))
    (subst (λ n. FilesMatchHive c.repair_step.new.self (new (primary_file n)) (new (log_file n))) its (c.repair_step.ensures.on f (subst (λ n. FilesMatchHive c.index_mut.result.now (old (primary_file n)) (old (log_file n))) (sym its) (on.each c.args.place c.index_mut.result.now is))))

pub returns-clause-refused : goal.returns-clause-refused
returns-clause-refused g c =
    let s = c.args.self.now in
    let is = slice_get_read s.hives.items (length s.hives.items) c.args.place c.index_mut.result.now refl c.requires.there c.index_mut.ensures.value in
    only_fault c.repair_step.result c.repair_step.ensures.refused (λ e. c.requires.works c.args.place c.index_mut.result.now is (c.repair_step.ensures.faulted.0 e))

pub returns-clause-fewer : goal.returns-clause-fewer
returns-clause-fewer g c = on_ok_weaker c.repair_step.result (λ less hive at not.
    let s = c.args.self.now in
    let is = slice_get_read s.hives.items (length s.hives.items) c.args.place c.index_mut.result.now refl c.requires.there c.index_mut.ensures.value in
    fewer_left s.hives.items c.args.place c.index_mut.result.now c.repair_step.new.self is (less (subst (λ (h : HiveFile). ¬ (HiveIsRepaired h)) (same_Some hive c.index_mut.result.now (sym at ∙ is)) not))) c.repair_step.ensures.repairs
