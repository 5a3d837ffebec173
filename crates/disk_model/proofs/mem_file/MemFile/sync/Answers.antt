use Rattle.std.proofs.Common.{ℕ, List, refl, sym, subst}
use Rattle.std.specs.Prelude.{map}
use Rattle.disk_model.specs.MemFile.{file_state}
use Rattle.disk_model.specs.PendingWrites.{range_of, IsApart}
use Rattle.disk_model.specs.declared.pending_write.PendingWrite.{PendingWrite}
use Rattle.disk_model.proofs.CaughtUp.{apart_of_sound}
use Rattle.disk_model.proofs.mem_file.MemFile.sync.Goals as goal

pub catch_up-requires : goal.catch_up-requires
catch_up-requires c =
    let file = c.args.self.now in
    let apart = apart_of_sound (file_state file) (map range_of file.written.items) refl file.sound in
    subst (λ (seen : List ℕ). IsApart (map range_of c.deref-2.result.now) file.least file.synced.items seen) (sym c.deref.ensures.value)
    (subst (λ (written : List PendingWrite). IsApart (map range_of written) file.least file.synced.items file.seen.items) (sym c.deref-2.ensures.value) apart)
