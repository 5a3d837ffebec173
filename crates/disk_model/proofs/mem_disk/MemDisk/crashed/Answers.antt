use Rattle.std.proofs.Common.{sym, subst}
use Rattle.disk_model.specs.FileState.{FileState, Leaves}
use Rattle.disk_model.specs.MemDisk.{states}
use Rattle.disk_model.specs.MemFile.{state_of}
use Rattle.disk_model.specs.Tear.{IsCrashOf, WritesWholeSectors}
use Rattle.disk_model.specs.Sector.{IsHonest}
use Rattle.disk_model.proofs.HonestTears.{honest_of_crash}
use Rattle.disk_model.proofs.Tears.{whole-state_of}
use Rattle.disk_model.specs.MemSound.{sound-state_of}
use Rattle.disk_model.proofs.Left.{leaves_of_crash}
use Rattle.disk_model.proofs.Moments.{states_now}
use Rattle.disk_model.proofs.mem_disk.MemDisk.crashed.Goals as goal

pub returns-clause-left : goal.returns-clause-left
unfolding states
returns-clause-left c =
    λ f. subst (λ (s : FileState). IsCrashOf c.args.tear s (state_of c.in_ok-files_after.field-0.items f)) (sym (states_now c.args.self.now.past c.args.self.now.files.items f)) (c.in_ok-files_after.ensures f)

pub returns-clause-allowed : goal.returns-clause-allowed
unfolding states
returns-clause-allowed c =
    λ f. let past = c.args.self.now.past in let files = c.args.self.now.files.items in
    subst (λ (s : FileState). Leaves s (state_of c.in_ok-files_after.field-0.items f).seen) (sym (states_now past files f))
    (leaves_of_crash c.args.tear (state_of files f) (state_of c.in_ok-files_after.field-0.items f) (sound-state_of files f) (c.in_ok-files_after.ensures f))

pub returns-clause-honest : goal.returns-clause-honest
unfolding states
returns-clause-honest c =
    λ f. let past = c.args.self.now.past in let files = c.args.self.now.files.items in
    subst (λ (s : FileState). WritesWholeSectors s → IsHonest s (state_of c.in_ok-files_after.field-0.items f).seen) (sym (states_now past files f))
    (honest_of_crash c.args.tear (state_of files f) (state_of c.in_ok-files_after.field-0.items f) (sound-state_of files f) (whole-state_of files f) (c.in_ok-files_after.ensures f))
