use Rattle.std.proofs.Common.{arith}
use Rattle.std.proofs.lemmas.Grind.{common_steps}
use Rattle.disk_model.specs.FileState.{Writes}
use Rattle.disk_model.specs.PendingWrites.{file_of}
use Rattle.disk_model.specs.MemFile.{file_state}
use Rattle.disk_model.proofs.Sound.{sound-writes}
use Rattle.disk_model.proofs.Whole.{whole-writes}
use Rattle.disk_model.proofs.mem_file.MemFile.write.Goals as goal

pub invariant_of-self-2 : goal.invariant_of-self-2
invariant_of-self-2 c =
    let done : Writes c.args.offset c.args.bytes.now (file_state c.args.self.now) (file_of c.args.self.now.synced.items c.overwrite.new.file.items c.push_reserved.new.self.items c.args.self.now.least c.max-self.result) = grind (arith, common_steps) in
    record {
      sound = sound-writes _ _ _ _ c.args.self.now.sound done;
      whole = whole-writes _ _ _ _ c.args.self.now.sound c.args.self.now.whole done;
    }
