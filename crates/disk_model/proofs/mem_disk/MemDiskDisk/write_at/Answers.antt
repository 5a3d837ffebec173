use Rattle.std.proofs.Common.{◌≡◌, ◌∷◌, rules}
use Rattle.disk_model.specs.MemDisk.{earlier}
use Rattle.disk_model.proofs.Moments.{passes}
use Rattle.disk_model.proofs.mem_disk.MemDiskDisk.write_at.Goals as goal

pub returns-clause-time : goal.returns-clause-time
returns-clause-time c =
    let moments : earlier c.then.new.self ≡ c.args.self.now.files.items ∷ earlier c.args.self.now.past = search rules in
    passes _ _ _ _ moments
