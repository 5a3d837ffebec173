use Rattle.std.proofs.Common.{◌∙◌}
use Rattle.disk_model.proofs.Moments.{states_same}
use Rattle.disk_model.proofs.mem_disk.MemDisk.room.Goals as goal

pub returns-in_err-make_up_to-clause-files : goal.returns-in_err-make_up_to-clause-files
returns-in_err-make_up_to-clause-files c = states_same c.args.self.now.past c.args.self.now.files.items c.make_up_to.new.files.items c.make_up_to.ensures.same

pub returns-clause-files : goal.returns-clause-files
returns-clause-files c =
    states_same c.args.self.now.past c.args.self.now.files.items c.reserve.new.files.items (λ f. c.reserve.ensures.same f ∙ c.make_up_to.ensures.same f)
