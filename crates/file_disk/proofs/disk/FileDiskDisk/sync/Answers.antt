use Rattle.file_disk.specs.declared.record.Call.TheVariants as call
use Rattle.file_disk.specs.Records.{calls_in}
use Rattle.file_disk.proofs.Moments.{back, is_synced, others_synced, passes, same_denied, told_anyway}
use Rattle.file_disk.proofs.disk.FileDiskDisk.sync.Goals as goal

pub returns-in-Ok-clause-synced : goal.returns-in-Ok-clause-synced
returns-in-Ok-clause-synced g c = λ f. is_synced g.W.World.seen (calls_in c.args.self.now.calls) (calls_in c.note.new.self) c.args.file c.note.ensures

pub returns-in-Ok-clause-others : goal.returns-in-Ok-clause-others
returns-in-Ok-clause-others g c = others_synced g.W.World.seen (calls_in c.args.self.now.calls) (calls_in c.note.new.self) c.args.file c.note.ensures

pub returns-in-Ok-clause-time : goal.returns-in-Ok-clause-time
returns-in-Ok-clause-time g c = passes g.W.World.seen (calls_in c.args.self.now.calls) (calls_in c.note.new.self) (call.Synced c.args.file) c.note.ensures

pub returns-in-Ok-clause-faithful : goal.returns-in-Ok-clause-faithful
returns-in-Ok-clause-faithful g c = back g.W.World.seen (calls_in c.args.self.now.calls) (calls_in c.note.new.self) (call.Synced c.args.file) c.note.ensures

pub returns-in-Err-clause-failed : goal.returns-in-Err-clause-failed
returns-in-Err-clause-failed g c = told_anyway c.denied.result (λ f. same_denied g.W.World.seen (calls_in c.args.self.now.calls) (calls_in c.denied.new.self.calls) c.denied.ensures.noted c.args.file)

pub returns-in-Err-clause-others : goal.returns-in-Err-clause-others
returns-in-Err-clause-others g c = λ f not. same_denied g.W.World.seen (calls_in c.args.self.now.calls) (calls_in c.denied.new.self.calls) c.denied.ensures.noted f

pub returns-in-Err-clause-time : goal.returns-in-Err-clause-time
returns-in-Err-clause-time g c = passes g.W.World.seen (calls_in c.args.self.now.calls) (calls_in c.denied.new.self.calls) call.Denied c.denied.ensures.noted

pub returns-in-Err-clause-faithful : goal.returns-in-Err-clause-faithful
returns-in-Err-clause-faithful g c = back g.W.World.seen (calls_in c.args.self.now.calls) (calls_in c.denied.new.self.calls) call.Denied c.denied.ensures.noted
