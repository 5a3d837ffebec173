use Rattle.file_disk.specs.declared.record.Call.TheVariants as call
use Rattle.file_disk.specs.Records.{calls_in}
use Rattle.file_disk.proofs.Moments.{back, is_read, passes, same_denied, same_read}
use Rattle.file_disk.proofs.disk.FileDiskDisk.read.Goals as goal

pub returns-in-Ok-clause-read : goal.returns-in-Ok-clause-read
returns-in-Ok-clause-read g c = is_read g.W.World.seen (calls_in c.args.self.now.calls) (calls_in c.note.new.self) c.args.file c.args.offset c.noted-before.result c.noted-after.result c.in-Ok.count c.args.buffer.now c.read.new.buffer c.noted-before.ensures c.noted-after.ensures c.note.ensures

pub returns-in-Ok-clause-same : goal.returns-in-Ok-clause-same
returns-in-Ok-clause-same g c = same_read g.W.World.seen (calls_in c.args.self.now.calls) (calls_in c.note.new.self) c.args.file c.args.offset c.noted-before.result c.noted-after.result c.in-Ok.count c.note.ensures

pub returns-in-Ok-clause-time : goal.returns-in-Ok-clause-time
returns-in-Ok-clause-time g c = passes g.W.World.seen (calls_in c.args.self.now.calls) (calls_in c.note.new.self) (call.Read c.args.file c.args.offset c.noted-before.result c.noted-after.result c.in-Ok.count) c.note.ensures

pub returns-in-Ok-clause-faithful : goal.returns-in-Ok-clause-faithful
returns-in-Ok-clause-faithful g c = back g.W.World.seen (calls_in c.args.self.now.calls) (calls_in c.note.new.self) (call.Read c.args.file c.args.offset c.noted-before.result c.noted-after.result c.in-Ok.count) c.note.ensures

pub returns-in-Err-clause-same : goal.returns-in-Err-clause-same
returns-in-Err-clause-same g c = same_denied g.W.World.seen (calls_in c.args.self.now.calls) (calls_in c.denied.new.self.calls) c.denied.ensures.noted

pub returns-in-Err-clause-time : goal.returns-in-Err-clause-time
returns-in-Err-clause-time g c = passes g.W.World.seen (calls_in c.args.self.now.calls) (calls_in c.denied.new.self.calls) call.Denied c.denied.ensures.noted

pub returns-in-Err-clause-faithful : goal.returns-in-Err-clause-faithful
returns-in-Err-clause-faithful g c = back g.W.World.seen (calls_in c.args.self.now.calls) (calls_in c.denied.new.self.calls) call.Denied c.denied.ensures.noted
