use Rattle.std.proofs.Common.{◌∷◌, ◌∙◌, Bool, true, false, ap}
use Rattle.file_disk.specs.declared.record.Call.TheVariants as call
use Rattle.file_disk.specs.Records.{calls_in}
use Rattle.file_disk.proofs.Moments.{back, is_written, may_be_written, others_written, passes}
use Rattle.file_disk.proofs.disk.FileDiskDisk.write_at.Goals as goal

pub returns-then-failed-clause-failed : goal.returns-then-failed-clause-failed
returns-then-failed-clause-failed g c = may_be_written g.W.World.seen (calls_in c.args.self.now.calls) (calls_in c.note.new.self) c.args.file c.args.offset c.noted-bytes.result c.args.bytes.now c.noted-bytes.ensures (c.note.ensures ∙ ap (λ (b : Bool). call.Written c.args.file c.args.offset c.noted-bytes.result b ∷ (calls_in c.args.self.now.calls)) c.if-failed.true)

pub returns-then-failed-clause-others : goal.returns-then-failed-clause-others
returns-then-failed-clause-others g c = others_written g.W.World.seen (calls_in c.args.self.now.calls) (calls_in c.note.new.self) c.args.file c.args.offset c.noted-bytes.result true (c.note.ensures ∙ ap (λ (b : Bool). call.Written c.args.file c.args.offset c.noted-bytes.result b ∷ (calls_in c.args.self.now.calls)) c.if-failed.true)

pub returns-then-failed-clause-time : goal.returns-then-failed-clause-time
returns-then-failed-clause-time g c = passes g.W.World.seen (calls_in c.args.self.now.calls) (calls_in c.note.new.self) (call.Written c.args.file c.args.offset c.noted-bytes.result true) (c.note.ensures ∙ ap (λ (b : Bool). call.Written c.args.file c.args.offset c.noted-bytes.result b ∷ (calls_in c.args.self.now.calls)) c.if-failed.true)

pub returns-then-failed-clause-faithful : goal.returns-then-failed-clause-faithful
returns-then-failed-clause-faithful g c = back g.W.World.seen (calls_in c.args.self.now.calls) (calls_in c.note.new.self) (call.Written c.args.file c.args.offset c.noted-bytes.result true) (c.note.ensures ∙ ap (λ (b : Bool). call.Written c.args.file c.args.offset c.noted-bytes.result b ∷ (calls_in c.args.self.now.calls)) c.if-failed.true)

pub returns-else-failed-clause-written : goal.returns-else-failed-clause-written
returns-else-failed-clause-written g c = λ f. is_written g.W.World.seen (calls_in c.args.self.now.calls) (calls_in c.note.new.self) c.args.file c.args.offset c.noted-bytes.result c.args.bytes.now c.noted-bytes.ensures (c.note.ensures ∙ ap (λ (b : Bool). call.Written c.args.file c.args.offset c.noted-bytes.result b ∷ (calls_in c.args.self.now.calls)) c.if-failed.false)

pub returns-else-failed-clause-others : goal.returns-else-failed-clause-others
returns-else-failed-clause-others g c = others_written g.W.World.seen (calls_in c.args.self.now.calls) (calls_in c.note.new.self) c.args.file c.args.offset c.noted-bytes.result false (c.note.ensures ∙ ap (λ (b : Bool). call.Written c.args.file c.args.offset c.noted-bytes.result b ∷ (calls_in c.args.self.now.calls)) c.if-failed.false)

pub returns-else-failed-clause-time : goal.returns-else-failed-clause-time
returns-else-failed-clause-time g c = passes g.W.World.seen (calls_in c.args.self.now.calls) (calls_in c.note.new.self) (call.Written c.args.file c.args.offset c.noted-bytes.result false) (c.note.ensures ∙ ap (λ (b : Bool). call.Written c.args.file c.args.offset c.noted-bytes.result b ∷ (calls_in c.args.self.now.calls)) c.if-failed.false)

pub returns-else-failed-clause-faithful : goal.returns-else-failed-clause-faithful
returns-else-failed-clause-faithful g c = back g.W.World.seen (calls_in c.args.self.now.calls) (calls_in c.note.new.self) (call.Written c.args.file c.args.offset c.noted-bytes.result false) (c.note.ensures ∙ ap (λ (b : Bool). call.Written c.args.file c.args.offset c.noted-bytes.result b ∷ (calls_in c.args.self.now.calls)) c.if-failed.false)
