use Rattle.std.proofs.Common.{◌∷◌, ◌∙◌, Bool, true, false, ap}
use Rattle.file_disk.specs.declared.record.Call.TheVariants as call
use Rattle.file_disk.specs.Records.{calls_in}
use Rattle.file_disk.proofs.Moments.{back, is_cut, may_be_cut, others_cut, passes}
use Rattle.file_disk.proofs.disk.FileDiskDisk.cut.Goals as goal

pub returns-then-failed-clause-failed : goal.returns-then-failed-clause-failed
returns-then-failed-clause-failed g c = may_be_cut g.W.World.seen (calls_in c.args.self.now.calls) (calls_in c.note.new.self) c.args.file c.args.len (c.note.ensures ∙ ap (λ (b : Bool). call.Cut c.args.file c.args.len b ∷ (calls_in c.args.self.now.calls)) c.if-failed.true)

pub returns-then-failed-clause-others : goal.returns-then-failed-clause-others
returns-then-failed-clause-others g c = others_cut g.W.World.seen (calls_in c.args.self.now.calls) (calls_in c.note.new.self) c.args.file c.args.len true (c.note.ensures ∙ ap (λ (b : Bool). call.Cut c.args.file c.args.len b ∷ (calls_in c.args.self.now.calls)) c.if-failed.true)

pub returns-then-failed-clause-time : goal.returns-then-failed-clause-time
returns-then-failed-clause-time g c = passes g.W.World.seen (calls_in c.args.self.now.calls) (calls_in c.note.new.self) (call.Cut c.args.file c.args.len true) (c.note.ensures ∙ ap (λ (b : Bool). call.Cut c.args.file c.args.len b ∷ (calls_in c.args.self.now.calls)) c.if-failed.true)

pub returns-then-failed-clause-faithful : goal.returns-then-failed-clause-faithful
returns-then-failed-clause-faithful g c = back g.W.World.seen (calls_in c.args.self.now.calls) (calls_in c.note.new.self) (call.Cut c.args.file c.args.len true) (c.note.ensures ∙ ap (λ (b : Bool). call.Cut c.args.file c.args.len b ∷ (calls_in c.args.self.now.calls)) c.if-failed.true)

pub returns-else-failed-clause-cut : goal.returns-else-failed-clause-cut
returns-else-failed-clause-cut g c = λ f. is_cut g.W.World.seen (calls_in c.args.self.now.calls) (calls_in c.note.new.self) c.args.file c.args.len (c.note.ensures ∙ ap (λ (b : Bool). call.Cut c.args.file c.args.len b ∷ (calls_in c.args.self.now.calls)) c.if-failed.false)

pub returns-else-failed-clause-others : goal.returns-else-failed-clause-others
returns-else-failed-clause-others g c = others_cut g.W.World.seen (calls_in c.args.self.now.calls) (calls_in c.note.new.self) c.args.file c.args.len false (c.note.ensures ∙ ap (λ (b : Bool). call.Cut c.args.file c.args.len b ∷ (calls_in c.args.self.now.calls)) c.if-failed.false)

pub returns-else-failed-clause-time : goal.returns-else-failed-clause-time
returns-else-failed-clause-time g c = passes g.W.World.seen (calls_in c.args.self.now.calls) (calls_in c.note.new.self) (call.Cut c.args.file c.args.len false) (c.note.ensures ∙ ap (λ (b : Bool). call.Cut c.args.file c.args.len b ∷ (calls_in c.args.self.now.calls)) c.if-failed.false)

pub returns-else-failed-clause-faithful : goal.returns-else-failed-clause-faithful
returns-else-failed-clause-faithful g c = back g.W.World.seen (calls_in c.args.self.now.calls) (calls_in c.note.new.self) (call.Cut c.args.file c.args.len false) (c.note.ensures ∙ ap (λ (b : Bool). call.Cut c.args.file c.args.len b ∷ (calls_in c.args.self.now.calls)) c.if-failed.false)
