use Rattle.std.proofs.Common.{refl, subst, sym}
use Rattle.store_server.specs.Steps.{IsFollowStep}
use Rattle.store_server.proofs.Texts.{keeps_itself}
use Rattle.store_server.proofs.following.follow_step.Goals as goal

pub returns-in_default-clause-told : goal.returns-in_default-clause-told
returns-in_default-clause-told g c =
    let O = g.O.Origin in
    let was = g.W.Write.contents c.args.writer.now in
    subst (IsFollowStep g.O.Start.start O.number O.hives c.args.subject.now c.args.at c.durable_changes.new.self.session.seen was was) (sym c.lacks_memory.ensures) (refl, keeps_itself was)

pub returns-in-Err-NoMemory-clause-told : goal.returns-in-Err-NoMemory-clause-told
returns-in-Err-NoMemory-clause-told g c =
    let O = g.O.Origin in
    let was = g.W.Write.contents c.args.writer.now in
    subst (IsFollowStep g.O.Start.start O.number O.hives c.args.subject.now c.args.at c.durable_changes.new.self.session.seen was was) (sym c.lacks_memory-in-Err-NoMemory.ensures) (refl, keeps_itself was)
