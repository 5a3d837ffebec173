use Rattle.std.proofs.Common.{◌≡◌, ◌+◌, List, Option, ℕ, length}
use Rattle.std.specs.Io.KnownBytes.{Appends}
use Rattle.std.specs.Vec.Iter.{into_iter_items, into_iter_len}
use Rattle.served_replies.specs.ServedReplies.{served_texts}
use Rattle.served_replies.specs.declared.reply.ServedReply.{ServedReply}
use Rattle.store_server.specs.Following.{TellsSubject}
use Rattle.store_server.proofs.subject.Subject.tell.Given as goal

-- whatever is told from here, that is told from the first change on with what was told so far
abbrev pub invariant-loop-change : goal.invariant-loop-change
invariant-loop-change g l =
    let contents = g.W.Write.contents in
    (into_iter_len l.change-iterator ≡ length (into_iter_items l.change-iterator))
    × (l.number + length (into_iter_items l.change-iterator) ≡ l.after + length l.fn.changes.items)
    × ((is : Option (List ℕ)) → ((told : List ServedReply) × TellsSubject l.self l.number (into_iter_items l.change-iterator) told × Appends (contents l.writer) is (served_texts l.named told))
    → (told : List ServedReply) × TellsSubject l.self l.after l.fn.changes.items told × Appends (contents l.fn.writer) is (served_texts l.named told))
