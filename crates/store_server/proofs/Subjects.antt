-- What is told of changes, one after another.
use Rattle.std.proofs.Common.{◌≡◌, ◌+◌, ℕ, List, [], ◌∷◌, Option, Some, None, refl, sym, subst}
use Rattle.std.specs.Io.KnownBytes.{Appends}
use Rattle.reg_tree.specs.declared.element.Element.{Element}
use Rattle.served_replies.specs.ServedReplies.{served_texts}
use Rattle.served_replies.specs.declared.reply.ServedReply.{ServedReply}
use Rattle.store_server.specs.Following.{TellsOne, TellsSubject, before}
use Rattle.store_server.specs.declared.subject.Subject.{Subject}
use Rattle.store_server.proofs.Texts.{append_texts}

pub tells_more : (subject : Subject) (after : ℕ) (change : Element) (changes left : List Element) (one : Option ServedReply) (rest : List ServedReply) → left ≡ change ∷ changes → TellsOne subject (after + 1) change one → TellsSubject subject (after + 1) changes rest → TellsSubject subject after left (before one rest)
tells_more subject after change changes left one rest are tells more = subst (λ cs. TellsSubject subject after cs (before one rest)) (sym are) (one, rest, tells, more, refl)

pub append_before : (hives : ℕ) (was mid is : Option (List ℕ)) (one : Option ServedReply) (rest : List ServedReply) → Appends was mid (served_texts hives (before one [])) → Appends mid is (served_texts hives rest) → Appends was is (served_texts hives (before one rest))
append_before hives was mid is None rest a b = append_texts hives was mid is [] rest a b
append_before hives was mid is (Some reply) rest a b = append_texts hives was mid is (reply ∷ []) rest a b
