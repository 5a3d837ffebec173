use Rattle.std.proofs.Common.{List, Option, ℕ}
use Rattle.std.specs.Io.KnownBytes.{Appends}
use Rattle.reg_tree.specs.declared.element.Element.{Element}
use Rattle.registry_lines.specs.Interpreters.{script_of}
use Rattle.registry_lines.specs.Scripts.{Script}
use Rattle.served_replies.specs.ServedReplies.{served_texts}
use Rattle.served_replies.specs.declared.reply.ServedReply.{ServedReply}
use Rattle.store_server.specs.Following.{FollowsOn, MayFlush}
use Rattle.store_server.proofs.following.follow_on.Given as goal

-- whatever is told from here, that is told from the first change on with what was told so far
abbrev pub invariant-loop : goal.invariant-loop
invariant-loop g l =
    let O = g.O.Origin in
    let S = g.O.Start in
    let contents = g.W.Write.contents in
    MayFlush S.sole S.start O.trees O.number O.hives (script_of l.fn.script) (script_of l.script)
    × ((new : Script) (is : Option (List ℕ)) → ((chunks : List (List Element)) × (told : List ServedReply) × FollowsOn S.sole S.start O.trees O.number O.hives l.subject (script_of l.script) l.at chunks told new × Appends (contents l.writer) is (served_texts O.hives told))
    → (chunks : List (List Element)) × (told : List ServedReply) × FollowsOn S.sole S.start O.trees O.number O.hives l.subject (script_of l.fn.script) l.after chunks told new × Appends (contents l.fn.writer) is (served_texts O.hives told))
