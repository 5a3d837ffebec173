use Rattle.std.proofs.Common.{◌≡◌, ◌∙◌, ◌∷◌, [], ◌-◌, inl, inr, List, arith, drop, length, refl, subst, sym, ap, take}
use Rattle.std.proofs.lemmas.List.{length-drop, take_rest}
use Rattle.std.specs.Io.KnownBytes.{Appends}
use Rattle.reg_tree.specs.declared.element.Element.{Element}
use Rattle.commit_journal.specs.Numbered.{numbered}
use Rattle.served_replies.specs.ServedReplies.{served_text, served_texts}
use Rattle.served_replies.specs.declared.reply.ServedReply.{ServedReply}
use Rattle.served_replies.specs.declared.reply.ServedReply.TheVariants.{Followed, NotFound}
use Rattle.store_changes.specs.Followed.{told_changes}
use Rattle.store_changes.proofs.Told.{if_ok, prints_all, prints_from_where, prints_some}
use Rattle.store_changes.proofs.report.tell_after.Goals as goal

pub returns-then-after-held : goal.returns-then-after-held
returns-then-after-held g c =
    let contents = g.W.Write.contents in
    let held = c.args.held.now in
    if_ok c.tell_last.result (λ its printed. prints_from_where held.named held.base c.args.after held.changes.items (NotFound held.base) (contents c.args.writer.now) (contents c.tell_last.new.writer) its (inl (c.if-after-held.true, refl)) printed) c.tell_last.ensures

pub returns-then-after-held-2 : goal.returns-then-after-held-2
returns-then-after-held-2 g c =
    let contents = g.W.Write.contents in
    let held = c.args.held.now in
    let told = c.tell_last-then-after-held-2 in
    let above = c.if-after-held-2.true in
    if_ok told.result (λ its printed. prints_from_where held.named held.base c.args.after held.changes.items (NotFound held.number) (contents c.args.writer.now) (contents told.new.writer) its
    (inr (omega (arith, above, held.last), ap (λ n. NotFound n ∷ []) (sym held.last))) printed) told.ensures

pub returns-then-told-rest : goal.returns-then-told-rest
returns-then-told-rest g c =
    let contents = g.W.Write.contents in
    let held = c.args.held.now in
    let items = c.deref.result.now in
    let place = c.args.after - held.base in
    let rest = take (length items - place) (drop place items) in
    let are : rest ≡ drop place held.changes.items = take_rest items place ∙ ap (λ (l : List Element). drop place l) c.deref.ensures.value in
    let long : length rest ≡ length held.changes.items - place = ap (λ (l : List Element). length l) are ∙ length-drop place held.changes.items in
    let told = subst (λ n. Appends (contents c.args.writer.now) (contents c.tell_changes.new.writer) (served_texts n (told_changes (take c.in_ok-told.told (numbered c.args.after rest))))) c.from-named.ensures c.in_ok-told.ensures.1 in
    let last = c.tell_last-then-told-rest in
    if_ok last.result (λ its printed. prints_some held.named held.base c.args.after c.in_ok-told.told held.changes.items rest (contents c.args.writer.now) (contents c.tell_changes.new.writer) (contents last.new.writer) its c.if-after-held.false are told
    (omega (arith, c.if-told-rest.true, long, held.last, c.if-after-held.false, c.if-after-held-2.false))
    (subst (λ (reply : ServedReply). Appends (contents c.tell_changes.new.writer) (contents last.new.writer) (served_text c.from-named.result reply)) c.refused.ensures printed.0, printed.1)) last.ensures

pub returns : goal.returns
returns g c =
    let contents = g.W.Write.contents in
    let held = c.args.held.now in
    let items = c.deref.result.now in
    let place = c.args.after - held.base in
    let rest = take (length items - place) (drop place items) in
    let are : rest ≡ drop place held.changes.items = take_rest items place ∙ ap (λ (l : List Element). drop place l) c.deref.ensures.value in
    let told = subst (λ n. Appends (contents c.args.writer.now) (contents c.tell_changes.new.writer) (served_texts n (told_changes (take c.in_ok-told.told (numbered c.args.after rest))))) c.from-named.ensures c.in_ok-told.ensures.1 in
    let last = c.tell_last-2 in
    if_ok last.result (λ its printed. prints_all held.named held.base c.args.after c.in_ok-told.told held.changes.items rest (contents c.args.writer.now) (contents c.tell_changes.new.writer) (contents last.new.writer) its c.if-after-held.false are told
    (omega (arith, held.last, c.if-after-held-2.false)) c.if-told-rest.false
    (subst (λ n. Appends (contents c.tell_changes.new.writer) (contents last.new.writer) (served_text held.named (Followed n))) (sym held.last) printed.0, printed.1)) last.ensures
