use Rattle.std.proofs.Common.{◌≡◌, ◌∙◌, ◌∷◌, [], arith, length, ap, refl, sym, subst}
use Rattle.std.proofs.lemmas.List.{nil_from_length}
use Rattle.std.specs.Vec.Iter.{into_iter_items}
use Rattle.reply_lines.proofs.Written.{appends_nothing}
use Rattle.store_server.specs.Following.{TellsSubject, before}
use Rattle.store_server.proofs.Subjects.{append_before, tells_more}
use Rattle.store_server.proofs.subject.Subject.tell.Goals as goal

pub loop-change-preserved : goal.loop-change-preserved
loop-change-preserved g c =
    let l = c.loop-change in
    let i = l.invariant in
    let contents = g.W.Write.contents in
    let change = c.in-Some.change in
    let steps : into_iter_items l.change-iterator ≡ change ∷ into_iter_items c.next.new.self = c.in-Some.ensures.steps.0 in
    let one = c.in_ok-tell_one.ensures in (
      omega (arith, i.0, c.in-Some.ensures.steps.1, ap length steps),
      omega (arith, i.1, ap length steps),
      λ is t.
          i.2 is (
            before one.0 t.0,
            tells_more c.args.self.now l.number change (into_iter_items c.next.new.self) (into_iter_items l.change-iterator) one.0 t.0 steps one.1 t.1,
            append_before c.args.named (contents l.writer) (contents c.tell_one.new.writer) is one.0 t.0 one.2 t.2,
          ),
    )

pub returns : goal.returns
returns g c =
    let l = c.loop-change in
    let is = g.W.Write.contents l.writer in
    let none = nil_from_length (into_iter_items l.change-iterator) (sym l.invariant.0 ∙ c.in-None.ensures.steps.0) in
    l.invariant.2 is ([], subst (λ changes. TellsSubject c.args.self.now l.number changes []) (sym none) refl, appends_nothing is)
