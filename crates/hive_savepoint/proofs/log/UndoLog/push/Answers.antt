use Rattle.std.proofs.Common.{◌∙◌, ap, ◌++◌, ◌∷◌, []}
use Rattle.std.proofs.lemmas.List.{with_items_is}
use Rattle.hive_savepoint.proofs.Logs.{pushed_all, page_of, page_long}
use Rattle.hive_savepoint.proofs.log.UndoLog.push.Goals as goal

pub invariant_of-self-2 : goal.invariant_of-self-2
invariant_of-self-2 c =
    rw (with_items_is c.self.inside.marks c.set_mark.new.words (c.set_mark.auto.words ∙ c.deref_mut.ensures.len))
    (pushed_all c.self.inside.marks.items c.deref_mut.result.now c.set_mark.new.words c.self.inside.order.items c.push_reserved.new.self.items c.self.inside.saved.items c.extend_from_slice.new.self.items (page_of c.args.bytes.now c.args.page) c.args.page
    c.deref_mut.ensures.value c.self.invariant c.requires.most c.set_mark.auto.words c.set_mark.ensures.here c.set_mark.ensures.others (page_long c.args.bytes.now c.args.page c.requires.within)
    (c.push_reserved.ensures.items ∙ ap (λ xs. xs ++ c.args.page ∷ []) c.in_ok-reserve.ensures.items) c.in_ok-extend_from_slice.ensures.items)
