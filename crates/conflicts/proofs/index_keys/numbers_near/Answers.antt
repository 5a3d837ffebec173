use Rattle.std.proofs.Common.{◌++◌, ◌∷◌, [], ap, sym, ◌∙◌, subst}
use Rattle.std.specs.List.Sorted.{IsStrictlySortedBy}
use Rattle.std.specs.Ordering.{nat_cmp}
use Rattle.reg_names.specs.Names.{folded_path}
use Rattle.conflicts.specs.IndexKeys.{ExtendsBelow}
use Rattle.conflicts.proofs.PathIndexKeys.{near_has}
use Rattle.conflicts.proofs.index_keys.numbers_near.Goals as goal

pub returns-then-is_empty-clause-rises : goal.returns-then-is_empty-clause-rises
unfolding IsStrictlySortedBy
returns-then-is_empty-clause-rises c = subst (IsStrictlySortedBy nat_cmp) (sym c.new.ensures.items) tt

pub returns-clause-complete : goal.returns-clause-complete
returns-clause-complete c = λ number held small listed t.
    near_has c.names-2.result.now c.args.claim.now held (ap (λ x. x.key.path) (sym c.claim.view_is) ∙ ap folded_path (sym c.names-2.ensures.names)) c.args.index.now number small listed c.push.new.self.items c.numbers_along.new.text.items
    (c.in_ok-push.ensures.items ∙ ap (λ xs. xs ++ c.from.result ∷ []) c.in_ok-text.ensures.items ∙ ap (λ n. n ∷ []) (c.from.ensures ∙ ap (λ x. x.key.hive) c.claim.view_is))
    c.in_ok-found.ensures.text c.past_of.result c.past_of.ensures c.in_ok-found.found.items c.in_ok-more.more.items c.extend_from_slice.new.self.items c.put_in_order.new.found.items
    c.in_ok-found.ensures.found (λ s h on. c.in_ok-more.ensures s h (subst (λ x. ExtendsBelow x c.past_of.result s.0.items) (sym c.deref.ensures.value) on))
    (rw (← c.deref-2.ensures.value) c.in_ok-extend_from_slice.ensures.items) c.put_in_order.ensures.keeps t
