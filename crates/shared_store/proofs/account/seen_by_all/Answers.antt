use Rattle.std.proofs.Common.{◌≡◌, ◌∙◌, ◌+◌, ◌<◌, ◌⊎◌, ⊎_elim, ℕ, arith, rules, slice_index_or, subst, sym}
use Rattle.std.proofs.lemmas.Bool.Decides.{nat_tests}
use Rattle.std.proofs.lemmas.List.{get_or_read_under}
use mathlib.Core.List.{IsPrefix}
use Rattle.published_trees.proofs.Prefixes.{prefix_trans}
use Rattle.shared_store.specs.declared.account.Account.{Account}
use Rattle.shared_store.proofs.account.seen_by_all.Goals as goal

below : (k i : ℕ) → k < i + 1 → (k < i) ⊎ (k ≡ i)
below k i less = grind (arith, nat_tests)

pub loop-i-preserved : goal.loop-i-preserved
loop-i-preserved g c =
    let was = c.loop-i.invariant in
    let old = c.loop-i.all.log in
    let new = c.learn.new.self.log in (
      c.learn.ensures.book ∙ was.0,
      prefix_trans c.args.before.now.log old new was.1 c.learn.ensures.this,
      λ k d less. ⊎_elim
          (λ (before : k < c.loop-i.i). prefix_trans _ old new (was.2 k d before) c.learn.ensures.this)
          (λ (now : k ≡ c.loop-i.i).
          let here : slice_index_or c.args.accounts.now.items c.loop-i.i d ≡ c.index.result.now = sym (get_or_read_under c.args.accounts.now.items c.loop-i.i c.args.accounts.now.len c.index.result.now d c.index.ensures (search rules) (search rules)) in
          rw now (subst (λ (a : Account _). IsPrefix a.seen.log new) (sym here) c.learn.ensures.that))
          (below k c.loop-i.i less),
    )
