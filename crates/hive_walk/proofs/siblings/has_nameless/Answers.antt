use Rattle.std.proofs.Common.{◌≡◌, ◌≢◌, ◌⊎◌, ◌<◌, ◌≤◌, ◌+◌, ℕ, [], List, ◌∷◌, length, ◌∙◌, ap, sym, subst, arith, inl, inr}
use Rattle.std.proofs.lemmas.Bool.{cases_lt}
use Rattle.reg_names.specs.Names.{folded}
use Rattle.hive_tree_model.specs.Lists.{IsIn}
use Rattle.hive_load.proofs.Sorting.{no_name, some_name}
use Rattle.hive_walk.specs.declared.siblings.Sibling.{Sibling}
use Rattle.hive_walk.specs.Siblings.{sibling_names}
use Rattle.hive_walk.proofs.Order.{name_at, here_is, name_in, name_from}
use Rattle.hive_walk.proofs.siblings.has_nameless.Goals as goal

before : (k n : ℕ) → k < n + 1 → (k < n) ⊎ (k ≡ n)
before k n h = elim (cases_lt k n) [ inl l ↦ inl l | inr g ↦ inr (omega (arith, h, g)) ]

none : (siblings : List Sibling) (n : ℕ) → length siblings ≤ n → ((k : ℕ) (d : Sibling) → k < n → name_at siblings k d ≢ []) → (k : ℕ) → k < length siblings → ((d : Sibling) → [] ≡ name_at siblings k d) → ⊥
none [] n h all k lt e = absurd (omega (arith, lt))
none (x ∷ siblings) n h all k lt e = all k x (omega (arith, h, lt)) (sym (e x))

pub loop-sibling-init : goal.loop-sibling-init
loop-sibling-init c = λ k d lt. absurd (omega (arith, lt))

pub returns-then-is_empty-clause-some : goal.returns-then-is_empty-clause-some
returns-then-is_empty-clause-some c = λ _. subst (λ (n : List ℕ). IsIn n (sibling_names c.args.siblings.now))
    (here_is c.args.siblings.now c.loop-sibling.sibling-index c.sibling-item.result c.sibling-item.result c.loop-sibling-test.true c.sibling-item.is ∙ ap folded (sym c.units.ensures)
    ∙ no_name c.units.result.now (sym c.is_empty.ensures ∙ c.if-is_empty.true))
    (name_in c.args.siblings.now c.loop-sibling.sibling-index c.sibling-item.result c.loop-sibling-test.true)

pub loop-sibling-preserved : goal.loop-sibling-preserved
loop-sibling-preserved c = λ k d lt e. elim (before k c.loop-sibling.sibling-index lt) [
  | inl less ↦ c.loop-sibling.invariant k d less e
  | inr is ↦ some_name c.units.result.now (sym c.is_empty.ensures ∙ c.if-is_empty.false)
      (ap folded c.units.ensures ∙ sym (here_is c.args.siblings.now c.loop-sibling.sibling-index c.sibling-item.result d c.loop-sibling-test.true c.sibling-item.is)
      ∙ ap (λ z. name_at c.args.siblings.now z d) (sym is) ∙ e)
]

pub returns-clause-none : goal.returns-clause-none
returns-clause-none c = λ _ h. let its = name_from c.args.siblings.now [] h in none c.args.siblings.now c.loop-sibling.sibling-index c.loop-sibling-test.false c.loop-sibling.invariant its.0 its.1 its.2
