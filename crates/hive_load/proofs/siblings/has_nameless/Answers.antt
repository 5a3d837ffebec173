use Rattle.std.proofs.Common.{◌≡◌, ◌≢◌, ◌⊎◌, ◌<◌, ◌≤◌, ◌+◌, ℕ, [], List, ◌∷◌, length, ◌∙◌, ap, sym, subst, arith, Global, inl, inr}
use Rattle.std.specs.declared.sync.Arc.{Arc}
use Rattle.std.proofs.lemmas.Bool.{cases_lt}
use Rattle.hive_tree_model.specs.Lists.{IsIn}
use Rattle.reg_tree_parts.specs.Nodes.{Entries, subkey_entries}
use Rattle.hive_load.specs.Nodes.{names_of}
use Rattle.hive_load.proofs.Sorting.{Nodes, name_at, name_there, name_in, name_from, no_name, some_name}
use Rattle.hive_load.proofs.siblings.has_nameless.Goals as goal

before : (k n : ℕ) → k < n + 1 → (k < n) ⊎ (k ≡ n)
before k n h = elim (cases_lt k n) [ inl l ↦ inl l | inr g ↦ inr (omega (arith, h, g)) ]

none : (nodes : Nodes) (n : ℕ) → length nodes ≤ n → ((k : ℕ) (d : Arc Entries Global) → k < n → name_at nodes k d ≢ []) → (k : ℕ) → k < length nodes → ((d : Arc Entries Global) → [] ≡ name_at nodes k d) → ⊥
none [] n h all k lt e = absurd (omega (arith, lt))
none (x ∷ nodes) n h all k lt e = all k x (omega (arith, h, lt)) (sym (e x))

pub loop-node-init : goal.loop-node-init
loop-node-init c = λ k d lt. absurd (omega (arith, lt))

pub returns-then-is_empty-clause-some : goal.returns-then-is_empty-clause-some
returns-then-is_empty-clause-some c = λ _. subst (λ (n : List ℕ). IsIn n (names_of (subkey_entries c.args.nodes.now)))
    (name_there c.args.nodes.now c.loop-node.node-index c.node-item.result c.loop-node-test.true c.node-item.is c.deref.result.now c.deref.ensures c.key.result.now.name c.units.result.now c.key.ensures.named (c.units.ensures ∙ c.name.ensures) c.node-item.result
    ∙ no_name c.units.result.now (sym c.is_empty.ensures ∙ c.if-is_empty.true))
    (name_in c.args.nodes.now c.loop-node.node-index c.node-item.result c.loop-node-test.true)

pub loop-node-preserved : goal.loop-node-preserved
loop-node-preserved c = λ k d lt e. elim (before k c.loop-node.node-index lt) [
  | inl less ↦ c.loop-node.invariant k d less e
  | inr is ↦ some_name c.units.result.now (sym c.is_empty.ensures ∙ c.if-is_empty.false)
      (sym (name_there c.args.nodes.now c.loop-node.node-index c.node-item.result c.loop-node-test.true c.node-item.is c.deref.result.now c.deref.ensures c.key.result.now.name c.units.result.now c.key.ensures.named (c.units.ensures ∙ c.name.ensures) d)
      ∙ ap (λ z. name_at c.args.nodes.now z d) (sym is) ∙ e)
]

pub returns-clause-none : goal.returns-clause-none
returns-clause-none c = λ _ h. let its = name_from c.args.nodes.now [] h in none c.args.nodes.now c.loop-node.node-index c.loop-node-test.false c.loop-node.invariant its.0 its.1 its.2
