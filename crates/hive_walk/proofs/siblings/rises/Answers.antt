use Rattle.std.proofs.Common.{◌≡◌, ◌⊎◌, inl, inr, ◌<◌, ◌+◌, ◌-◌, ℕ, suc, List, length, get_or, ◌∙◌, ap, sym, arith}
use Rattle.std.specs.Ordering.{is_lt}
use Rattle.std.proofs.lemmas.Bool.{cases_lt}
use Rattle.reg_names.specs.Names.{folded}
use Rattle.reg_tree_parts.specs.Orders.{name_order}
use Rattle.hive_load.proofs.Sorting.{lt_is}
use Rattle.hive_walk.specs.declared.siblings.Sibling.{Sibling}
use Rattle.hive_walk.proofs.Order.{name_at, here_is, rises_if, falls_if}
use Rattle.hive_walk.proofs.siblings.rises.Goals as goal

before : (k n : ℕ) → k + 1 < n + 1 → (k + 1 < n) ⊎ (suc k ≡ n)
before k n h = elim (cases_lt (k + 1) n) [ inl l ↦ inl l | inr g ↦ inr (omega (arith, h, g)) ]

-- the order of two neighbours
order_is : (siblings : List Sibling) (n k : ℕ) (a b d : Sibling) → n < length siblings → suc k ≡ n → a ≡ get_or siblings (n - 1) a → b ≡ get_or siblings n b → name_order (name_at siblings k d) (name_at siblings (suc k) d) ≡ name_order (folded a.name) (folded b.name)
order_is siblings n k a b d lt is e f =
    let first : n - 1 ≡ k = omega (arith, is) in
    let here : name_at siblings k d ≡ folded a.name = here_is siblings k a d (omega (arith, lt, is)) (e ∙ ap (λ z. get_or siblings z a) first) in
    let next : name_at siblings (suc k) d ≡ folded b.name = here_is siblings (suc k) b d (omega (arith, lt, is)) (f ∙ ap (λ z. get_or siblings z b) (sym is)) in
    λ i. name_order (here i) (next i)

pub loop-index-init : goal.loop-index-init
loop-index-init c = λ k d lt. absurd (omega (arith, lt))

pub returns-then-not-is_lt : goal.returns-then-not-is_lt
returns-then-not-is_lt c =
    let last : suc (c.loop-index.index - 1) ≡ c.loop-index.index = omega arith in
    falls_if c.args.siblings.now (c.loop-index.index - 1) c.index-siblings-index.result (omega arith)
    (ap is_lt (order_is c.args.siblings.now c.loop-index.index (c.loop-index.index - 1) c.index-siblings-index.result c.index-siblings-index-in-loop-index.result c.index-siblings-index.result c.loop-index-test.true last c.index-siblings-index.is c.index-siblings-index-in-loop-index.is ∙ sym c.by_name-order.ensures)
    ∙ sym c.is_lt.ensures ∙ c.if-not-is_lt.true)

pub loop-index-preserved : goal.loop-index-preserved
loop-index-preserved c = λ k d lt. elim (before k c.loop-index.index lt) [
  | inl less ↦ c.loop-index.invariant k d less
  | inr is ↦ order_is c.args.siblings.now c.loop-index.index k c.index-siblings-index.result c.index-siblings-index-in-loop-index.result d c.loop-index-test.true is c.index-siblings-index.is c.index-siblings-index-in-loop-index.is
      ∙ sym c.by_name-order.ensures ∙ lt_is _ (sym c.is_lt.ensures ∙ c.if-not-is_lt.false)
]

pub returns : goal.returns
returns c = sym (rises_if c.args.siblings.now (λ k d lt. c.loop-index.invariant k d (omega (arith, lt))))
