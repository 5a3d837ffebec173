use Rattle.std.proofs.Common.{◌≡◌, ◌⊎◌, inl, inr, ◌<◌, ◌+◌, ◌-◌, ℕ, List, length, get_or, ◌∙◌, ap, sym, arith}
use Rattle.std.specs.Ordering.{eq_by_cmp}
use Rattle.std.proofs.lemmas.Bool.{cases_lt}
use Rattle.std.proofs.lemmas.List.{get_or_default}
use Rattle.reg_names.specs.Names.{name_cmp}
use Rattle.hive_lookup.proofs.Distinct.{distinct_if, not_distinct}
use Rattle.hive_lookup.proofs.names.are_distinct.Goals as goal

before : (k n : ℕ) → k + 1 < n + 1 → (k + 1 < n) ⊎ (k + 1 ≡ n)
before k n h = elim (cases_lt (k + 1) n) [ inl l ↦ inl l | inr g ↦ inr (omega (arith, h, g)) ]

-- whether two neighbours are alike
here : (names : List (List ℕ)) (n k : ℕ) (a b d : List ℕ) → n < length names → k + 1 ≡ n → a ≡ get_or names (n - 1) a → b ≡ get_or names n b → eq_by_cmp name_cmp (get_or names k d) (get_or names (k + 1) d) ≡ eq_by_cmp name_cmp a b
here names n k a b d lt is e f =
    let first : n - 1 ≡ k = omega (arith, is) in
    let one : get_or names k d ≡ a = get_or_default names k d a (omega (arith, lt, is)) ∙ sym (e ∙ ap (λ z. get_or names z a) first) in
    let next : get_or names (k + 1) d ≡ b = get_or_default names (k + 1) d b (omega (arith, lt, is)) ∙ sym (f ∙ ap (λ z. get_or names z b) (sym is)) in
    λ i. eq_by_cmp name_cmp (one i) (next i)

pub loop-index-init : goal.loop-index-init
loop-index-init c = λ k d lt. absurd (omega (arith, lt))

pub returns-then-alike-clause-no : goal.returns-then-alike-clause-no
returns-then-alike-clause-no c = λ _.
    let last : c.loop-index.index - 1 + 1 ≡ c.loop-index.index = omega arith in
    not_distinct c.args.names.now (c.loop-index.index - 1) c.index-names-index.result (omega (arith, last, c.loop-index-test.true))
    (here c.args.names.now c.loop-index.index (c.loop-index.index - 1) c.index-names-index.result c.index-names-index-in-loop-index.result c.index-names-index.result c.loop-index-test.true last c.index-names-index.is c.index-names-index-in-loop-index.is ∙ sym c.are_alike-alike.ensures ∙ c.if-alike.true)

pub loop-index-preserved : goal.loop-index-preserved
loop-index-preserved c = λ k d lt. elim (before k c.loop-index.index lt) [
  | inl less ↦ c.loop-index.invariant k d less
  | inr is ↦ here c.args.names.now c.loop-index.index k c.index-names-index.result c.index-names-index-in-loop-index.result d c.loop-index-test.true is c.index-names-index.is c.index-names-index-in-loop-index.is ∙ sym c.are_alike-alike.ensures ∙ c.if-alike.false
]

pub returns-clause-yes : goal.returns-clause-yes
returns-clause-yes c = λ _. distinct_if c.args.names.now c.requires (λ k d lt. c.loop-index.invariant k d (omega (arith, lt, c.loop-index-test.false)))
