use Rattle.std.proofs.Common.{◌≡◌, inl, ℕ, List, length, true, false, Some, None, Option, refl, sym, ◌∙◌, ap, subst}
use Rattle.std.specs.Prelude.{slice_get, is_some, not}
use Rattle.refusals.specs.declared.refusal.Refusal.TheVariants.{NotFound, Unsupported}
use Rattle.reg_tree.specs.Maps.{TreeMap}
use Rattle.commit_outcomes.specs.Trees.{number_in}
use Rattle.store_model.specs.Machine.{Machine, first_of, has_outcomes, outcome_of, outcome_tree, refused_if, trees_now}
use Rattle.store_model.proofs.TreeCounts.{all_long}
use Rattle.transactions.specs.Stores.{OutcomesMatch, StoreView}
use Rattle.transactions.specs.contracts.store.Store.{the_view}
use Rattle.transactions.proofs.Outcomes.{told_by}
use Rattle.transactions.proofs.store.Store.outcome_of.Goals as goal

pub outcome_tree-requires : goal.outcome_tree-requires
outcome_tree-requires c =
    ap (λ (ts : List TreeMap). length ts) (c.trees.ensures ∙ c.self.invariant.0.trees) ∙ all_long (the_view c.self.inside).machine.opened (the_view c.self.inside).machine.accepted
    ∙ ap (λ (v : StoreView). length v.machine.opened) c.self.view_is

pub returns-in-Some-2 : goal.returns-in-Some-2
returns-in-Some-2 c =
    let m = c.args.self.now.machine in
    let now : c.trees.result.now ≡ trees_now m = c.trees.ensures ∙ c.self.invariant.0.trees ∙ ap (λ (v : StoreView). trees_now v.machine) c.self.view_is in
    let told : (has_outcomes m ≡ true) × (c.in_ok-number.field-0 ≡ outcome_of m c.args.id.now) =
    told_by m c.self.inside.outcomes c.in-Some.tree.now c.args.id.now c.in_ok-number.field-0 (subst (λ (v : StoreView). OutcomesMatch c.self.inside.outcomes v.machine) c.self.view_is c.self.invariant.1) c.in-Some.ensures.0
    (subst (λ ts. slice_get ts m.bounds.hives ≡ Some c.in-Some.tree.now) now c.in-Some.ensures.1) c.in_ok-number.ensures in
    record { keeps = told.0; told = sym told.1 ∙ c.in-Some-2.is; next = refl }

pub returns-in-None : goal.returns-in-None
returns-in-None c =
    let m = c.args.self.now.machine in
    let now : c.trees.result.now ≡ trees_now m = c.trees.ensures ∙ c.self.invariant.0.trees ∙ ap (λ (v : StoreView). trees_now v.machine) c.self.view_is in
    let told : (has_outcomes m ≡ true) × (c.in_ok-number.field-0 ≡ outcome_of m c.args.id.now) =
    told_by m c.self.inside.outcomes c.in-Some.tree.now c.args.id.now c.in_ok-number.field-0 (subst (λ (v : StoreView). OutcomesMatch c.self.inside.outcomes v.machine) c.self.view_is c.self.invariant.1) c.in-Some.ensures.0
    (subst (λ ts. slice_get ts m.bounds.hives ≡ Some c.in-Some.tree.now) now c.in-Some.ensures.1) c.in_ok-number.ensures in (
      inl (ap (λ b. first_of (refused_if (not b) Unsupported) (refused_if (not (is_some (outcome_of m c.args.id.now))) NotFound)) told.0
          ∙ ap (λ (o : Option ℕ). refused_if (not (is_some o)) NotFound) (sym told.1 ∙ c.in-None.is)),
      refl,
    )
