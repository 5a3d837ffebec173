use Rattle.std.proofs.Common.{arith, rules, ◌-◌, ◌≡◌, ◌⊎◌, inl, inr, List, ℕ, sym, subst}
use Rattle.std.specs.List.{Contains}
use Rattle.refusals.specs.declared.refusal.Refusal.{Refusal}
use Rattle.refusals.specs.declared.refusal.Refusal.TheVariants.{NoMemory}
use Rattle.change_plan.specs.Edits.{HasSubkey, RemovalRefused}
use Rattle.change_plan.specs.Removals.{ChildRefused, DeletesMore, IsGone}
use Rattle.change_plan.proofs.Sequences.{more_on, more_of_child, own_on}
use Rattle.change_plan.proofs.Deletions.{gone}
use Rattle.change_plan.proofs.Refused.{missing_refuses, own_refuses, child_refuses, subkey_refuses}
use Rattle.change_plan.proofs.Answered.{on_ok, if_err}
use Rattle.change_plan.proofs.removal.+levels.Goals as goal

pub remove-returns-in_err-names-clause-refused : goal.remove-returns-in_err-names-clause-refused
remove-returns-in_err-names-clause-refused t c =
    let refuses = missing_refuses c.args.made.now.view c.args.moment c.args.hive c.args.path.now c.in_err-names.field-0.0 c.requires.some c.in_err-names.ensures.refused in search rules

pub remove-loop-index-preserved : goal.remove-loop-index-preserved
remove-loop-index-preserved t c =
    (omega (arith, c.loop-index.invariant.0), more_on c.args.made.now c.loop-index.made c.remove_child.new.made c.args.moment c.args.hive c.args.path.now c.loop-index.invariant.1 c.in_ok-remove_child.ensures.deleted)

pub remove-returns-in_err-remove_child-clause-refused : goal.remove-returns-in_err-remove_child-clause-refused
remove-returns-in_err-remove_child-clause-refused t c =
    let name = c.index-names-index.result in
    let has : HasSubkey c.args.made.now.view c.args.hive c.args.path.now name =
    (c.in_ok-names.names, c.in_ok-names.ensures.ok, subst (λ (names : List (List ℕ)). Contains names name) c.list-names.ensures (c.loop-index.index - 1, omega (arith, c.loop-index.invariant.0, c.loop-index-test.true), sym c.index-names-index.is)) in
    let refuses = subkey_refuses c.args.made.now c.loop-index.made c.args.moment c.args.hive c.args.path.now name c.in_err-remove_child.field-0.0 has c.loop-index.invariant.1 c.in_err-remove_child.ensures.refused in search rules

pub remove-returns-clause-deleted : goal.remove-returns-clause-deleted
remove-returns-clause-deleted t c = on_ok c.delete.result (λ deleted.
    own_on c.args.made.now c.loop-index.made c.delete.new.self c.args.moment c.args.hive c.args.path.now c.in_ok-clone.field-0 c.in_ok-clone.ensures c.loop-index.invariant.1 deleted.0 deleted.1 deleted.2) c.delete.ensures.deleted

pub remove-returns-clause-gone : goal.remove-returns-clause-gone
remove-returns-clause-gone t c = on_ok c.delete.result (λ deleted.
    subst (λ (path : List (List ℕ)). IsGone c.delete.new.self.view c.args.hive path) c.in_ok-clone.ensures
    (subst (λ trees. IsGone trees c.args.hive c.in_ok-clone.field-0) (sym deleted.2) (gone c.loop-index.made.view c.args.hive c.in_ok-clone.field-0 c.args.moment deleted.0))) c.delete.ensures.deleted

pub remove-returns-clause-refused : goal.remove-returns-clause-refused
remove-returns-clause-refused t c = if_err c.delete.result (λ why refused.
    own_refuses c.args.made.now c.loop-index.made c.args.moment c.args.hive c.args.path.now c.in_ok-clone.field-0 why c.in_ok-clone.ensures c.loop-index.invariant.1 refused) c.delete.ensures.refused

pub remove_child-returns-in_err-child-clause-refused : goal.remove_child-returns-in_err-child-clause-refused
remove_child-returns-in_err-child-clause-refused t c =
    let refused = c.in_err-child.ensures.refused in search rules

pub remove_child-returns-clause-deleted : goal.remove_child-returns-clause-deleted
remove_child-returns-clause-deleted t c = on_ok c.remove.result (λ deleted.
    more_of_child c.args.made.now c.remove.new.made c.args.moment c.args.hive c.args.path.now c.args.name.now
    (subst (λ (path : List (List ℕ)). DeletesMore c.args.made.now c.args.moment c.args.hive path c.remove.new.made) c.in_ok-child.ensures.made deleted)) c.remove.ensures.deleted

pub remove_child-returns-clause-refused : goal.remove_child-returns-clause-refused
remove_child-returns-clause-refused t c = if_err c.remove.result (λ why refused.
    with_subkey (child_refuses c.args.made.now.view c.args.moment c.args.hive c.args.path.now c.args.name.now why
    (subst (λ (path : List (List ℕ)). (why ≡ NoMemory) ⊎ RemovalRefused c.args.made.now.view c.args.moment c.args.hive path why) c.in_ok-child.ensures.made refused))) c.remove.ensures.refused
  where
    with_subkey : {why : Refusal} → (why ≡ NoMemory) ⊎ RemovalRefused c.args.made.now.view c.args.moment c.args.hive c.args.path.now why → (why ≡ NoMemory) ⊎ (ChildRefused c.args.path.now c.args.name.now why ⊎ RemovalRefused c.args.made.now.view c.args.moment c.args.hive c.args.path.now why)
    with_subkey (inl lacking) = inl lacking
    with_subkey (inr refused) = inr (inr refused)
