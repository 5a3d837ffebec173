-- What is told of the commit of a unit of work.
use Rattle.std.proofs.Common.{◌≡◌, ◌⊎◌, inl, inr, ℕ, List, Option, None, Result, Ok, Err, IfOk, IfErr, refl, sym, ap, subst}
use Rattle.refusals.specs.declared.refusal.Refusal.{Refusal}
use Rattle.refusals.specs.declared.refusal.Refusal.TheVariants.{NoMemory}
use Rattle.reg_tree.specs.Maps.{TreeMap}
use Rattle.commit_journal.specs.Store.{Store}
use Rattle.store_hive.specs.RecoveredHives.{RecoversHive}
use Rattle.store_values.specs.declared.change_result.ChangeResult.{ChangeResult}
use Rattle.store_values.specs.Outcomes.{PrintsOutcome}
use Rattle.store_values.specs.KeptCommits.{ReportsCommit, commit_answer}

-- an answer is found, or memory is lacking
pub found_or : (outcome answer : Result ℕ Refusal) → IfOk outcome (λ number. answer ≡ Ok number) → IfErr outcome (λ why. (why ≡ NoMemory) ⊎ (answer ≡ Err why)) → (answer ≡ outcome) ⊎ (outcome ≡ Err NoMemory)
found_or (Ok number) answer kept refused = inl kept
found_or (Err why) answer kept (inl lacking) = inr (ap Err lacking)
found_or (Err why) answer kept (inr same) = inl same

pub commit_told : (failed faithful : Type 0) (files : ℕ → List ℕ) (id : List ℕ) (before after : Option (List ℕ)) (store : Store) (tree : TreeMap) (outcome : Result ℕ Refusal) (told : ChangeResult) → (faithful → RecoversHive files store store.hives tree)
    → (commit_answer tree id ≡ outcome) ⊎ (outcome ≡ Err NoMemory) → PrintsOutcome before after outcome None told → ReportsCommit failed faithful files id before after told
commit_told failed faithful files id before after store tree outcome told recovers (inl same) printed = inl (store, tree, recovers, subst (λ (o : Result ℕ Refusal). PrintsOutcome before after o None told) (sym same) printed)
commit_told failed faithful files id before after store tree outcome told recovers (inr lacking) printed = inr (NoMemory, inl refl, subst (λ (o : Result ℕ Refusal). PrintsOutcome before after o None told) lacking printed)
