-- What an upgrade leaves, and why it is refused.
use Rattle.std.proofs.Common.{ℕ, ◌≤◌, List, Result, Ok, Err, IfErr, inl, inr, arith}
use Rattle.refusals.specs.declared.refusal.Refusal.{Refusal}
use Rattle.reg_tree.specs.Maps.{TreeMap}
use Rattle.disk_model.specs.FileState.{FileState}
use Rattle.commit_journal.specs.Store.{Store}
use Rattle.hive_files.specs.Frames.{RefusalHasCause, TouchesOwnFiles}
use Rattle.recovery.specs.Created.{IsOfStore, IsRefusedFor}
use Rattle.recovery.specs.Recovered.{IsRecovered}
use Rattle.store_create.specs.Upgrades.{AreNotUpgraded}

-- two facts of a refusal give a third
pub if_err_both : {T E : Type 0} (result : Result T E) (A B C : E → Type 0) → ((e : E) → A e → B e → C e) → IfErr result A → IfErr result B → IfErr result C
if_err_both (Ok x) A B C f a b = tt
if_err_both (Err e) A B C f a b = f e a b

-- a refusal of trees that files recover is one of the files
pub refused_of_files : (fault faithful : Type 0) (files : ℕ → List ℕ) (why : Refusal) (store : Store) (number : ℕ) (trees : List TreeMap) → (faithful → IsRecovered files store number trees)
    → IsRefusedFor trees why → RefusalHasCause fault (AreNotUpgraded faithful files) why
refused_of_files fault faithful files why store number trees recovered (inl memory) = inl memory
refused_of_files fault faithful files why store number trees recovered (inr large) = inr (inr (inr (inr (large.0, λ f. (store, number, trees, recovered f, large.1)))))

-- the files of a store of so many hives are among those of one with more
wider : (few many f : ℕ) → few ≤ many → IsOfStore few f → IsOfStore many f
wider few many f le (inl journal) = inl journal
wider few many f le (inr (i, lt, of)) = inr (i, omega (arith, lt, le), of)

pub touches_more : (few many : ℕ) (old new : ℕ → ℕ → FileState) (start end : ℕ) → few ≤ many → TouchesOwnFiles (IsOfStore few) old new start end → TouchesOwnFiles (IsOfStore many) old new start end
touches_more few many old new start end le touches = record { time = touches.time; others = λ f not. touches.others f (λ of. not (wider few many f le of)) }
