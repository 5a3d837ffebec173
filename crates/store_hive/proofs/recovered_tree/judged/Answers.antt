use Rattle.std.proofs.Common.{inl, inr, ◌≡◌, ◌⊎◌, sym, subst, arith, ℕ, List}
use Rattle.refusals.specs.declared.refusal.Refusal.{Refusal}
use Rattle.refusals.specs.declared.refusal.Refusal.TheVariants.{NoMemory}
use Rattle.commit_journal.specs.Store.{Store}
use Rattle.recovery.specs.Recovered.{IsFileRefusal}
use Rattle.store_hive.specs.LedTrees.{IsLed}
use Rattle.store_hive.specs.RefusedHives.{HiveIsWrong}
use Rattle.store_hive.proofs.Judged.{ahead_wrong, outcomes_wrong, recovers}
use Rattle.store_hive.proofs.recovered_tree.judged.Goals as goal

pub returns-then-led-limit-clause-fails : goal.returns-then-led-limit-clause-fails
returns-then-led-limit-clause-fails c = inr (
  tt,
  λ files store named is. ahead_wrong files store c.args.hive c.args.led is c.limit_of-limit.result (c.limit_of-limit.ensures is.journal is.last) c.if-led-limit.true,
)

pub returns-then-hive-named-clause-recovers : goal.returns-then-hive-named-clause-recovers
returns-then-hive-named-clause-recovers c = λ files store named is.
    recovers files store c.args.hive c.args.led is c.limit_of-limit.result (c.limit_of-limit.ensures is.journal is.last) c.if-led-limit.false (λ unnamed. absurd (omega (arith, unnamed, named, c.if-hive-named.true)))

pub returns-in-Ok-clause-recovers : goal.returns-in-Ok-clause-recovers
returns-in-Ok-clause-recovers c = λ files store named is.
    recovers files store c.args.hive c.args.led is c.limit_of-limit.result (c.limit_of-limit.ensures is.journal is.last) c.if-led-limit.false (λ unnamed. c.in-Ok.ensures.judged.0)

pub returns-in-Err-clause-fails : goal.returns-in-Err-clause-fails
returns-in-Err-clause-fails c = elim (c.in-Err.ensures.fails) [
  | inl hungry ↦ inl hungry
  | inr (wrong, cause) ↦
      subst (λ (why : Refusal). (why ≡ NoMemory) ⊎ (IsFileRefusal why × ((files : ℕ → List ℕ) (store : Store) → store.hives ≡ c.args.named → IsLed files store c.args.hive c.args.led → HiveIsWrong files c.args.hive why))) (sym cause) (inr (
        tt,
        λ files store named is. outcomes_wrong files store c.args.hive c.args.led is c.limit_of-limit.result (c.limit_of-limit.ensures is.journal is.last) (omega (arith, named, c.if-hive-named.false)) wrong,
      ))
]
