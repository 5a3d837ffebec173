-- A hive's tree to which the journal leads, judged by its number and its outcomes.
use Rattle.std.proofs.Common.{◌≡◌, inl, inr, ℕ, ◌<◌, ◌≤◌, true, false, List, refl, sym, ◌∙◌, ap, arith}
use Rattle.refusals.specs.declared.limits.TheConstants.{GREATEST_NUMBER}
use Rattle.refusals.specs.declared.refusal.Cause.TheVariants.{BadStore}
use Rattle.refusals.specs.declared.refusal.Refusal.TheVariants as refusal
use Rattle.crash_model.specs.Promises.{top}
use Rattle.commit_journal.specs.Store.{Store}
use Rattle.commit_outcomes.specs.Trees.{are_outcomes}
use Rattle.recovery.specs.Refused.{IsInStore}
use Rattle.store_hive.specs.LedTrees.{IsLed}
use Rattle.store_hive.specs.RecoveredHives.{RecoversHive}
use Rattle.store_hive.specs.RefusedHives.{HiveIsWrong}
use Rattle.store_hive.specs.declared.led_tree.LedTree.{LedTree}

module _ (files : ℕ → List ℕ) (store : Store) (hive : ℕ) (led : LedTree) (is : IsLed files store hive led) (limit : ℕ) (limit_is : limit ≡ top GREATEST_NUMBER is.journal) where
  abbrev of : IsInStore files hive
  of = record { store = store; journal = is.journal; store_is = is.store_is; decodes = is.decodes; there = is.there }

  pub ahead_wrong : limit < led.number → HiveIsWrong files hive (refusal.HiveDamaged hive BadStore)
  ahead_wrong above = (refl, inr (refl, inl (of, (is.own, led.number), is.holds, omega (arith, above, limit_is))))

  pub outcomes_wrong : store.hives ≤ hive → are_outcomes limit led.tree ≡ false → HiveIsWrong files hive (refusal.HiveDamaged hive BadStore)
  outcomes_wrong unnamed wrong = (
    refl,
    inr (
      refl,
      inr (record { of = of; unnamed = unnamed; held = (is.own, led.number); holds = is.holds; tree = led.tree; leads = is.leads; wrong = ap (λ n. are_outcomes n led.tree) (sym limit_is) ∙ wrong }),
    ),
  )

  pub recovers : led.number ≤ limit → (store.hives ≤ hive → are_outcomes limit led.tree ≡ true) → RecoversHive files store hive led.tree
  recovers low outcomes = record {
    store_is = is.store_is;
    there = is.there;
    journal = is.journal;
    decodes = is.decodes;
    held = (is.own, led.number);
    holds = is.holds;
    not_above = omega (arith, low, limit_is);
    leads = is.leads;
    outcomes = λ unnamed. ap (λ n. are_outcomes n led.tree) (sym limit_is) ∙ outcomes unnamed;
  }
