-- One change that a hive has, or that is on others alone.
use Rattle.std.proofs.Common.{◌≡◌, ℕ, ◌≤◌, Bool, true, false, cond, ◌∷◌, [], ◌++◌, List, refl, ap}
use Rattle.std.specs.Prelude.{◌==◌, nat_lt}
use Rattle.std.specs.List.{list_any}
use Rattle.std.proofs.lemmas.Bool.{le-ltb}
use Rattle.reg_tree.specs.declared.element.Element.{Element}
use Rattle.crash_model.specs.Changes.{ops_on, replay}
use Rattle.change_codec.specs.Changes.{hives_of}
use Rattle.change_codec.specs.ModelChanges.{TimedOp, tree_rules, timed_elements}
use Rattle.commit_journal.specs.Numbered.{changes_in}
use Rattle.hive_flush.proofs.Replayed.{none_here}
use Rattle.recovery.specs.Replays.{ops_lacked}
use Rattle.store_hive.specs.Replays.{ReplaysOnHive}
use Rattle.store_hive.specs.declared.hive_replay.HiveReplay.{HiveReplay}

ops_held : (i k n : ℕ) (e : Element) → n ≤ k → ops_lacked i k ((n, e) ∷ []) ≡ []
ops_held i k n e le = ap (λ b. ops_on i (timed_elements (changes_in (cond b ((n, e) ∷ []) [])))) (le-ltb k n le)

ops_elsewhere : (i k n : ℕ) (e : Element) → list_any (λ one. one == i) (hives_of e) ≡ false → ops_lacked i k ((n, e) ∷ []) ≡ []
ops_elsewhere i k n e none = by_test (nat_lt k n)
  where
    by_test : (b : Bool) → ops_on i (timed_elements (changes_in (cond b ((n, e) ∷ []) []))) ≡ []
    by_test true = ap (λ (ops : List TimedOp). ops ++ []) (none_here i e.moment e.ops none)
    by_test false = refl

pub replays_held : (hive : HiveReplay) (n : ℕ) (e : Element) → n ≤ hive.number → ReplaysOnHive hive hive ((n, e) ∷ [])
replays_held hive n e le = record { hive = refl; number = refl; tree = ap (λ (ops : List TimedOp). replay tree_rules ops hive.tree) (ops_held hive.hive hive.number n e le) }

pub replays_elsewhere : (hive : HiveReplay) (n : ℕ) (e : Element) → list_any (λ one. one == hive.hive) (hives_of e) ≡ false → ReplaysOnHive hive hive ((n, e) ∷ [])
replays_elsewhere hive n e none = record { hive = refl; number = refl; tree = ap (λ (ops : List TimedOp). replay tree_rules ops hive.tree) (ops_elsewhere hive.hive hive.number n e none) }
