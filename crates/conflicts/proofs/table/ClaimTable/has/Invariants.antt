use Rattle.std.proofs.Common.{◌≡◌, ◌⊎◌, false}
use Rattle.std.specs.Prelude.{filter, Contains}
use Rattle.std.specs.declared.ops.Bound.TheVariants.{Included}
use Rattle.std.specs.BTreeMap.Range.{range_contains}
use Rattle.conflicts.specs.Holders.{same_held_claim, is_some_that}
use Rattle.conflicts.specs.IndexKeys.{IndexKey, index_key_order}
use Rattle.conflicts.proofs.Looks.{look}
use Rattle.conflicts.proofs.table.ClaimTable.has.Given as goal

abbrev pub invariant-loop-index_key : goal.invariant-loop-index_key
invariant-loop-index_key l = (index_key : IndexKey) → Contains (filter (λ s. range_contains index_key_order (Included l.from) (Included l.to) s) l.self-inside.index.index_keys.keys) index_key
    → Contains l.index_key-iterator index_key ⊎ (is_some_that (same_held_claim (record { owner = l.owner.0; claim = l.claim })) (look l.self-inside.kept.entries index_key.1) ≡ false)
