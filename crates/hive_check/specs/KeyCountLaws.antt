-- Keys that were counted one after another.
use Rattle.std.proofs.Common.{◌≡◌, ℕ, ◌+◌, List, [], ◌++◌, ap, arith, length-append}
use Rattle.std.proofs.lemmas.List.Sums.{sum_by-append}
use Rattle.std.specs.FinMap as finite
use Rattle.reg_tree_parts.specs.Rows.{row_weight}
use Rattle.key_walk.specs.KeyRows.{NamedRow}
use Rattle.hive_check.specs.declared.key_counts.KeyCounts.{KeyCounts}
use Rattle.hive_check.specs.KeyCounts.{AddsKeys, capped, values_of, weight_of}

capped_none : (n : ℕ) → capped n ≡ capped (n + 0)
capped_none n = ap capped (omega arith)

capped_more : (a b c x y z : ℕ) → capped b ≡ capped (a + x) → capped c ≡ capped (b + y) → z ≡ x + y → capped c ≡ capped (a + z)
capped_more a b c x y z one two whole = omega (arith, one, two, whole)

pub counts_none : (counts : KeyCounts) → AddsKeys counts counts []
counts_none counts = record { keys = capped_none counts.keys; values = capped_none counts.values; weight = capped_none counts.weight }

pub counts_more : (before between after : KeyCounts) (front rest : List NamedRow) → AddsKeys before between front → AddsKeys between after rest → AddsKeys before after (front ++ rest)
counts_more before between after front rest one two = record {
  keys = capped_more before.keys between.keys after.keys _ _ _ one.keys two.keys (length-append front rest);
  values = capped_more before.values between.values after.values (values_of front) (values_of rest) (values_of (front ++ rest)) one.values two.values (sum_by-append (λ key. finite.len (key.1).values) front rest);
  weight = capped_more before.weight between.weight after.weight (weight_of front) (weight_of rest) (weight_of (front ++ rest)) one.weight two.weight (sum_by-append (λ key. row_weight key.1) front rest);
}
