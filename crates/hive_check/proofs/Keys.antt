-- What was counted of all keys of a tree.
use Rattle.std.proofs.Common.{◌≡◌, ℕ, ◌+◌, ◌<◌, ◌^◌, List, [], ◌∷◌, length, map, refl, sym, ◌∙◌, ap, arith}
use Rattle.std.specs.Prelude.{sum_by}
use Rattle.std.specs.FinMap as finite
use Rattle.std.proofs.lemmas.List.Sums.{sum_by-cons}
use Rattle.reg_tree_parts.specs.Rows.{Row, row_weight}
use Rattle.reg_tree.specs.Maps.{TreeMap}
use Rattle.key_walk.specs.KeyRows.{spelled_names, tree_rows}
use Rattle.hive_check.specs.declared.key_counts.KeyCounts.{KeyCounts}
use Rattle.hive_check.specs.KeyCounts.{AreKeyCounts, AddsKeys, capped, no_keys, values_of, weight_of}

capped_itself : (n m : ℕ) → n < 2 ^ 64 → capped n ≡ capped (0 + m) → n ≡ capped m
capped_itself n m small same = omega (arith, small, same)

rows_weigh : (f : List (List ℕ) × Row → List (List ℕ)) (entries : List (List (List ℕ) × Row)) → weight_of (map (λ entry. (f entry, entry.1)) entries) ≡ sum_by (λ entry. row_weight entry.1) entries
rows_weigh f [] = refl
rows_weigh f (entry ∷ entries) =
    sum_by-cons (λ key. row_weight key.1) (f entry, entry.1) (map (λ e. (f e, e.1)) entries)
    ∙ ap (λ n. row_weight entry.1 + n) (rows_weigh f entries)
    ∙ sym (sum_by-cons (λ e. row_weight e.1) entry entries)

pub key_counts : (tree : TreeMap) (counts : KeyCounts) → counts.keys < 2 ^ 64 → counts.values < 2 ^ 64 → counts.weight < 2 ^ 64 → AddsKeys no_keys counts (tree_rows tree) → AreKeyCounts tree counts
key_counts tree counts keys values weighs took = (
  capped_itself counts.keys (length (tree_rows tree)) keys took.keys,
  capped_itself counts.values (values_of (tree_rows tree)) values took.values,
  capped_itself counts.weight (weight_of (tree_rows tree)) weighs took.weight ∙ ap capped (rows_weigh (λ entry. spelled_names tree entry.0) (finite.entries tree)),
)
