-- The hives that an export shows, one after another.
use Rattle.std.proofs.Common.{◌≡◌, ℕ, ◌+◌, List, [], ◌∷◌, length, map, Option, Some, None, IsSome, refl, ap, arith}
use Rattle.reg_tree.specs.Maps.{TreeMap}
use Rattle.key_walk.specs.KeyRows.{NamedRow, tree_rows}
use Rattle.reg_prefixes.specs.declared.prefix.Prefix.{Prefix}
use Rattle.reg_prefixes.specs.Places.{shown_in}
use Rattle.store_export.specs.Exports.{all_rows, text_or_none, with_prefix}
use Rattle.reg_round_trip.specs.Shown.{HavePrefixes, exported}
use Rattle.reg_round_trip.proofs.Units.{none_some}

-- the keys of trees, the first of which has this number, each tree behind the first prefix of its number
abbrev pub AreShown : List Prefix → ℕ → List TreeMap → List (List ℕ × List NamedRow) → Type 0
AreShown prefixes hive [] hives = hives ≡ []
AreShown prefixes hive (tree ∷ trees) hives =
    (prefix : List ℕ) × (rest : List (List ℕ × List NamedRow)) × (shown_in prefixes hive ≡ Some prefix) × (hives ≡ (prefix, tree_rows tree) ∷ rest) × AreShown prefixes (hive + 1) trees rest

shown_from : (prefixes : List Prefix) (hive : ℕ) (trees : List TreeMap) → HavePrefixes prefixes (hive + length trees) → AreShown prefixes hive trees (map (with_prefix prefixes) (all_rows hive trees))
shown_from prefixes hive [] have = refl
shown_from prefixes hive (tree ∷ trees) have =
    let its = prefix_of_some (shown_in prefixes hive) (have hive (omega arith)) in (
      its.0,
      map (with_prefix prefixes) (all_rows (hive + 1) trees),
      its.1,
      ap (λ o. (text_or_none o, tree_rows tree) ∷ map (with_prefix prefixes) (all_rows (hive + 1) trees)) its.1,
      shown_from prefixes (hive + 1) trees (λ other within. have other (omega (arith, within))),
    )
  where
    prefix_of_some : (o : Option (List ℕ)) → IsSome o → (prefix : List ℕ) × (o ≡ Some prefix)
    prefix_of_some None some = absurd (none_some {A = List ℕ} None refl some)
    prefix_of_some (Some prefix) some = (prefix, refl)

pub are_shown : (prefixes : List Prefix) (trees : List TreeMap) → HavePrefixes prefixes (length trees) → AreShown prefixes 0 trees (exported prefixes trees)
are_shown prefixes trees have = shown_from prefixes 0 trees (λ hive within. have hive (omega (arith, within)))
