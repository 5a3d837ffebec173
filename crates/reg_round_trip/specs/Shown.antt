-- Hives as an export shows them, each by its first prefix.
use Rattle.std.specs.Prelude.{◌≡◌, ◌≢◌, ℕ, ◌<◌, ◌≤◌, false, List, [], ◌∷◌, length, map, IsSome, slice_index_or}
use Rattle.refusals.specs.declared.limits.TheConstants.{MOST_VALUE_BYTES}
use Rattle.reg_tree.specs.Maps.{TreeMap}
use Rattle.key_walk.specs.KeyRows.{NamedRow}
use Rattle.key_walk.specs.SubtreeRows.{rows_below}
use Rattle.reg_prefixes.specs.declared.prefix.Prefix.{Prefix}
use Rattle.reg_prefixes.specs.Places.{begins, shown_in}
use Rattle.store_export.specs.Exports.{all_rows, with_prefix}
use Rattle.reg_round_trip.specs.Exports.{IsPrefixText}

-- the prefix at an index is no other one, and begins none
abbrev pub BeginsNone : List Prefix → ℕ → Type 0
BeginsNone prefixes at = (other : ℕ) (d : Prefix) → other < length prefixes → at ≢ other → begins (slice_index_or prefixes at d).text.items (slice_index_or prefixes other d).text.items ≡ false

-- no prefix is another one, or begins it
abbrev pub PrefixesAreApart : List Prefix → Type 0
PrefixesAreApart prefixes = (at : ℕ) → at < length prefixes → BeginsNone prefixes at

-- a prefix that a line can show with any path: it has at most 1,048,576 units
abbrev pub IsShowable : Prefix → Type 0
IsShowable prefix = IsPrefixText prefix.text.items × (length prefix.text.items ≤ MOST_VALUE_BYTES)

-- each of so many hives has a prefix
abbrev pub HavePrefixes : List Prefix → ℕ → Type 0
HavePrefixes prefixes hives = (hive : ℕ) → hive < hives → IsSome (shown_in prefixes hive)

-- what an export of all trees shows: their keys, each tree behind its prefix
abbrev pub exported : List Prefix → List TreeMap → List (List ℕ × List NamedRow)
exported prefixes trees = map (with_prefix prefixes) (all_rows 0 trees)

-- what an export of a key of a hive shows: it and all below it
abbrev pub exported_part : List Prefix → ℕ → TreeMap → List (List ℕ) → List (List ℕ × List NamedRow)
exported_part prefixes hive tree top = map (with_prefix prefixes) ((hive, rows_below tree top) ∷ [])
