-- A new value's record and data, in new cells.
use Rattle.std.proofs.Common.{◌≡◌, inl, inr, ℕ, ◌<◌, ◌≤◌, ◌*◌, ◌^◌, Bool, true, false, List, [], ◌∷◌, length, replicate, None, IsSome, is_some, refl, ap, ◌∙◌, arith}
use Rattle.hive_cells.specs.Bins.{Cells}
use Rattle.hive_records.specs.ValueEncodings.{ValueIsEncodable, small_value}
use Rattle.hive_records.specs.NameEncodings.{is_latin, wide, spelled, name_bytes}
use Rattle.hive_records.proofs.ValuesAgain.{small_again}
use Rattle.hive_edit_laws.proofs.KeyPlaces.{none_there}
use Rattle.hive_savepoint.specs.Puts.{AddsCell}
use Rattle.hive_edit.specs.ValueRecords.{AddsRecord}
use Rattle.reg_tree_parts.specs.declared.value.Value.{Value}

-- a cell that was none is no cell that was there
new_apart : (cells : Cells) (at cell : ℕ) → cells at ≡ None → IsSome (cells cell) → cell ≡ at → ⊥
new_apart cells at cell none is e = none_there (cells cell) is (ap cells e ∙ none)

pub small_added : (old_bytes new_bytes : List ℕ) (value : Value) (at : ℕ) → ValueIsEncodable value → length value.«data» ≤ 4 → AddsCell old_bytes new_bytes at (small_value value) → AddsRecord old_bytes new_bytes value at
small_added old_bytes new_bytes value at fits few adds before shows =
    let s = adds.cells before shows in (
      s.1,
      s.2,
      record {
        own = at ∷ [];
        once = ((λ i. i), tt);
        fresh = λ cell i. elim i [ inl e ↦ ap before e ∙ s.0 | inr e ↦ absurd e ];
        there = λ cell i. elim i [ inl e ↦ ap is_some (ap s.1 e ∙ s.5) | inr e ↦ absurd e ];
        stays = λ cell is. s.3 cell (new_apart before at cell s.0 is);
        reads = small_again true s.1 at value fits few (replicate s.4 0, s.5);
      },
    )

wide_length : (name : List ℕ) → length (wide name) ≡ 2 * length name
wide_length [] = refl
wide_length (u ∷ name) = let h = wide_length name in omega (arith, h)

-- a name of few units takes few bytes
pub name_short : (name : List ℕ) → length name ≤ 0x7fff → length (name_bytes name) < 2 ^ 16
name_short name few = by (is_latin name)
  where
    by : (latin : Bool) → length (spelled latin name) < 2 ^ 16
    by true = omega (arith, few)
    by false = let h = wide_length name in omega (arith, few, h)
