-- What functions answer that read cells and mark them.
use Rattle.std.specs.Prelude.{◌≡◌, ◌⊎◌, true, ℕ, ◌+◌, ◌-◌, ◌*◌, ◌/◌, ◌%◌, ◌≤◌, ◌==◌, if◌then◌else◌, Bool, false, List, [], ◌∷◌, slice_index_or, flat_map, map, Result, Ok, Err}
use Rattle.refusals.specs.declared.refusal.Refusal.{Refusal}
use Rattle.reg_names.specs.Names.{folded}
use Rattle.reg_tree_parts.specs.declared.value.Value.{Value}
use Rattle.hive_tree_model.specs.Loads.{CellMarks}
use Rattle.hive_cells.specs.Tiles.{IsAllocatedCell}
use Rattle.hive_cells.specs.Bins.{Cells, Shows}
use Rattle.hive_records.specs.Readers.{Reader, done, each, ◌⟫◌}
use Rattle.hive_records.specs.Values.{cell_prefix}
use Rattle.hive_records.specs.Lists.{leaf_at}
use Rattle.hive_records.specs.Follows.{Follows}

-- a flag for each 8 bytes of the data, at which a cell may begin
abbrev pub marks_of : List Bool → CellMarks
marks_of seen at = if at % 8 == 0 then slice_index_or seen (at / 8) false else false

-- the answer, by the value that it represents, is what the reader reads of the data's cells, and they are marked
abbrev pub FollowsIn : {X A : Type 0} → (X → A) → Reader A → Cells → CellMarks → CellMarks → Result X Refusal → Type 0
FollowsIn view m cells old new (Ok x) = Follows m cells old new (Ok (view x))
FollowsIn view m cells old new (Err r) = Follows m cells old new (Err r)

abbrev pub AnswersLikeReader : {X A : Type 0} → (X → A) → Reader A → List ℕ → List Bool → List Bool → Result X Refusal → Type 0
AnswersLikeReader view m bytes old new result = (cells : Cells) → Shows bytes cells → FollowsIn view m cells (marks_of old) (marks_of new) result

-- how many flags are set
abbrev pub set_flags : List Bool → ℕ
set_flags [] = 0
set_flags (b ∷ flags) = (if b then 1 else 0) + set_flags flags

-- flags were set, none was unset, and each flag that was set is the flag of an allocated cell
pub record Spreads (bytes : List ℕ) (old new : List Bool) : Type 0 where
  pub more : set_flags old ≤ set_flags new
  pub cells : (at : ℕ) → marks_of new at ≡ true → (marks_of old at ≡ true) ⊎ IsAllocatedCell bytes at

-- each look but a refused last one set a flag
abbrev pub Works : {X : Type 0} → ℕ → ℕ → List Bool → List Bool → Result X Refusal → Type 0
Works before after old new (Ok x) = after + set_flags old ≤ before + set_flags new
Works before after old new (Err r) = after + set_flags old ≤ before + set_flags new + 1

-- first bytes of cells one after another
abbrev pub joined_prefixes : List (ℕ × ℕ) → Reader (List ℕ)
joined_prefixes sizes = each (λ s. cell_prefix s.0 s.1) sizes ⟫ λ pieces. done (flat_map (λ p. p) pieces)

-- the size of the segment at an index, of data of a size in a number of segments: all but the last are full
abbrev pub size_at : ℕ → ℕ → ℕ → ℕ
size_at left n i = if (i + 1 == n) then left - 16_344 * i else 16_344

-- the folded names of values
abbrev pub names_in : List Value → List (List ℕ)
names_in values = map (λ (v : Value). folded v.name) values

-- the subkeys in lists one after another
abbrev pub joined_leaves : List ℕ → Reader (List ℕ)
joined_leaves lists = each leaf_at lists ⟫ λ subkey_list. done (flat_map (λ l. l) subkey_list)

-- each look but that at a security cell, and a refused last one, set a flag
abbrev pub KeyWorks : {X : Type 0} → ℕ → ℕ → List Bool → List Bool → Result X Refusal → Type 0
KeyWorks before after old new (Ok x) = after + set_flags old ≤ before + set_flags new + 1
KeyWorks before after old new (Err r) = after + set_flags old ≤ before + set_flags new + 2
