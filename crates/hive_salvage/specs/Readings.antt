-- What is read of a damaged hive's cells, and why something isn't. Marks say which cells were taken before.
use Rattle.std.specs.Prelude.{◌≡◌, ◌≢◌, ◌⊎◌, ℕ, ◌*◌, ◌/◌, ◌<◌, ◌≤◌, min, Bool, List, [], ◌∷◌, ◌++◌, length, Some, None, Ok, Err}
use Rattle.std.specs.FinMap as finite
use Rattle.refusals.specs.declared.refusal.Refusal.{Refusal}
use Rattle.refusals.specs.declared.refusal.Cause.TheVariants as cause
use Rattle.reg_names.specs.Names.{folded}
use Rattle.reg_tree_parts.specs.declared.value.Value.{Value}
use Rattle.reg_tree_parts.specs.Rows.{ValueMap}
use Rattle.reg_tree_parts.specs.ValueEdits.{values_with}
use Rattle.hive_cells.specs.Tiles.{u32_at}
use Rattle.hive_cells.specs.Bins.{Cells}
use Rattle.hive_tree_model.specs.Loads.{CellMarks}
use Rattle.hive_records.specs.Readers.{Reader, look}
use Rattle.hive_records.specs.Follows.{Follows, Meets}
use Rattle.hive_records.specs.Heads.{hive_damage, list_fault, IsSubkeyList}
use Rattle.hive_records.specs.Values.{value_at}
use Rattle.hive_records.specs.declared.list_record.SubkeyList.{SubkeyList}
use Rattle.hive_lookup.specs.declared.list_kind.ListKind.TheVariants.{Subkeys, Values}
use Rattle.hive_lookup.specs.Records.{record_at, name_in_record}
use Rattle.hive_salvage.specs.declared.loss.Part.TheVariants as part
use Rattle.hive_salvage.specs.Events.{Event, lost, loss_of, Steps}

-- something isn't read for this reason: its definition refuses it so, or a cell of it was taken before
abbrev pub Fails : {A : Type 0} → Reader A → Cells → CellMarks → Refusal → Type 0
Fails m cells old why = ((m cells).says ≡ Err why) ⊎ ((why ≡ hive_damage cause.Shared) × Meets old (m cells).own)

-- a part of a key is what is read; or it isn't read, nothing stands in its place, and the loss is told
abbrev pub KeptOrLost : {A : Type 0} → Reader A → A → (Refusal → Event) → Cells → CellMarks → CellMarks → A → List Event → Type 0
KeptOrLost m nothing loss cells old new kept told =
    (Follows m cells old new (Ok kept) × (told ≡ []))
    ⊎ ((why : Refusal) × Fails m cells old why × (kept ≡ nothing) × (told ≡ loss why ∷ []))

-- ---- values

-- cells that are taken, and the values so far
abbrev pub ValuesSoFar : Type 0
ValuesSoFar = CellMarks × ValueMap

-- why the value at an offset isn't kept: its record isn't read, or its data, or one of its name is there
abbrev pub ValueFails : Bool → Cells → ValuesSoFar → ℕ → Refusal → Type 0
ValueFails split cells old at why =
    (record_at Values cells at ≡ Err why)
    ⊎ (Fails (value_at split at) cells old.0 why
    ⊎ ((value : Value) × ((value_at split at cells).says ≡ Ok value) × (finite.get old.1 (folded value.name) ≢ None) × (why ≡ hive_damage cause.BadName)))

-- the value at an offset is one more, or its loss is told
abbrev pub ValueIs : Bool → Cells → List (List ℕ) → ℕ → ℕ → ValuesSoFar → ValuesSoFar → List Event → Type 0
ValueIs split cells names place at old new told =
    ((value : Value) × Follows (value_at split at) cells old.0 new.0 (Ok value) × (finite.get old.1 (folded value.name) ≡ None) × (new.1 ≡ values_with old.1 value.name value.kind value.data) × (told ≡ []))
    ⊎ ((why : Refusal) × ValueFails split cells old at why × (new.1 ≡ old.1) × (told ≡ lost names (loss_of (part.Value place) at why) ∷ []))

-- so is each of the first values of a list, one after another
abbrev pub ValuesAre : Bool → Cells → List (List ℕ) → List ℕ → ℕ → ValuesSoFar → ValuesSoFar → List Event → Type 0
ValuesAre split cells names list count old new told = Steps (λ place. ValueIs split cells names place (u32_at list (4 * place))) count old new told

-- of a list with too few bytes those values are read that it has room for, and this is told
abbrev pub room_told : List (List ℕ) → ℕ → ℕ → List ℕ → List Event → Type 0
room_told names count at list told =
    ((4 * count ≤ length list) × (told ≡ []))
    ⊎ ((length list < 4 * count) × (told ≡ lost names (loss_of part.ValueCount at (hive_damage cause.BadRecord)) ∷ []))

-- the values of a key that says how many they are and where their list is
abbrev pub ListedValues : Bool → Cells → List (List ℕ) → ℕ → ℕ → CellMarks → ValuesSoFar → List Event → Type 0
ListedValues split cells names count at old new told =
    ((count ≡ 0) × (new ≡ (old, finite.empty)) × (told ≡ []))
    ⊎ (((why : Refusal) × (count ≢ 0) × Fails (look at) cells old why × (new.1 ≡ finite.empty) × (told ≡ lost names (loss_of part.ValueList at why) ∷ []))
    ⊎ ((list : List ℕ) × (mid : CellMarks) × (first : List Event) × (rest : List Event) × (count ≢ 0) × Follows (look at) cells old mid (Ok list)
    × room_told names count at list first × ValuesAre split cells names list (min (length list / 4) count) (mid, finite.empty) new rest × (told ≡ first ++ rest)))

-- ---- lists of subkeys

-- the list of subkeys at an offset is read, and its cell taken
abbrev pub ListIs : Cells → ℕ → CellMarks → CellMarks → SubkeyList → Type 0
ListIs cells at old new list = (bytes : List ℕ) × Follows (look at) cells old new (Ok bytes) × (list_fault bytes ≡ None) × IsSubkeyList list bytes

-- why it isn't
abbrev pub ListFails : Cells → ℕ → CellMarks → Refusal → Type 0
ListFails cells at old why = Fails (look at) cells old why ⊎ ((bytes : List ℕ) × (cells at ≡ Some bytes) × (list_fault bytes ≡ Some why))

-- the node of a subkey at an offset is read and has this name, and its cell is taken
abbrev pub NodeIs : Cells → ℕ → CellMarks → CellMarks → List ℕ → Type 0
NodeIs cells at old new name = (bytes : List ℕ) × (record_at Subkeys cells at ≡ Ok bytes) × (name ≡ name_in_record Subkeys bytes) × (name ≢ []) × (its_data : List ℕ) × Follows (look at) cells old new (Ok its_data)

-- why it isn't: the node isn't read, has no name, or is taken
abbrev pub NodeFails : Cells → ℕ → CellMarks → Refusal → Type 0
NodeFails cells at old why =
    (record_at Subkeys cells at ≡ Err why)
    ⊎ (((bytes : List ℕ) × (record_at Subkeys cells at ≡ Ok bytes) × (name_in_record Subkeys bytes ≡ []) × (why ≡ hive_damage cause.BadName))
    ⊎ Fails (look at) cells old why)
