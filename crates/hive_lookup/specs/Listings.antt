-- What a key has and lists, and why it isn't told.
use Rattle.std.specs.Prelude.{◌≡◌, ◌⊎◌, ℕ, Bool, List, [], map, Result, Ok, Err}
use Rattle.std.specs.List.{IsDistinct}
use Rattle.std.specs.List.Sorted.{IsPermutation, IsSorted}
use Rattle.std.specs.Ordering.{eq_by_cmp}
use Rattle.refusals.specs.declared.refusal.Refusal.{Refusal}
use Rattle.refusals.specs.declared.refusal.Cause.TheVariants as cause
use Rattle.reg_names.specs.Names.{name_cmp}
use Rattle.reg_tree_parts.specs.Rows.{Row}
use Rattle.hive_cells.specs.Bins.{Cells}
use Rattle.hive_tree_model.specs.Lists.{IsIn}
use Rattle.hive_records.specs.KeyNodes.{key_at}
use Rattle.hive_records.specs.Heads.{hive_damage}
use Rattle.hive_lookup.specs.declared.list_kind.ListKind.TheVariants.{Subkeys}
use Rattle.hive_lookup.specs.Records.{record_at, AreRecords, name_in_record}
use Rattle.hive_lookup.specs.Lookups.{IsUnreadFor, KeyLists, ListIsUnread}

abbrev pub name_if_read : Result (List ℕ) Refusal → List ℕ
name_if_read (Ok bytes) = name_in_record Subkeys bytes
name_if_read (Err why) = []

-- the names of the keys at some offsets, as they are spelled
abbrev pub names_listed : Cells → List ℕ → List (List ℕ)
names_listed cells listed = map (λ at. name_if_read (record_at Subkeys cells at)) listed

-- no two names are the same in any case of their letters
abbrev pub AreDifferent : List (List ℕ) → Type 0
AreDifferent names = IsDistinct (eq_by_cmp name_cmp) names

-- each subkey that the key lists is read, and these are their names, all different, in the order of their folded names
abbrev pub ListsNames : Cells → ℕ → List (List ℕ) → Type 0
ListsNames cells key names = (listed : List ℕ) × KeyLists Subkeys cells key listed × AreRecords Subkeys cells listed × AreDifferent (names_listed cells listed) × IsPermutation (names_listed cells listed) names × IsSorted name_cmp names

-- the key at one of these offsets isn't read
abbrev pub IsUnreadIn : Cells → List ℕ → ℕ → Refusal → Type 0
IsUnreadIn cells listed at why = IsIn at listed × (record_at Subkeys cells at ≡ Err why)

-- why the names of a key's subkeys aren't told, and at which offset that stands
abbrev pub NamesBreak : Cells → ℕ → ℕ → Refusal → Type 0
NamesBreak cells key at why =
    ((at ≡ key) × ListIsUnread Subkeys cells key why)
    ⊎ ((listed : List ℕ) × KeyLists Subkeys cells key listed
    × (IsUnreadIn cells listed at why ⊎ ((at ≡ key) × (why ≡ hive_damage cause.BadName) × AreRecords Subkeys cells listed × (¬ AreDifferent (names_listed cells listed)))))

-- the key at an offset is read whole, and has this row
abbrev pub KeySays : Bool → Cells → ℕ → Row → Type 0
KeySays split cells at row = (listed : List ℕ) × ((key_at split at cells).says ≡ Ok (row, listed))

-- it isn't
abbrev pub KeyBreaks : Bool → Cells → ℕ → ℕ → Refusal → Type 0
KeyBreaks split cells key at why = (at ≡ key) × IsUnreadFor (key_at split key cells) why
