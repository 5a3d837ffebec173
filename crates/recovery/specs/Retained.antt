-- Which changes an opening retains: those that some hive lacks, each with its number.
use Rattle.std.specs.Prelude.{◌≡◌, ℕ, ◌+◌, ◌≤◌, Bool, true, false, ◌&&◌, ◌==◌, nat_le, nat_lt, get_or, List, length, vec_capacity}
use Rattle.std.specs.List.{filter, list_any, zip}
use Rattle.std.specs.List.Sorted.{IsNonDecreasingBy, IsPartitionPoint}
use Rattle.reg_tree.specs.declared.element.Element.{Element}
use Rattle.reg_tree.specs.Operations.{hive_of}
use Rattle.change_codec.specs.Changes.{hives_of}
use Rattle.commit_journal.specs.Numbered.{NumberedChange}
use Rattle.recovery.specs.declared.retained_changes.RetainedChanges.{RetainedChanges}

-- the changes, each after its number
abbrev pub numbered_changes : RetainedChanges → List NumberedChange
numbered_changes retained = zip retained.numbers.items retained.changes.items

-- there is room for this many more
abbrev pub HasRoom : ℕ → RetainedChanges → Type 0
HasRoom count retained = (length retained.numbers.items + count ≤ vec_capacity retained.numbers) × (length retained.changes.items + count ≤ vec_capacity retained.changes)

-- the numbers ascend
abbrev pub AreAscending : List NumberedChange → Type 0
AreAscending changes = IsNonDecreasingBy (λ (c : NumberedChange). c.0) changes

-- of changes those with a number above this
abbrev pub above_number : ℕ → List NumberedChange → List NumberedChange
above_number number changes = filter (λ (c : NumberedChange). nat_lt number c.0) changes

-- whether a change has an operation on a hive
abbrev pub is_on : ℕ → Element → Bool
is_on hive change = list_any (λ one. one == hive) (hives_of change)

-- how many of the changes a hive lacks that has this number: they are on it, and above the number
abbrev pub count_lacked : ℕ → ℕ → List NumberedChange → ℕ
count_lacked hive number changes = length (filter (λ (c : NumberedChange). nat_lt number c.0 && is_on hive c.1) changes)

-- of numbers that ascend, those from this place on are above this one, and the others are not
abbrev pub IsPlaceAbove : ℕ → List ℕ → ℕ → Type 0
IsPlaceAbove number numbers place = IsPartitionPoint (λ n. nat_le n number ≡ true) (λ n. nat_le n number ≡ false) numbers place

-- Some hive lacks a change: the change has an operation on it, and the hive's own number is below the change's. These
-- are the hives' own numbers, in their order. A hive without a number has the number 0.
abbrev pub is_lacked : List ℕ → NumberedChange → Bool
is_lacked numbers change = list_any (λ op. nat_lt (get_or numbers (hive_of op) 0) change.0) change.1.ops
