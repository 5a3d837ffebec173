-- What is printed of what a salvage tells.
use Rattle.std.specs.Prelude.{ℕ, ◌+◌, ◌-◌, ◌^◌, min, Bool, true, false, ◌&&◌, ◌||◌, if◌then◌else◌, List, [], ◌∷◌, Option, Some, None}
use Rattle.std.specs.FinMap as finite
use Rattle.std.specs.Ordering.{eq_by_cmp}
use Rattle.reg_names.specs.Names.{folded_path}
use Rattle.reg_tree_parts.specs.Orders.{name_order}
use Rattle.reg_tree_parts.specs.Nodes.{begins_path}
use Rattle.reg_tree_parts.specs.Rows.{Row}
use Rattle.key_walk.specs.KeyRows.{NamedRow}
use Rattle.std.specs.List.{flat_map}
use Rattle.reg_export.specs.declared.encoding.Encoding.{Encoding}
use Rattle.reg_export.specs.Scans.{new_scan, scan_with, seen_can_show, shown_names}
use Rattle.hive_salvage.specs.Events.{Event, found, lost}
use Rattle.hive_salvage.specs.declared.loss.Part.{Part}
use Rattle.hive_salvage.specs.declared.loss.Part.TheVariants as part
use Rattle.salvage_report.specs.declared.totals.Totals.{Totals}
use Rattle.salvage_report.specs.LossTexts.{loss_line, unshown_line}

-- two paths of folded names are the same
abbrev pub same_path : List (List ℕ) → List (List ℕ) → Bool
same_path [] [] = true
same_path [] (m ∷ other) = false
same_path (n ∷ path) [] = false
same_path (n ∷ path) (m ∷ other) = eq_by_cmp name_order m n && same_path path other

abbrev pub no_totals : Totals
no_totals = record { keys = 0; values = 0; lost_keys = 0; lost_values = 0; lost_parts = 0 }

-- a number more, up to the greatest of 64 bits
abbrev pub and_more : ℕ → ℕ → ℕ
and_more number more = min (number + more) (2 ^ 64 - 1)

-- totals with a key more
abbrev pub totals_with_key : Totals → Row → Totals
totals_with_key totals row = record totals { keys = and_more totals.keys 1; values = and_more totals.values (finite.len (row.values)) }

-- totals with a loss more
abbrev pub totals_with_loss : Totals → Part → Totals
totals_with_loss totals (part.Subkey leaf place) = record totals { lost_keys = and_more totals.lost_keys 1 }
totals_with_loss totals (part.Value place) = record totals { lost_values = and_more totals.lost_values 1 }
totals_with_loss totals which = record totals { lost_parts = and_more totals.lost_parts 1 }

-- totals with a key that is read, but not printed
abbrev pub totals_with_unshown : Totals → Totals
totals_with_unshown totals = record totals { lost_keys = and_more totals.lost_keys 1 }

-- what is asked for: the encoding of a registration file, if it is one, and a path
abbrev pub Asked : Type 0
Asked = Option Encoding × List (List ℕ)

-- a file in this encoding can show the names of a key and of its values; any other form can
abbrev pub can_show_key : Option Encoding → NamedRow → Bool
can_show_key None key = true
can_show_key (Some encoding) key = seen_can_show encoding (scan_with new_scan (shown_names key))

-- a key lies at the path or below it
abbrev pub is_asked : List (List ℕ) → List (List ℕ) → Bool
is_asked path names = begins_path (folded_path path) (folded_path names)

-- so, or it lies on the way to the path: its losses are told
abbrev pub is_told : List (List ℕ) → List (List ℕ) → Bool
is_told path names = is_asked path names || begins_path (folded_path names) (folded_path path)

-- the key that is printed of what is told
abbrev pub row_shown : Asked → Event → List NamedRow
row_shown asked (found key) = if is_asked asked.1 key.0 && can_show_key asked.0 key then key ∷ [] else []
row_shown asked (lost names loss) = []

-- its line
abbrev pub line_told : Asked → Event → List ℕ
line_told asked (found key) = if is_asked asked.1 key.0 then (if can_show_key asked.0 key then [] else unshown_line key.0) else []
line_told asked (lost names loss) = if is_told asked.1 names then loss_line names loss else []

-- totals with it
abbrev pub totals_with : Asked → Totals → Event → Totals
totals_with asked totals (found key) = if is_asked asked.1 key.0 then (if can_show_key asked.0 key then totals_with_key totals key.1 else totals_with_unshown totals) else totals
totals_with asked totals (lost names loss) = if is_told asked.1 names then totals_with_loss totals loss.part else totals

-- the same of all that is told
abbrev pub rows_shown : Asked → List Event → List NamedRow
rows_shown asked events = flat_map (row_shown asked) events

abbrev pub lines_told : Asked → List Event → List ℕ
lines_told asked events = flat_map (line_told asked) events

abbrev pub totals_after : Asked → Totals → List Event → Totals
totals_after asked totals [] = totals
totals_after asked totals (event ∷ events) = totals_after asked (totals_with asked totals event) events

-- a key at the path or below it is found
abbrev pub is_among : List (List ℕ) → List Event → Bool
is_among path [] = false
is_among path (found key ∷ events) = is_asked path key.0 || is_among path events
is_among path (lost names loss ∷ events) = is_among path events
