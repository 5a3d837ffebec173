-- The moment of a key's last write, as a date.
use Rattle.std.specs.Prelude.{◌≡◌, ℕ, false, ◌⊎◌, List, [], ◌++◌, Option, Some, None, ℤ, pos, ◌-ℤ◌, ◌*ℤ◌, codes}
use Rattle.std.specs.Borrow.{Bor}
use Rattle.jiff_core.specs.declared.civil.datetime.DateTime.{DateTime}
use Rattle.jiff_core.specs.DateTime.{civil_nanos}
use Rattle.jiff_core.specs.Timestamp.{IsTimestampNanos}
use Rattle.jiff_fmt.specs.Text.{datetime_text}

-- nanoseconds since 1970 at a FILETIME, which counts 100 nanoseconds since 1601
abbrev pub nanos_of : ℕ → ℤ
nanos_of time = (pos time -ℤ pos 116_444_736_000_000_000) *ℤ pos 100

-- the text of a FILETIME: what a clock in UTC shows, with seven places of a second, and `Z`
abbrev pub IsUtcText : ℕ → List ℕ → Type 0
IsUtcText time text = (dt : DateTime) × (civil_nanos dt ≡ nanos_of time) × (text ≡ datetime_text false 84 (Some 7) dt ++ codes "Z")

-- the field of a FILETIME: its text, if a timestamp holds the moment; else nothing
abbrev pub IsUtcField : ℕ → List ℕ → Type 0
IsUtcField time field =
    ((text : List ℕ) × IsTimestampNanos (nanos_of time) × IsUtcText time text × (field ≡ codes ",\"utc\":\"" ++ text ++ codes "\"")) ⊎ ((¬ IsTimestampNanos (nanos_of time)) × (field ≡ []))

-- the field of a moment's text, if there is one
abbrev pub utc_field : Option (Bor (List ℕ)) → List ℕ
utc_field None = []
utc_field (Some text) = codes ",\"utc\":\"" ++ text.now ++ codes "\""
