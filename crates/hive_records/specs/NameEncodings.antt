-- How names are written: in Latin-1 if all units are below 0x100, else in UTF-16, the lower byte first.
use Rattle.std.specs.Prelude.{ℕ, ◌<◌, ◌^◌, nat_lt, Bool, true, false, if◌then◌else◌, List, [], ◌∷◌, ◌++◌}
use Rattle.std.specs.List.{list_all, AllByRecursion}
use Rattle.hive_records.specs.Fields.{u16_bytes}

abbrev pub is_latin : List ℕ → Bool
is_latin name = list_all (λ u. nat_lt u 0x100) name

abbrev pub wide : List ℕ → List ℕ
wide [] = []
wide (u ∷ units) = u16_bytes u ++ wide units

abbrev pub spelled : Bool → List ℕ → List ℕ
spelled true name = name
spelled false name = wide name

abbrev pub name_bytes : List ℕ → List ℕ
name_bytes name = spelled (is_latin name) name

-- the flags of a record, with the flag of Latin-1 set if the name is stored so
abbrev pub latin_flag : ℕ → List ℕ → ℕ
latin_flag weight name = if is_latin name then weight else 0

-- units have two bytes
abbrev pub AreUnits : List ℕ → Type 0
AreUnits name = AllByRecursion (λ u. u < 2 ^ 16) name
