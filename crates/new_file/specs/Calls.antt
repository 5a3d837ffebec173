-- The calls by which a file is made, and what is known after them. The last call of a list comes first.
use Rattle.std.specs.Prelude.{◌≡◌, ℕ, Bool, true, false, List, [], ◌∷◌, ◌++◌}

-- a call, and whether the system said that it was done; one that failed may have been done, or a part of it
pub data Call : Type 0 where
  -- something was seen to have the file's name
  looked : Bool → Call
  -- the part was made, empty, where nothing had its name
  created : Bool → Call
  -- all these bytes were put behind those of the part
  written : List ℕ → Bool → Call
  -- the part's bytes are on the disk
  synced : Bool → Call
  -- the part got the file's name beside its own, where nothing had it
  linked : Bool → Call
  -- the part got the file's name in the place of its own
  renamed : Bool → Call
  -- the part's own name was taken away
  removed : Bool → Call
  -- the names in the folder are on the disk
  kept : Bool → Call

-- what is known of a part's bytes
pub data PartBytes : Type 0 where
  -- nothing
  unknown : PartBytes
  -- it has these bytes
  filling : List ℕ → PartBytes
  -- it has these bytes, and they are on the disk
  whole : List ℕ → PartBytes

-- more bytes behind those of a part
abbrev pub longer : PartBytes → List ℕ → PartBytes
longer unknown bytes = unknown
longer (filling before) bytes = filling (before ++ bytes)
longer (whole before) bytes = filling (before ++ bytes)

-- the part's bytes on the disk
abbrev pub on_disk : PartBytes → PartBytes
on_disk unknown = unknown
on_disk (filling bytes) = whole bytes
on_disk (whole bytes) = whole bytes

-- the part after calls
abbrev pub part_of : List Call → PartBytes
part_of [] = unknown
part_of (looked there ∷ before) = part_of before
part_of (created true ∷ before) = filling []
part_of (created false ∷ before) = unknown
part_of (written bytes true ∷ before) = longer (part_of before) bytes
part_of (written bytes false ∷ before) = unknown
part_of (synced true ∷ before) = on_disk (part_of before)
part_of (synced false ∷ before) = part_of before
part_of (linked done ∷ before) = part_of before
part_of (renamed done ∷ before) = part_of before
part_of (removed done ∷ before) = part_of before
part_of (kept done ∷ before) = part_of before

-- a call gives the file its name, or may have
abbrev pub gives_name : Call → Bool
gives_name (linked done) = true
gives_name (renamed done) = true
gives_name (looked there) = false
gives_name (created done) = false
gives_name (written bytes done) = false
gives_name (synced done) = false
gives_name (removed done) = false
gives_name (kept done) = false

-- a call takes the part's name away, or may have
abbrev pub takes_part : Call → Bool
takes_part (removed done) = true
takes_part (renamed done) = true
takes_part (looked there) = false
takes_part (created done) = false
takes_part (written bytes done) = false
takes_part (synced done) = false
takes_part (linked done) = false
takes_part (kept done) = false

-- the part was made by these calls
abbrev pub is_made : List Call → Bool
is_made [] = false
is_made (created true ∷ before) = true
is_made (created false ∷ before) = is_made before
is_made (looked there ∷ before) = is_made before
is_made (written bytes done ∷ before) = is_made before
is_made (synced done ∷ before) = is_made before
is_made (linked done ∷ before) = is_made before
is_made (renamed done ∷ before) = is_made before
is_made (removed done ∷ before) = is_made before
is_made (kept done ∷ before) = is_made before

-- the file got its name by these calls
abbrev pub is_named : List Call → Bool
is_named [] = false
is_named (linked true ∷ before) = true
is_named (linked false ∷ before) = is_named before
is_named (renamed true ∷ before) = true
is_named (renamed false ∷ before) = is_named before
is_named (looked there ∷ before) = is_named before
is_named (created done ∷ before) = is_named before
is_named (written bytes done ∷ before) = is_named before
is_named (synced done ∷ before) = is_named before
is_named (removed done ∷ before) = is_named before
is_named (kept done ∷ before) = is_named before

-- the file has its name, and the last call has put the names on the disk
abbrev pub is_kept : List Call → Bool
is_kept [] = false
is_kept (kept true ∷ before) = is_named before
is_kept (_ ∷ before) = false

-- the system said of one of these calls that it failed; of a look it is told only whether something was seen
abbrev pub has_failed : List Call → Bool
has_failed [] = false
has_failed (created false ∷ before) = true
has_failed (written bytes false ∷ before) = true
has_failed (synced false ∷ before) = true
has_failed (linked false ∷ before) = true
has_failed (renamed false ∷ before) = true
has_failed (removed false ∷ before) = true
has_failed (kept false ∷ before) = true
has_failed (looked there ∷ before) = has_failed before
has_failed (created true ∷ before) = has_failed before
has_failed (written bytes true ∷ before) = has_failed before
has_failed (synced true ∷ before) = has_failed before
has_failed (linked true ∷ before) = has_failed before
has_failed (renamed true ∷ before) = has_failed before
has_failed (removed true ∷ before) = has_failed before
has_failed (kept true ∷ before) = has_failed before

-- After each of these calls, wherever they are cut: what gave the file its name came after all these bytes were in the part and
-- on the disk. And a part's name was taken away by whoever made it alone.
abbrev pub NamesAfterSync : List ℕ → List Call → Type 0
NamesAfterSync bytes [] = Unit {0}
NamesAfterSync bytes (call ∷ before) =
    (gives_name call ≡ true → part_of before ≡ whole bytes)
    × (takes_part call ≡ true → is_made before ≡ true)
    × NamesAfterSync bytes before
