-- The lines that tell what isn't read of a hive. Offsets are those in the file.
use Rattle.std.specs.Prelude.{ℕ, ◌+◌, ◌-◌, ◌^◌, ◌==◌, min, if◌then◌else◌, false, List, [], ◌∷◌, ◌++◌, codes}
use Rattle.std.specs.Fmt.{decimal, digits}
use Rattle.refusals.specs.declared.refusal.Refusal.{Refusal}
use Rattle.refusals.specs.declared.refusal.Refusal.TheVariants as refusal
use Rattle.refusals.specs.Refusals.{cause_text, refusal_text}
use Rattle.tree_printer.specs.TreeTexts.{path_text}
use Rattle.hive_mending.specs.declared.gap.Gap.{Gap}
use Rattle.hive_mending.specs.declared.gap.GapKind.{GapKind}
use Rattle.hive_mending.specs.declared.gap.GapKind.TheVariants as kind
use Rattle.hive_salvage.specs.declared.loss.Part.{Part}
use Rattle.hive_salvage.specs.declared.loss.Part.TheVariants as part
use Rattle.hive_salvage.specs.declared.loss.Loss.{Loss}
use Rattle.salvage_report.specs.declared.damaged_hive.HiveState.{HiveState}
use Rattle.salvage_report.specs.declared.totals.Totals.{Totals}

-- a place in the file, by an offset in the bins data
abbrev pub place_text : ℕ → List ℕ
place_text at = codes "0x" ++ digits 16 false (4096 + at) ++ codes " "

-- why something isn't read
abbrev pub why_text : Refusal → List ℕ
why_text (refusal.HiveDamaged h c) = cause_text c
why_text refusal.Unsupported = codes "Unsupported"
why_text refusal.TooLarge = codes "TooLarge"
why_text why = refusal_text why

-- a subkey by its place in a list, which is named if it isn't the first one; places count from 1 on
abbrev pub subkey_text : ℕ → ℕ → List ℕ
subkey_text leaf place =
    if leaf == 0 then codes " key " ++ (decimal (place + 1) ++ codes " below ")
    else (codes " key " ++ (decimal (place + 1) ++ codes " of")) ++ (codes " list " ++ (decimal (leaf + 1) ++ codes " below "))

-- what isn't read
abbrev pub part_text : Part → List ℕ
part_text part.Class = codes " class of "
part_text part.Descriptor = codes " descriptor of "
part_text part.ValueList = codes " list of values of "
part_text part.ValueCount = codes " number of values of "
part_text (part.Value place) = codes " value " ++ (decimal (place + 1) ++ codes " of ")
part_text part.SubkeyList = codes " list of keys below "
part_text (part.Leaf place) = codes " list " ++ (decimal (place + 1) ++ codes " of keys below ")
part_text part.SubkeyCount = codes " number of keys below "
part_text (part.Subkey leaf place) = subkey_text leaf place
part_text part.Security = codes " security cells of "

-- the key to which names lead, and the line's end
abbrev pub key_text : List (List ℕ) → List ℕ
key_text [] = codes "the root\n"
key_text (name ∷ names) = path_text (name ∷ names) ++ codes "\n"

-- a loss of the key to which names lead
abbrev pub loss_line : List (List ℕ) → Loss → List ℕ
loss_line names loss = place_text loss.at ++ (why_text loss.why ++ (part_text loss.part ++ key_text names))

-- a key that is read, but has a name that a registration file can't show
abbrev pub unshown_line : List (List ℕ) → List ℕ
unshown_line names = codes "BadName names of " ++ key_text names

abbrev pub kind_text : GapKind → List ℕ
kind_text kind.BadBin = codes "BadBin "
kind_text kind.BadCell = codes "BadCell "

-- bytes that lie in no bin or in no cell
abbrev pub gap_line : Gap → List ℕ
gap_line gap = place_text gap.at ++ (kind_text gap.kind ++ (decimal gap.bytes ++ codes " bytes\n"))

-- how much was printed, how many keys and values were left out, and how much else
abbrev pub printed_text : Totals → List ℕ
printed_text totals = codes "salvaged " ++ decimal totals.keys ++ codes " keys, " ++ decimal totals.values ++ codes " values; left out "

abbrev pub left_out_text : Totals → List ℕ
left_out_text totals = decimal totals.lost_keys ++ codes " keys, " ++ decimal totals.lost_values ++ codes " values, "

abbrev pub totals_line : Totals → ℕ → List ℕ
totals_line totals bytes = printed_text totals ++ (left_out_text totals ++ (decimal totals.lost_parts ++ codes " other parts, " ++ decimal bytes ++ codes " bytes\n"))

-- that the hive's numbers differ, that the base block's sum is wrong, and how much is missing at the end of the file
abbrev pub clean_note : HiveState → List ℕ
clean_note state = if state.is_clean then [] else codes "not clean: changes in its logs are missing\n"

abbrev pub sum_note : HiveState → List ℕ
sum_note state = if state.sum_is_right then [] else codes "wrong sum: the base block may be damaged\n"

abbrev pub missing_note : HiveState → List ℕ
missing_note state = if state.missing_bytes == 0 then [] else codes "0x" ++ digits 16 false (min (state.bins_bytes + 4096) (2 ^ 64 - 1)) ++ codes " Truncated " ++ decimal state.missing_bytes ++ codes " bytes\n"
