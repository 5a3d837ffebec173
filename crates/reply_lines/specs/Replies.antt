-- The text of each reply.
use Rattle.std.specs.Prelude.{ℕ, ◌==◌, nat_le, not, ◌&&◌, if◌then◌else◌, List, [], ◌∷◌, ◌++◌, length, codes}
use Rattle.std.specs.List.{flat_map}
use Rattle.std.specs.Fmt.{decimal}
use Rattle.std.specs.Int.{w16, to_be_bytes}
use Rattle.std.specs.Str.{bytes_eq}
use Rattle.hex.specs.Hex.{encode_lower}
use Rattle.refusals.specs.Refusals.{refusal_text}
use Rattle.reply_lines.specs.declared.reply.ReplyLine.{ReplyLine}
use Rattle.reply_lines.specs.declared.reply.ReplyLine.TheVariants.{Done, Created, CreatedInside, Opened, Accepted, Value, Keys, Values, Info, Committed, Flushed, Folded, NotYet, StepIdle, StepMore, StepDone, StillActive, HasCommitted, RolledBack, Refused}

-- a unit from 0x21 to 0x7e except `%` is written as itself; any other is `%` and four hex digits
abbrev pub unit_text : ℕ → List ℕ
unit_text u = if nat_le 33 u && nat_le u 126 && not (u == 37) then u ∷ [] else 37 ∷ encode_lower (to_be_bytes w16 u)

-- a name, unit by unit; the empty one is `@`, and the name `@` itself is spelled by its number
abbrev pub name_text : List ℕ → List ℕ
name_text name = if length name == 0 then codes "@" else if bytes_eq name (64 ∷ []) then codes "%0040" else flat_map unit_text name

-- names, each after a blank
abbrev pub names_text : List (List ℕ) → List ℕ
names_text names = flat_map (λ name. 32 ∷ name_text name) names

-- pairs of hex digits, or a minus for no bytes
abbrev pub data_text : List ℕ → List ℕ
data_text bytes = if length bytes == 0 then codes "-" else encode_lower bytes

abbrev pub reply_text : ReplyLine → List ℕ
reply_text Done = codes "ok"
reply_text (Created levels number) = codes "created " ++ decimal levels ++ codes " accepted " ++ decimal number
reply_text (CreatedInside levels) = codes "created " ++ decimal levels
reply_text Opened = codes "opened"
reply_text (Accepted number) = codes "accepted " ++ decimal number
reply_text (Value kind bytes) = codes "value " ++ decimal kind ++ codes " " ++ data_text bytes
reply_text (Keys names) = codes "keys " ++ decimal (length names) ++ names_text names
reply_text (Values names) = codes "values " ++ decimal (length names) ++ names_text names
reply_text (Info subkeys values time) = codes "info " ++ decimal subkeys ++ codes " " ++ decimal values ++ codes " " ++ decimal time
reply_text (Committed number) = codes "committed " ++ decimal number
reply_text (Flushed number) = codes "flushed " ++ decimal number
reply_text (Folded number) = codes "folded " ++ decimal number
reply_text NotYet = codes "notyet"
reply_text StepIdle = codes "idle"
reply_text StepMore = codes "more"
reply_text StepDone = codes "done"
reply_text StillActive = codes "active"
reply_text HasCommitted = codes "committed"
reply_text RolledBack = codes "rolledback"
reply_text (Refused refusal) = refusal_text refusal

-- a reply's line: its text and the byte that ends it
abbrev pub reply_line : ReplyLine → List ℕ
reply_line reply = reply_text reply ++ 10 ∷ []
