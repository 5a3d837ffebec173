-- What the calls on a cursor answer, and what they leave.
use Rattle.std.specs.Prelude.{◌≡◌, ◌⊎◌, ℕ, if◌then◌else◌, List, [], length, Option, Some, None, IsSome, Result, Ok, Err, ok_or, MatchBool}
use Rattle.refusals.specs.declared.refusal.Refusal.{Refusal}
use Rattle.refusals.specs.declared.refusal.Refusal.TheVariants.{NotFound}
use Rattle.reg_names.specs.Names.{folded_path}
use Rattle.reg_tree_parts.specs.declared.value.Value.{Value}
use Rattle.reg_tree_parts.specs.Rows.{Row}
use Rattle.reg_tree.specs.Maps.{TreeMap, is_there}
use Rattle.reg_tree.specs.declared.tree.Info.{Info}
use Rattle.regtx_c.specs.declared.codes.TheConstants.{OK, NO_MEMORY, NOT_OPEN}
use Rattle.regtx_c.specs.declared.reads.KeyInfo.{KeyInfo}
use Rattle.regtx_c.specs.declared.cursors.ValueInfo.{ValueInfo}
use Rattle.regtx_c.specs.declared.cursor_handle.CursorHandle.{CursorHandle}
use Rattle.regtx_c.specs.Codes.{refusal_code}
use Rattle.regtx_c.specs.Held.{first}
use Rattle.regtx_c.specs.Buffers.{IsCopied, AreCopied}
use Rattle.regtx_c.specs.Questions.{with_names, names_of}
use Rattle.regtx_c.specs.Parts.{IsPart}
use Rattle.regtx_c.specs.Places.{TreePlace, leads, key_at}

-- the place at which a cursor is, if it is open
abbrev pub place_in : CursorHandle → Option TreePlace
place_in cursor = first cursor.handle.held.blocks

-- an open cursor is at a key
abbrev pub IsAtKey : Option TreePlace → Type 0
IsAtKey None = Unit {0}
IsAtKey (Some place) = IsSome (key_at place)

-- the folded path of the key to which a path's text leads, and the tree in which it does
abbrev pub key_path : List ℕ → TreeMap → Result (TreeMap × List (List ℕ)) Refusal
key_path text tree = with_names (names_of text) (λ names. if is_there tree (folded_path names) then Ok (tree, folded_path names) else Err NotFound)

-- a cursor is opened at the root of a tree's part at a path; or the number says why it isn't, and it stays
abbrev pub OpensAt : Result (TreeMap × List (List ℕ)) ℕ → Option TreePlace → Option TreePlace → ℕ → Type 0
OpensAt (Ok found) before after code = (code ≡ OK) × (part : TreeMap) × IsPart found.0 found.1 part × (after ≡ Some (record { tree = part; way = [] }))
OpensAt (Err why) before after code = (code ≡ why) × (after ≡ before)

-- the same, or memory was not given
abbrev pub OpensOrNoMemory : Result (TreeMap × List (List ℕ)) ℕ → Option TreePlace → Option TreePlace → ℕ → Type 0
OpensOrNoMemory answer before after code = OpensAt answer before after code ⊎ OpensAt (Err NO_MEMORY) before after code

-- a place is stepped to the way that is wanted, if a key is there; else it stays
abbrev pub Steps : (List ℕ → Option (List ℕ)) → TreePlace → TreePlace → ℕ → Type 0
Steps wanted before after code =
    MatchBool (leads before.tree (wanted before.way)) ((code ≡ OK) × (after.tree ≡ before.tree) × (Some after.way ≡ wanted before.way)) ((code ≡ refusal_code NotFound) × (after ≡ before))

-- the same, or memory was not given
abbrev pub StepsOrNoMemory : (List ℕ → Option (List ℕ)) → TreePlace → TreePlace → ℕ → Type 0
StepsOrNoMemory wanted before after code = Steps wanted before after code ⊎ ((code ≡ NO_MEMORY) × (after ≡ before))

-- an open cursor is stepped so; if none is open, none is afterwards
abbrev pub OnOpen : (TreePlace → TreePlace → ℕ → Type 0) → Option TreePlace → Option TreePlace → ℕ → Type 0
OnOpen Step None None code = code ≡ NOT_OPEN
OnOpen Step None (Some after) code = ⊥
OnOpen Step (Some before) None code = ⊥
OnOpen Step (Some before) (Some after) code = Step before after code

-- what a question to the place of a cursor comes to
abbrev pub asked_there : {X : Type 0} → Option TreePlace → (TreePlace → Option X) → Result X ℕ
asked_there None ask = Err NOT_OPEN
asked_there (Some place) ask = ok_or (ask place) (refusal_code NotFound)

-- the counts of a key are told, and its name as spelled is copied; or the number says why there are none
abbrev pub TellsKey : Result (Row × Info) ℕ → KeyInfo → KeyInfo → List ℕ → List ℕ → ℕ → ℕ → ℕ → Type 0
TellsKey (Ok found) info_before info before after len_before len code =
    let row = found.0 in let counts = found.1 in (info ≡ record { subkeys = counts.subkeys; values = counts.values; time = counts.time }) × IsCopied row.name before after len code
TellsKey (Err why) info_before info before after len_before len code = (info ≡ info_before) × (code ≡ why) × (after ≡ before) × (len ≡ len_before)

-- the type of a value and the lengths of its name and data are told, and its name and data are copied, or neither; or the
-- number says why there is none
abbrev pub TellsValue : Result Value ℕ → ValueInfo → ValueInfo → List ℕ → List ℕ → List ℕ → List ℕ → ℕ → Type 0
TellsValue (Ok value) info_before info name_before name before after code =
    (info ≡ record { kind = value.kind; name_len = length value.name; len = length value.data }) × AreCopied value.name value.data name_before name before after code
TellsValue (Err why) info_before info name_before name before after code = (info ≡ info_before) × (code ≡ why) × (name ≡ name_before) × (after ≡ before)
