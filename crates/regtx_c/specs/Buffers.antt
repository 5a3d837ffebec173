-- How a list that a caller asks for gets into a buffer of the caller.
use Rattle.std.specs.Prelude.{◌≡◌, ◌⊎◌, ◌&&◌, ℕ, nat_le, List, ◌++◌, length, drop, Result, Ok, Err, MatchBool}
use Rattle.reg_tree_parts.specs.declared.value.Value.{Value}
use Rattle.regtx_c.specs.declared.codes.TheConstants.{OK, NO_MEMORY, NO_ROOM}

-- A list is copied: its length is told. If there is room for it, it is at the buffer's front, and what follows stays. Else
-- the whole buffer stays, and the number says so.
abbrev pub IsCopied : {X : Type 0} → List X → List X → List X → ℕ → ℕ → Type 0
IsCopied found before after len code =
    (len ≡ length found)
    × MatchBool (nat_le (length found) (length before)) ((code ≡ OK) × (after ≡ found ++ drop (length found) before)) ((code ≡ NO_ROOM) × (after ≡ before))

-- Two lists are copied, each to a buffer of its own, if there is room for both. Else both buffers stay, and the number says
-- so.
abbrev pub AreCopied : {X Y : Type 0} → List X → List Y → List X → List X → List Y → List Y → ℕ → Type 0
AreCopied one two one_before one_after two_before two_after code =
    MatchBool (nat_le (length one) (length one_before) && nat_le (length two) (length two_before))
    ((code ≡ OK) × (one_after ≡ one ++ drop (length one) one_before) × (two_after ≡ two ++ drop (length two) two_before))
    ((code ≡ NO_ROOM) × (one_after ≡ one_before) × (two_after ≡ two_before))

-- the list that a question comes to is copied; or the number says why there is none, and nothing is written
abbrev pub Copies : {X : Type 0} → Result (List X) ℕ → List X → List X → ℕ → ℕ → ℕ → Type 0
Copies (Ok found) before after len_before len code = IsCopied found before after len code
Copies (Err why) before after len_before len code = (code ≡ why) × (after ≡ before) × (len ≡ len_before)

-- the same, or memory was not given
abbrev pub CopiesOrNoMemory : {X : Type 0} → Result (List X) ℕ → List X → List X → ℕ → ℕ → ℕ → Type 0
CopiesOrNoMemory answer before after len_before len code =
    Copies answer before after len_before len code ⊎ Copies (Err NO_MEMORY) before after len_before len code

-- the value that a question comes to: its type is told, and its data are copied
abbrev pub CopiesValue : Result Value ℕ → ℕ → ℕ → List ℕ → List ℕ → ℕ → ℕ → ℕ → Type 0
CopiesValue (Ok value) kind_before kind before after len_before len code = (kind ≡ value.kind) × IsCopied value.data before after len code
CopiesValue (Err why) kind_before kind before after len_before len code = (kind ≡ kind_before) × (code ≡ why) × (after ≡ before) × (len ≡ len_before)

-- the same, or memory was not given
abbrev pub CopiesValueOrNoMemory : Result Value ℕ → ℕ → ℕ → List ℕ → List ℕ → ℕ → ℕ → ℕ → Type 0
CopiesValueOrNoMemory answer kind_before kind before after len_before len code =
    CopiesValue answer kind_before kind before after len_before len code ⊎ CopiesValue (Err NO_MEMORY) kind_before kind before after len_before len code
