-- Text as lines, each with a carriage return and a line feed behind it.
use Rattle.std.proofs.Common.{◌≡◌, ℕ, ◌+◌, List, [], ◌∷◌, ◌++◌, map, length, refl, arith, inl, inr}
use Rattle.std.specs.Prelude.{All}
use Rattle.std.specs.List.{AllByRecursion, flat_map}
use Rattle.std.proofs.lemmas.List.{length-append}
use Rattle.std.proofs.lemmas.List.Elements.{All-cons, All-nil}
use Rattle.reg_file.specs.Grammar.{units_of, IsLineEnd, IsTail}
use Rattle.reg_round_trip.proofs.TextFacts.{AreTexts}

-- lines with their ends; and without the line feeds, as the grammar has them
abbrev pub text_of : List (List ℕ) → List ℕ
text_of lines = flat_map (λ line. line ++ 13 ∷ 10 ∷ []) lines

abbrev pub returned_lines : List (List ℕ) → List (List ℕ)
returned_lines lines = map (λ line. line ++ 13 ∷ []) lines

pub return_ends : IsLineEnd (13 ∷ [])
return_ends = record { blanks = []; are_blanks = tt; parsed = inr refl }

pub return_tail : IsTail (13 ∷ [])
return_tail = inl return_ends

-- the units of lines are those of their text, but for the last line feed
pub units_of_text : (line : List ℕ) (lines : List (List ℕ)) → units_of (returned_lines (line ∷ lines)) + 1 ≡ length (text_of (line ∷ lines))
units_of_text line [] =
    let one = length-append line (13 ∷ []) in
    let two = length-append line (13 ∷ 10 ∷ []) in
    let three = length-append (line ++ 13 ∷ 10 ∷ []) [] in
    omega (arith, one, two, three)
units_of_text line (next ∷ lines) =
    let one = length-append line (13 ∷ []) in
    let two = length-append line (13 ∷ 10 ∷ []) in
    let three = length-append (line ++ 13 ∷ 10 ∷ []) (text_of (next ∷ lines)) in
    let rest = units_of_text next lines in
    omega (arith, one, two, three, rest)

-- it holds of a text what holds of its lines and of their ends
pub lines_text : (G : List ℕ → Type 0) → AreTexts G → G (13 ∷ 10 ∷ []) → (lines : List (List ℕ)) → AllByRecursion G lines → G (text_of lines)
lines_text G t end [] all = t.prints [] tt
lines_text G t end (line ∷ lines) all = t.both (line ++ 13 ∷ 10 ∷ []) (text_of lines) (t.both line (13 ∷ 10 ∷ []) all.0 end) (lines_text G t end lines all.1)

pub by_index : (P : ℕ → Type 0) (units : List ℕ) → AllByRecursion P units → All P units
by_index P [] all = All-nil P
by_index P (u ∷ units) all = All-cons P u units all.0 (by_index P units all.1)
