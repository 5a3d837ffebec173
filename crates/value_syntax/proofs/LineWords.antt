-- The first word of a line, and the rest.
use Rattle.std.proofs.Common.{◌≡◌, ℕ, ◌==◌, true, false, not, List, [], ◌∷◌, ◌++◌, Some, refl, ◌∙◌, ap}
use Rattle.std.specs.Option.{option_and_then}
use Rattle.std.specs.List.{list_all, AllByRecursion}
use Rattle.std.proofs.lemmas.Bool.{and_parts, not-true}
use Rattle.std.proofs.lemmas.List.{append-nil}
use Rattle.word_syntax.specs.Parts.{before, behind}
use Rattle.word_syntax.proofs.Cuts.{before_front, before_here, behind_front, behind_here}
use Rattle.value_syntax.specs.Data.{datum_of}
use Rattle.value_syntax.specs.Printed.{datum_on}

-- bytes without a blank
abbrev pub HasNoBlank : List ℕ → Type 0
HasNoBlank word = AllByRecursion (λ b. (b == 32) ≡ false) word

-- none of some bytes is this one, by a test
pub free_of : (byte : ℕ) (bytes : List ℕ) → list_all (λ b. not (b == byte)) bytes ≡ true → AllByRecursion (λ b. (b == byte) ≡ false) bytes
free_of byte [] h = tt
free_of byte (b ∷ bytes) h = let parts = and_parts (not (b == byte)) (list_all (λ c. not (c == byte)) bytes) h in (not-true (b == byte) parts.0, free_of byte bytes parts.1)

-- a word without a blank, a blank, and a text
pub on_words : (word text : List ℕ) → HasNoBlank word → datum_on (word ++ 32 ∷ text) ≡ datum_of word text
on_words word text h =
    let line = word ++ 32 ∷ text in
    let here : (32 == 32) ≡ true = refl in
    let front : before 32 line ≡ word = before_front 32 word (32 ∷ text) h ∙ ap (λ rest. word ++ rest) (before_here 32 32 text here) ∙ append-nil word in
    let back : behind 32 line ≡ Some text = behind_front 32 word (32 ∷ text) h ∙ behind_here 32 32 text here in
    ap (λ w. option_and_then (datum_of w) (behind 32 line)) front ∙ ap (λ rest. option_and_then (datum_of word) rest) back
