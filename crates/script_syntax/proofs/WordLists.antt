-- The words after a line's first.
use Rattle.std.proofs.Common.{◌≡◌, ℕ, ◌<◌, List, [], ◌∷◌, ◌==◌, length, None, refl, arith, ◌∙◌, ap}
use Rattle.std.specs.List.{slice_split}
use Rattle.std.proofs.lemmas.List.Splits.{length-slice_split}
use Rattle.script_syntax.specs.Lines.{one_of, alone}
use Rattle.script_syntax.specs.declared.line.Line.{Line}

more_than_one : (word : List ℕ) (parts : List (List ℕ)) → 0 < length parts → one_of (word ∷ parts) ≡ None
more_than_one word [] h = absurd (omega (arith, h))
more_than_one word (part ∷ parts) h = refl

-- a word and a blank are not one word
pub not_one : (args : List (List ℕ)) (word rest : List ℕ) → args ≡ word ∷ slice_split (λ byte. byte == 32) rest → one_of args ≡ None
not_one args word rest e =
    let long = length-slice_split (λ byte. byte == 32) rest in
    ap one_of e ∙ more_than_one word (slice_split (λ byte. byte == 32) rest) (omega (arith, long))

no_line : (line : Line) (parts : List (List ℕ)) → 0 < length parts → alone line parts ≡ None
no_line line [] h = absurd (omega (arith, h))
no_line line (part ∷ parts) h = refl

-- after a blank there is a word, if only one of no bytes
pub not_alone : (line : Line) (rest : List ℕ) → alone line (slice_split (λ byte. byte == 32) rest) ≡ None
not_alone line rest =
    let long = length-slice_split (λ byte. byte == 32) rest in
    no_line line (slice_split (λ byte. byte == 32) rest) (omega (arith, long))
