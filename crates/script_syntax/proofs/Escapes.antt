-- The units of a word, part by part.
use Rattle.std.proofs.Common.{◌≡◌, ℕ, ◌+◌, ◌<◌, List, ◌∷◌, ◌++◌, ◌==◌, ◌∙◌, length, Option, Some, None, refl, sym, ap, arith, append_assoc, Bor}
use Rattle.std.specs.Prelude.{IfSome}
use Rattle.std.specs.Option.{option_map, option_copied}
use Rattle.std.specs.List.{slice_split}
use Rattle.std.proofs.lemmas.List.{append-nil}
use Rattle.word_syntax.specs.Parts.{parts_of, before, behind}
use Rattle.script_syntax.specs.Words.{units_of, escaped, all_escaped}

-- the units so far, and those of what is left
abbrev pub units_from : List ℕ → Option (List ℕ) → Option (List ℕ)
units_from front rest = option_map (λ units. front ++ units) (all_escaped (parts_of 37 rest))

-- how much is left
abbrev pub left : Option (List ℕ) → ℕ
left None = 0
left (Some bytes) = length bytes + 1

pub left_smaller : (rest : Option (Bor (List ℕ))) (n : ℕ) → IfSome rest (λ bytes. length bytes.now < n) → left (option_copied rest) < n + 1
left_smaller None n h = omega arith
left_smaller (Some bytes) n h = omega (arith, h)

joined : (front more : List ℕ) (rest : Option (List ℕ)) → option_map (λ units. front ++ units) (option_map (λ units. more ++ units) rest) ≡ option_map (λ units. (front ++ more) ++ units) rest
joined front more None = refl
joined front more (Some units) = ap Some (sym (append_assoc front more units))

-- one more part
pub one_more : (front more part : List ℕ) (parts : List (List ℕ)) → escaped part ≡ Some more → option_map (λ units. front ++ units) (all_escaped (part ∷ parts)) ≡ option_map (λ units. (front ++ more) ++ units) (all_escaped parts)
one_more front more part parts e = rw e (joined front more (all_escaped parts))

-- a part that parses to nothing
pub no_more : (front part : List ℕ) (parts : List (List ℕ)) → escaped part ≡ None → option_map (λ units. front ++ units) (all_escaped (part ∷ parts)) ≡ None
no_more front part parts e = rw e refl

-- nothing is left
pub at_end : (front : List ℕ) → units_from front None ≡ Some front
at_end front = ap Some (append-nil front)

-- the first part is its own units
pub begins : (units first word : List ℕ) (rest : Option (List ℕ)) → units ≡ first → first ≡ before 37 word → rest ≡ behind 37 word → units_from units rest ≡ units_of word
begins units first word rest e f g = rw e (rw f (rw g refl))

-- with the next part in front of what is left
at_part : (front part escapes word : List ℕ) (parts : List (List ℕ)) (rest : Option (List ℕ)) → rest ≡ Some escapes → slice_split (λ byte. byte == 37) escapes ≡ part ∷ parts → units_from front rest ≡ units_of word → option_map (λ units. front ++ units) (all_escaped (part ∷ parts)) ≡ units_of word
at_part front part escapes word parts rest e f kept =
    ap (λ ps. option_map (λ units. front ++ units) (all_escaped ps)) (sym f) ∙ ap (units_from front) (sym e) ∙ kept

-- the next part parses to units
pub goes_on : (front more part escapes word new : List ℕ) (left_over rest : Option (List ℕ)) → rest ≡ Some escapes → slice_split (λ byte. byte == 37) escapes ≡ part ∷ parts_of 37 left_over → units_from front rest ≡ units_of word → escaped part ≡ Some more → new ≡ front ++ more → units_from new left_over ≡ units_of word
goes_on front more part escapes word new left_over rest e f kept parsed made =
    ap (λ units. units_from units left_over) made ∙ sym (one_more front more part (parts_of 37 left_over) parsed) ∙ at_part front part escapes word (parts_of 37 left_over) rest e f kept

-- the next part parses to none
pub stops : (front part escapes word : List ℕ) (left_over rest : Option (List ℕ)) → rest ≡ Some escapes → slice_split (λ byte. byte == 37) escapes ≡ part ∷ parts_of 37 left_over → units_from front rest ≡ units_of word → escaped part ≡ None → units_of word ≡ None
stops front part escapes word left_over rest e f kept none =
    sym (at_part front part escapes word (parts_of 37 left_over) rest e f kept) ∙ no_more front part (parts_of 37 left_over) none

-- no part is left
pub ends : (front word : List ℕ) (rest : Option (List ℕ)) → rest ≡ None → units_from front rest ≡ units_of word → units_of word ≡ Some front
ends front word rest e kept = sym kept ∙ ap (units_from front) e ∙ at_end front
