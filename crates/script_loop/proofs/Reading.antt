-- Which lines of a script were read.
use Rattle.std.proofs.Common.{◌≡◌, ℕ, List, [], ◌∷◌, ◌++◌, Option, Some, None, refl, sym, ◌∙◌, ap, subst, append_assoc}
use Rattle.script_loop.specs.Lines.{lines_of, AreFirst, AreReadOf, TakesLine, TakesLines, WereRead}
use Rattle.script_loop.specs.declared.end_of_script.EndOfScript.{EndOfScript}
use Rattle.script_loop.specs.declared.end_of_script.EndOfScript.TheVariants.{Ended, Broken, OutOfMemory}

-- some first line was read, and nothing after it
first_alone : (bytes left line : List ℕ) → lines_of bytes ≡ line ∷ lines_of left → AreFirst (line ∷ []) (lines_of bytes)
first_alone bytes left line e = (lines_of left, e)

pub one_read : (known rest : Option (List ℕ)) (line : List ℕ) → TakesLine known rest line → WereRead known (line ∷ []) None
one_read None rest line taken = tt
one_read (Some bytes) rest line taken = first_alone bytes taken.0 line taken.2

-- lines after the first
more_first : (bytes left line : List ℕ) (lines : List (List ℕ)) → lines_of bytes ≡ line ∷ lines_of left → AreFirst lines (lines_of left) → AreFirst (line ∷ lines) (lines_of bytes)
more_first bytes left line lines e first = (first.0, e ∙ ap (λ others. line ∷ others) first.1)

more_of : (bytes left line : List ℕ) (lines : List (List ℕ)) (end_of_script : Option EndOfScript) → lines_of bytes ≡ line ∷ lines_of left → AreReadOf left lines end_of_script → AreReadOf bytes (line ∷ lines) end_of_script
more_of bytes left line lines None e first = more_first bytes left line lines e first
more_of bytes left line lines (Some Ended) e whole = ap (λ others. line ∷ others) whole ∙ sym e
more_of bytes left line lines (Some Broken) e first = more_first bytes left line lines e first
more_of bytes left line lines (Some OutOfMemory) e first = more_first bytes left line lines e first

pub more_read : (known rest : Option (List ℕ)) (line : List ℕ) (lines : List (List ℕ)) (end_of_script : Option EndOfScript) → TakesLine known rest line → WereRead rest lines end_of_script → WereRead known (line ∷ lines) end_of_script
more_read None rest line lines end_of_script taken read = tt
more_read (Some bytes) rest line lines end_of_script taken read =
    more_of bytes taken.0 line lines end_of_script taken.2 (subst (λ r. WereRead r lines end_of_script) taken.1 read)

-- one line was taken, and others after it
pub one_taken : (known rest : Option (List ℕ)) (line : List ℕ) → TakesLine known rest line → TakesLines known rest (line ∷ [])
one_taken None rest line taken = tt
one_taken (Some bytes) rest line taken = taken

taken_of : (bytes left line : List ℕ) (last : Option (List ℕ)) (lines : List (List ℕ)) → lines_of bytes ≡ line ∷ lines_of left → TakesLines (Some left) last lines → TakesLines (Some bytes) last (line ∷ lines)
taken_of bytes left line last lines e taken = (taken.0, taken.1, e ∙ ap (λ others. line ∷ others) taken.2)

pub more_taken : (known rest last : Option (List ℕ)) (line : List ℕ) (lines : List (List ℕ)) → TakesLine known rest line → TakesLines rest last lines → TakesLines known last (line ∷ lines)
more_taken None rest last line lines taken others = tt
more_taken (Some bytes) rest last line lines taken others = taken_of bytes taken.0 line last lines taken.2 (subst (λ r. TakesLines r last lines) taken.1 others)

-- some lines were taken, and others were read after them
many_first : (bytes left : List ℕ) (lines others : List (List ℕ)) → lines_of bytes ≡ lines ++ lines_of left → AreFirst others (lines_of left) → AreFirst (lines ++ others) (lines_of bytes)
many_first bytes left lines others e first = (first.0, e ∙ ap (λ rest. lines ++ rest) first.1 ∙ sym (append_assoc lines others first.0))

many_of : (bytes left : List ℕ) (lines others : List (List ℕ)) (end_of_script : Option EndOfScript) → lines_of bytes ≡ lines ++ lines_of left → AreReadOf left others end_of_script → AreReadOf bytes (lines ++ others) end_of_script
many_of bytes left lines others None e first = many_first bytes left lines others e first
many_of bytes left lines others (Some Ended) e whole = ap (λ rest. lines ++ rest) whole ∙ sym e
many_of bytes left lines others (Some Broken) e first = many_first bytes left lines others e first
many_of bytes left lines others (Some OutOfMemory) e first = many_first bytes left lines others e first

pub many_read : (known rest : Option (List ℕ)) (lines others : List (List ℕ)) (end_of_script : Option EndOfScript) → TakesLines known rest lines → WereRead rest others end_of_script → WereRead known (lines ++ others) end_of_script
many_read None rest lines others end_of_script taken read = tt
many_read (Some bytes) rest lines others end_of_script taken read =
    many_of bytes taken.0 lines others end_of_script taken.2 (subst (λ r. WereRead r others end_of_script) taken.1 read)

-- nothing is read when memory for it is refused, or when it can't be
pub none_read : (known : Option (List ℕ)) (end_of_script : EndOfScript) → (end_of_script ≡ Ended → ⊥) → WereRead known [] (Some end_of_script)
none_read None end_of_script h = tt
none_read (Some bytes) Ended h = absurd (h refl)
none_read (Some bytes) Broken h = (lines_of bytes, refl)
none_read (Some bytes) OutOfMemory h = (lines_of bytes, refl)

-- lack of memory is no end of the script
pub is_end : OutOfMemory ≡ Ended → ⊥
is_end e = cc

pub broken_is_no_end : Broken ≡ Ended → ⊥
broken_is_no_end e = cc
