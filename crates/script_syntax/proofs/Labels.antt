-- A label says which word it was.
use Rattle.std.proofs.Common.{◌≡◌, ℕ, zero, suc, ◌-◌, true, List, [], ◌∷◌, ◌++◌, length, refl, sym, ◌∙◌, subst}
use Rattle.std.specs.Prelude.{replicate}
use Rattle.std.specs.List.{list_all}
use Rattle.std.specs.Char.{is_ascii_alphanumeric}
use Rattle.std.proofs.lemmas.Bool.{and_parts}
use Rattle.script_syntax.specs.declared.label.TheConstants.{LONGEST_LABEL}
use Rattle.script_syntax.specs.Grammar.{IsLabel}

-- each byte is a letter or a digit
abbrev AreLetters : List ℕ → Type 0
AreLetters word = list_all is_ascii_alphanumeric word ≡ true

zero_is_none : is_ascii_alphanumeric 0 ≡ true → ⊥
zero_is_none e = cc

first : (a b : ℕ) (left right : List ℕ) → a ∷ left ≡ b ∷ right → a ≡ b
first a b left right same = cc

behind_first : (a b : ℕ) (left right : List ℕ) → a ∷ left ≡ b ∷ right → left ≡ right
behind_first a b left right same = cc

-- no letter is among zeros
only_zeros : (letter : ℕ) (rest : List ℕ) (zeros : ℕ) → is_ascii_alphanumeric letter ≡ true → letter ∷ rest ≡ replicate zeros 0 → ⊥
only_zeros letter rest zero h e = cc
only_zeros letter rest (suc zeros) h e = zero_is_none (subst (λ c. is_ascii_alphanumeric c ≡ true) (first letter 0 rest (replicate zeros 0) e) h)

same_words : (word other : List ℕ) (m n : ℕ) → AreLetters word → AreLetters other → word ++ replicate m 0 ≡ other ++ replicate n 0 → word ≡ other
same_words [] [] m n h k e = refl
same_words [] (b ∷ other) m n h k e = absurd (only_zeros b (other ++ replicate n 0) m (and_parts (is_ascii_alphanumeric b) (list_all is_ascii_alphanumeric other) k).0 (sym e))
same_words (a ∷ word) [] m n h k e = absurd (only_zeros a (word ++ replicate m 0) n (and_parts (is_ascii_alphanumeric a) (list_all is_ascii_alphanumeric word) h).0 e)
same_words (a ∷ word) (b ∷ other) m n h k e =
    let front = and_parts (is_ascii_alphanumeric a) (list_all is_ascii_alphanumeric word) h in
    let back = and_parts (is_ascii_alphanumeric b) (list_all is_ascii_alphanumeric other) k in
    let more : word ++ replicate m 0 ≡ other ++ replicate n 0 = behind_first a b (word ++ replicate m 0) (other ++ replicate n 0) e in
    let letter : a ≡ b = first a b (word ++ replicate m 0) (other ++ replicate n 0) e in
    let words : word ≡ other = same_words word other m n front.1 back.1 more in
    cc

-- two words of one label are one word
pub one_word : (word other label : List ℕ) → IsLabel word label → IsLabel other label → word ≡ other
one_word word other label w o = same_words word other (LONGEST_LABEL - length word) (LONGEST_LABEL - length other) w.letters o.letters (sym w.filled ∙ o.filled)
