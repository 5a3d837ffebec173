-- The sum as a fold over words.
use Rattle.std.proofs.Common.{◌≡◌, ◌≤◌, ℕ, zero, suc, ◌+◌, ◌*◌, List, [], ◌∷◌, ◌++◌, length, take, refl, sym, ap, ◌∙◌, arith, bit_xor}
use Rattle.std.specs.Prelude.{fold}
use Rattle.base_block.specs.Sums.{word_at, xor_of_words, stored_sum, sum_of, words}

fold_push : (f : ℕ → ℕ → ℕ) (a : ℕ) (xs : List ℕ) (x : ℕ) → fold f a (xs ++ x ∷ []) ≡ f (fold f a xs) x
fold_push f a [] x = refl
fold_push f a (y ∷ ys) x = fold_push f (f a y) ys x

-- one word more
words_more : (n : ℕ) (s : List ℕ) → 4 * n + 4 ≤ length s → words (take (4 * n + 4) s) ≡ words (take (4 * n) s) ++ word_at n s ∷ []
words_more zero (a ∷ b ∷ c ∷ d ∷ rest) h = ap (λ (w : ℕ). w ∷ []) (omega arith)
words_more (suc n) (a ∷ b ∷ c ∷ d ∷ rest) h =
    let e : 4 * suc n + 4 ≡ suc (suc (suc (suc (4 * n + 4)))) = omega arith in
    let f : 4 * suc n ≡ suc (suc (suc (suc (4 * n)))) = omega arith in
    rw (e, f) (ap (λ (ws : List ℕ). (a + b * 256 + c * 65536 + d * 16777216) ∷ ws) (words_more n rest (omega (arith, h))))
words_more n [] h = absurd (omega arith)
words_more n (a ∷ []) h = absurd (omega arith)
words_more n (a ∷ b ∷ []) h = absurd (omega arith)
words_more n (a ∷ b ∷ c ∷ []) h = absurd (omega arith)

folds : (n : ℕ) (s : List ℕ) → 4 * n ≤ length s → xor_of_words n s ≡ fold bit_xor 0 (words (take (4 * n) s))
folds zero s h = refl
folds (suc n) s h =
    let e : 4 * suc n ≡ 4 * n + 4 = omega arith in
    ap (λ (x : ℕ). bit_xor x (word_at n s)) (folds n s (omega (arith, h)))
    ∙ sym (fold_push bit_xor 0 (words (take (4 * n) s)) (word_at n s))
    ∙ ap (fold bit_xor 0) (sym (words_more n s (omega (arith, h))) ∙ ap (λ (k : ℕ). words (take k s)) (sym e))

pub folded : (sector : List ℕ) → 508 ≤ length sector → sum_of sector ≡ stored_sum (fold bit_xor 0 (words (take 508 sector)))
unfolding sum_of
folded sector long = ap stored_sum (folds 127 sector long)
