-- Lists of offsets with one more, and with one less.
use Rattle.std.proofs.Common.{◌≡◌, ℕ, zero, suc, ◌+◌, ◌*◌, ◌<◌, ◌≤◌, List, [], ◌∷◌, ◌++◌, length, take, drop, slice_index, refl, sym, ◌∙◌, ap, arith}
use Rattle.std.proofs.Math.Nat.{mul-suc}
use Rattle.hive_cells.specs.Tiles.{u32_at}
use Rattle.hive_records.specs.Numbers.{words_from}
use Rattle.hive_edit_laws.specs.Shifts.{with_at, without_at, ShiftsIn, ShiftsOut}
use Rattle.hive_edit_laws.proofs.SameBytes.{word_moved}

-- a word of four bytes that are the same
pub word_like : (xs ys : List ℕ) (a b : ℕ) → ((k : ℕ) → k < 4 → slice_index xs (a + k) ≡ slice_index ys (b + k)) → u32_at xs a ≡ u32_at ys b
word_like xs ys a b same = word_moved xs ys a b
    (ap (slice_index xs) (omega arith) ∙ same 0 (omega arith) ∙ ap (slice_index ys) (omega arith))
    (same 1 (omega arith)) (same 2 (omega arith)) (same 3 (omega arith))

-- words a stride further on
words_on : (old new : List ℕ) (from stride n : ℕ) → 4 ≤ stride → ((j : ℕ) → from ≤ j → j < from + stride * n → slice_index new (j + stride) ≡ slice_index old j) → words_from new (from + stride) stride n ≡ words_from old from stride n
words_on old new from stride zero wide same = refl
words_on old new from stride (suc n) wide same =
    let size : stride * suc n ≡ stride * n + stride = mul-suc stride n in
    (λ i. word_like new old (from + stride) from (λ k h. ap (slice_index new) (omega arith) ∙ same (from + k) (omega arith) (omega (arith, h, wide, size))) i ∷ words_from new (from + stride + stride) stride n)
    ∙ ap (λ ws. u32_at old from ∷ ws) (words_on old new (from + stride) stride n wide (λ j low high. same j (omega (arith, low)) (omega (arith, high, size))))

pub words_in : (old new : List ℕ) (from stride n i x : ℕ) → i ≤ n → ShiftsIn old new from stride n i x → words_from new from stride (suc n) ≡ with_at i x (words_from old from stride n)
words_in old new from stride n zero x most s =
    let none : from + stride * 0 ≡ from = omega arith in
    (λ i. (ap (u32_at new) (sym none) ∙ s.here) i ∷ words_from new (from + stride) stride n)
    ∙ ap (λ ws. x ∷ ws) (words_on old new from stride n s.wide (λ j low high. s.after j (omega (arith, low, none)) high))
words_in old new from stride zero (suc i) x most s = absurd (omega (arith, most))
words_in old new from stride (suc n) (suc i) x most s =
    let size : stride * suc i ≡ stride * i + stride = mul-suc stride i in
    let all : stride * suc n ≡ stride * n + stride = mul-suc stride n in
    let wide : 4 ≤ stride = s.wide in
    (λ z. word_like new old from from (λ k h. s.before (from + k) (omega arith) (omega (arith, h, wide, size))) z ∷ words_from new (from + stride) stride (suc n))
    ∙ ap (λ ws. u32_at old from ∷ ws) (words_in old new (from + stride) stride n i x (omega (arith, most)) (record {
      wide = wide;
      before = λ j low high. s.before j (omega (arith, low)) (omega (arith, high, size));
      here = ap (u32_at new) (omega (arith, size)) ∙ s.here;
      after = λ j low high. s.after j (omega (arith, low, size)) (omega (arith, high, all));
    }))

pub words_out : (old new : List ℕ) (from stride n i : ℕ) → i ≤ n → ShiftsOut old new from stride n i → words_from new from stride n ≡ without_at i (words_from old from stride (suc n))
words_out old new from stride n zero most s = sym (words_on new old from stride n s.wide (λ j low high. sym (s.after j (let none : from + stride * 0 ≡ from = omega arith in omega (arith, low, none)) high)))
words_out old new from stride zero (suc i) most s = absurd (omega (arith, most))
words_out old new from stride (suc n) (suc i) most s =
    let size : stride * suc i ≡ stride * i + stride = mul-suc stride i in
    let all : stride * suc n ≡ stride * n + stride = mul-suc stride n in
    let wide : 4 ≤ stride = s.wide in
    (λ z. word_like new old from from (λ k h. s.before (from + k) (omega arith) (omega (arith, h, wide, size))) z ∷ words_from new (from + stride) stride n)
    ∙ ap (λ ws. u32_at old from ∷ ws) (words_out old new (from + stride) stride n i (omega (arith, most)) (record {
      wide = wide;
      before = λ j low high. s.before j (omega (arith, low)) (omega (arith, high, size));
      after = λ j low high. s.after j (omega (arith, low, size)) (omega (arith, high, all));
    }))

-- a list in two parts
pub in_between : (first : List ℕ) (x : ℕ) (rest : List ℕ) → with_at (length first) x (first ++ rest) ≡ first ++ x ∷ rest
in_between [] x [] = refl
in_between [] x (r ∷ rest) = refl
in_between (f ∷ first) x rest = ap (λ ws. f ∷ ws) (in_between first x rest)

pub out_between : (first : List ℕ) (x : ℕ) (rest : List ℕ) → without_at (length first) (first ++ x ∷ rest) ≡ first ++ rest
out_between [] x rest = refl
out_between (f ∷ first) x rest = ap (λ ws. f ∷ ws) (out_between first x rest)

pub with_cut : (ws : List ℕ) (i x : ℕ) → with_at i x ws ≡ take i ws ++ x ∷ drop i ws
with_cut ws zero x = refl
with_cut [] (suc i) x = refl
with_cut (w ∷ ws) (suc i) x = ap (λ (zs : List ℕ). w ∷ zs) (with_cut ws i x)

pub without_cut : (ws : List ℕ) (i : ℕ) → without_at i ws ≡ take i ws ++ drop (suc i) ws
without_cut [] zero = refl
without_cut [] (suc i) = refl
without_cut (w ∷ ws) zero = refl
without_cut (w ∷ ws) (suc i) = ap (λ (zs : List ℕ). w ∷ zs) (without_cut ws i)
