-- Lists that are cut at a byte.
use Rattle.std.proofs.Common.{◌≡◌, ◌≢◌, ℕ, ◌+◌, ◌<◌, ◌≤◌, ◌==◌, true, List, [], ◌∷◌, ◌++◌, length, take, drop, refl, ◌∙◌, ap, arith}
use Rattle.std.specs.Prelude.{not}
use Rattle.std.specs.List.{list_all}
use Rattle.std.proofs.lemmas.Bool.{and_parts}
use Rattle.std.proofs.lemmas.Bool.Decides.{nat_tests}
use Rattle.std.proofs.lemmas.List.{length-take-le, take_at, drop_at, take-append-le}
use lib.Seq.{take-add}
use Rattle.client_frames.specs.Heads.{Lacks}

-- a list has one front before the first byte of a value, and one back after it
pub cut_once : (x : ℕ) (a b c d : List ℕ) → Lacks x a → Lacks x c → a ++ x ∷ b ≡ c ++ x ∷ d → (a ≡ c) × (b ≡ d)
cut_once x [] b [] d la lc e = let back : b ≡ d = cc in (refl, back)
cut_once x [] b (y ∷ c) d la lc e = let same : y ≡ x = cc in absurd (lc.0 same)
cut_once x (y ∷ a) b [] d la lc e = let same : y ≡ x = cc in absurd (la.0 same)
cut_once x (y ∷ a) b (z ∷ c) d la lc e =
    let first : y ≡ z = cc in
    let rest : a ++ x ∷ b ≡ c ++ x ∷ d = cc in
    let cut = cut_once x a b c d la.1 lc.1 rest in
    let front : a ≡ c = cut.0 in
    let whole : y ∷ a ≡ z ∷ c = cc in
    (whole, cut.1)

pub lacks_append : (x : ℕ) (a b : List ℕ) → Lacks x a → Lacks x b → Lacks x (a ++ b)
lacks_append x [] b la lb = lb
lacks_append x (y ∷ a) b la lb = (la.0, lacks_append x a b la.1 lb)

-- a list doesn't lack what is in it
pub lacks_none : (x : ℕ) (a b : List ℕ) → Lacks x (a ++ x ∷ b) → ⊥
lacks_none x [] b l = l.0 refl
lacks_none x (y ∷ a) b l = lacks_none x a b l.1

-- the first byte of a value isn't within a front that lacks it
pub not_within : (x : ℕ) (a b c d : List ℕ) → Lacks x c → a ++ x ∷ b ≡ c ++ d → length a < length c → ⊥
not_within x [] b [] d l e h = absurd (omega (arith, h))
not_within x [] b (z ∷ c) d l e h = let same : z ≡ x = cc in l.0 same
not_within x (y ∷ a) b [] d l e h = absurd (omega (arith, h))
not_within x (y ∷ a) b (z ∷ c) d l e h =
    let rest : a ++ x ∷ b ≡ c ++ d = cc in
    let shorter : length a < length c = omega (arith, h) in
    not_within x a b c d l.1 rest shorter

pub not_nil : (a : List ℕ) (x : ℕ) (b : List ℕ) → a ++ x ∷ b ≡ [] → ⊥
not_nil [] x b e = cc
not_nil (y ∷ a) x b e = cc

differs : (x y : ℕ) → not (y == x) ≡ true → y ≢ x
differs x y h e = grind (arith, nat_tests)

-- the same, by a test
pub lacks_by_test : (x : ℕ) (bytes : List ℕ) → list_all (λ y. not (y == x)) bytes ≡ true → Lacks x bytes
lacks_by_test x [] h = tt
lacks_by_test x (y ∷ bytes) h = let both = and_parts _ _ h in (differs x y both.0, lacks_by_test x bytes both.1)

-- the front of a list of which a part was overwritten
pub take_front : (a n : ℕ) (xs ys zs : List ℕ) → a ≤ length xs → n ≤ length ys → take (a + n) (take a xs ++ (ys ++ zs)) ≡ take a xs ++ take n ys
take_front a n xs ys zs h k =
    let long = length-take-le a xs h in
    take-add a n (take a xs ++ (ys ++ zs)) ∙ ap (λ (l : List ℕ). l ++ take n (drop a (take a xs ++ (ys ++ zs)))) (take_at (take a xs) (ys ++ zs) a long)
    ∙ ap (λ (l : List ℕ). take a xs ++ take n l) (drop_at (take a xs) (ys ++ zs) a long) ∙ ap (λ (l : List ℕ). take a xs ++ l) (take-append-le n ys zs k)
