-- Lists cut in two.
use Rattle.std.proofs.Common.{◌≡◌, ℕ, zero, suc, ◌+◌, ◌<◌, ◌≤◌, List, [], ◌∷◌, ◌++◌, map, take, drop, get_or, length, refl, sym, ap, arith, add-one}

pub map-halves : {A B : Type 0} (f : A → B) (h : ℕ) (xs : List A) → map f (take h xs) ++ map f (drop h xs) ≡ map f xs
map-halves f zero xs = refl
map-halves f (suc h) [] = refl
map-halves f (suc h) (x ∷ xs) = ap (λ ys. f x ∷ ys) (map-halves f h xs)

-- a list around one of its items
around : {A B : Type 0} (f : A → B) (xs : List A) (i : ℕ) (x : A) → i < length xs → x ≡ get_or xs i x → map f xs ≡ map f (take i xs) ++ (f x ∷ map f (drop (suc i) xs))
around f [] i x lt is = absurd (omega arith)
around f (y ∷ xs) zero x lt is = ap (λ z. f z ∷ map f xs) (sym is)
around f (y ∷ xs) (suc i) x lt is = ap (λ zs. f y ∷ zs) (around f xs i x (omega arith) is)

pub map-around : {A B : Type 0} (f : A → B) (xs : List A) (i : ℕ) (x : A) → i < length xs → x ≡ get_or xs i x → map f xs ≡ map f (take i xs) ++ (f x ∷ map f (drop (i + 1) xs))
map-around f xs i x lt is = rw add-one (around f xs i x lt is)

-- what is left from an item on begins with it
from_here : {A B : Type 0} (f : A → B) (xs : List A) (i : ℕ) (x : A) → i < length xs → x ≡ get_or xs i x → map f (drop i xs) ≡ f x ∷ map f (drop (suc i) xs)
from_here f [] i x lt is = absurd (omega arith)
from_here f (y ∷ xs) zero x lt is = ap (λ z. f z ∷ map f xs) (sym is)
from_here f (y ∷ xs) (suc i) x lt is = from_here f xs i x (omega arith) is

pub map-from : {A B : Type 0} (f : A → B) (xs : List A) (i : ℕ) (x : A) → i < length xs → x ≡ get_or xs i x → map f (drop i xs) ≡ f x ∷ map f (drop (suc i) xs)
map-from = from_here

-- past the end nothing is left
pub map-past : {A B : Type 0} (f : A → B) (xs : List A) (i : ℕ) → length xs ≤ i → map f (drop i xs) ≡ []
map-past f [] zero le = refl
map-past f [] (suc i) le = refl
map-past f (y ∷ xs) zero le = absurd (omega arith)
map-past f (y ∷ xs) (suc i) le = map-past f xs i (omega arith)

-- an item of a list, whatever is the default
pub item_at : {A : Type 0} (xs : List A) (i : ℕ) → i < length xs → (x : A) × ((d : A) → get_or xs i d ≡ x)
item_at [] i lt = absurd (omega arith)
item_at (y ∷ xs) zero lt = (y, λ d. refl)
item_at (y ∷ xs) (suc i) lt = item_at xs i (omega arith)
