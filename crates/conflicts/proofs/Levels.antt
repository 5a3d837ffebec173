-- In closed trees, near means few missing levels.
use Rattle.std.proofs.Common.{◌≡◌, ◌⊎◌, inl, inr, ℕ, suc, ◌+◌, ◌≤◌, List, [], ◌∷◌, ◌++◌, length, refl, ◌∙◌, ap, sym, subst, arith, Bool, true, false, if◌then◌else◌}
use Rattle.conflicts.specs.Skeleton.{Key, Skeleton}
use Rattle.conflicts.specs.Legal.{Near}
use Rattle.conflicts.specs.Closed.{Closed}
use Rattle.conflicts.specs.Levels.{levels, missing_levels}
use Rattle.conflicts.proofs.Tests.{never}

abbrev Down : (List (List ℕ) → Bool) → Type 0
Down f = (p r : List (List ℕ)) → f (p ++ r) ≡ true → f p ≡ true

abbrev below : (List (List ℕ) → Bool) → List ℕ → List (List ℕ) → Bool
below f n q = f (n ∷ q)

down_below : (f : List (List ℕ) → Bool) (n : List ℕ) → Down f → Down (below f n)
down_below f n d = λ p r h. d (n ∷ p) r h

root_in : (b : Bool) (m : ℕ) → b ≡ true → (if b then 0 else 1) + m ≡ m
root_in true m h = omega arith
root_in false m h = never h

root_out : (b : Bool) (m : ℕ) → b ≡ false → (if b then 0 else 1) + m ≡ suc m
root_out true m h = never (sym h)
root_out false m h = omega arith

at_most_one : (b : Bool) (m : ℕ) → (if b then 0 else 1) + m ≤ suc m
at_most_one true m = omega arith
at_most_one false m = omega arith

last_in : (b : Bool) → b ≡ true → (if b then 0 else 1) ≤ 0
last_in true h = omega arith
last_in false h = never h

last_out : (b : Bool) → b ≡ false → levels (λ q. b) [] ≡ suc (length {A = List ℕ} [])
last_out true h = never (sym h)
last_out false h = refl

last_any : (b : Bool) → (if b then 0 else 1) ≤ 1
last_any true = omega arith
last_any false = omega arith

at_most : (f : List (List ℕ) → Bool) (p : List (List ℕ)) → levels f p ≤ suc (length p)
at_most f [] = let h : (if f [] then 0 else 1) ≤ 1 = last_any (f []) in h
at_most f (n ∷ p) = let h : (if f [] then 0 else 1) + levels (below f n) p ≤ suc (levels (below f n) p) = at_most_one (f []) (levels (below f n) p) in
    let g : levels (below f n) p ≤ suc (length p) = at_most (below f n) p in
    omega (arith, h, g)

decided : (b : Bool) → (b ≡ true) ⊎ (b ≡ false)
decided true = inl refl
decided false = inr refl

away : (f : List (List ℕ) → Bool) → Down f → f [] ≡ false → (q : List (List ℕ)) → f q ≡ false
away f d h q = elim (decided (f q)) [
  | inl t ↦ never (sym h ∙ d [] q t)
  | inr n ↦ n
]

all_missing : (f : List (List ℕ) → Bool) → Down f → (p : List (List ℕ)) → f [] ≡ false → levels f p ≡ suc (length p)
all_missing f d [] h = last_out (f []) h
all_missing f d (n ∷ p) h = root_out (f []) (levels (below f n) p) h ∙ ap suc (all_missing (below f n) (down_below f n d) p (away f d h (n ∷ [])))

pub few : (f : List (List ℕ) → Bool) (d : Down f) (q r : List (List ℕ)) → f q ≡ true → levels f (q ++ r) ≤ length r
few f d [] [] h = last_in (f []) h
few f d [] (n ∷ r) h = let e : (if f [] then 0 else 1) + levels (below f n) r ≡ levels (below f n) r = root_in (f []) (levels (below f n) r) h in
    subst (λ m. m ≤ suc (length r)) (sym e) (at_most (below f n) r)
few f d (n ∷ q) r h = let e : (if f [] then 0 else 1) + levels (below f n) (q ++ r) ≡ levels (below f n) (q ++ r) = root_in (f []) (levels (below f n) (q ++ r)) (d [] (n ∷ q) h) in
    subst (λ m. m ≤ length r) (sym e) (few (below f n) (down_below f n d) q r h)

abbrev pub NearBy : (List (List ℕ) → Bool) → ℕ → List (List ℕ) → Type 0
NearBy f m p = (q r : List (List ℕ)) × (p ≡ q ++ r) × (length r ≤ m) × (f q ≡ true)

deeper : (f : List (List ℕ) → Bool) (m : ℕ) (n : List ℕ) (p : List (List ℕ)) → NearBy (below f n) m p → NearBy f m (n ∷ p)
deeper f m n p h = (n ∷ h.0, h.1, ap (λ (z : List (List ℕ)). n ∷ z) h.2, h.3, h.4)

pub near_by : (f : List (List ℕ) → Bool) (d : Down f) (m : ℕ) (p : List (List ℕ)) → f [] ≡ true → levels f p ≤ m → NearBy f m p
near_by f d m [] h l = ([], [], refl, omega arith, h)
near_by f d m (n ∷ p) h l = elim (decided (f (n ∷ []))) [
  | inl t ↦ deeper f m n p (near_by (below f n) (down_below f n d) m p t here)
  | inr t ↦ ([], n ∷ p, refl, subst (λ k. k ≤ m) (all_missing (below f n) (down_below f n d) p t) here, h)
]
  where
    here : levels (below f n) p ≤ m
    here = subst (λ k. k ≤ m) (root_in (f []) (levels (below f n) p) h) l

le : (a b : ℕ) → a ≤ b → b ≤ 32 → a ≤ 32
le a b h g = omega (arith, h, g)

iff_by : (f : List (List ℕ) → Bool) (d : Down f) (p : List (List ℕ)) → f [] ≡ true → (NearBy f 32 p → levels f p ≤ 32) × (levels f p ≤ 32 → NearBy f 32 p)
iff_by f d p root = (λ n. subst (λ z. levels f z ≤ 32) (sym n.2) (le (levels f (n.0 ++ n.1)) (length n.1) (few f d n.0 n.1 n.4) n.3), λ l. near_by f d 32 p root l)

pub near_is : (s : Skeleton) (k : Key) → Closed s → s.there (record { hive = k.hive; path = [] }) ≡ true → (Near s k → missing_levels s k ≤ 32) × (missing_levels s k ≤ 32 → Near s k)
near_is s k c root = iff_by (λ q. s.there (record { hive = k.hive; path = q }))
    (λ p r h. c.above (record { hive = k.hive; path = p }) (record { hive = k.hive; path = p ++ r }) (refl, (r, refl)) h) k.path root
