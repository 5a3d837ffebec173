-- A list of numbers, each once.
use Rattle.std.proofs.Common.{◌≡◌, ◌⊎◌, inl, inr, ℕ, Bool, true, false, not, ◌||◌, cond, List, [], ◌∷◌, ◌++◌, map, ◌+◌, refl, sym, ◌∙◌, ap, subst, append-nil}
use Rattle.std.specs.Prelude.{◌==◌, filter}
use Rattle.std.specs.List.{list_any}
use Rattle.std.proofs.lemmas.Bool.{eqb-true, eq-eqb}
use Rattle.std.proofs.lemmas.List.{map-append}
use Rattle.std.proofs.lemmas.List.Elements.{filter-append}
use Rattle.std.proofs.lemmas.Map.Views.{any-filter_same}
use Rattle.conflicts.proofs.Tests.{never}
use Rattle.conflicts.specs.Skeleton.{Claim}
use Rattle.conflicts.specs.Holders.{HeldClaim, blocks, each_once, with_number, holders_of}

pub told : (b : Bool) → (b ≡ true) ⊎ (b ≡ false)
told true = inl refl
told false = inr refl

-- a test of mapped elements
pub any-map : {A B : Type 0} (p : B → Bool) (f : A → B) (xs : List A) → list_any p (map f xs) ≡ list_any (λ x. p (f x)) xs
any-map p f [] = refl
any-map p f (x ∷ xs) = ap (λ b. p (f x) || b) (any-map p f xs)

abbrev others : ℕ → List ℕ → List ℕ
others a xs = filter (λ y. not (y == a)) xs

-- one number more, after one that is left out
same_number : (a : ℕ) (xs : List ℕ) → others a (with_number xs a) ≡ others a xs
same_number a xs = by_case (list_any (λ y. y == a) xs)
  where
    by_case : (b : Bool) → others a (cond b xs (xs ++ a ∷ [])) ≡ others a xs
    by_case true = refl
    by_case false = filter-append (λ y. not (y == a)) xs (a ∷ []) ∙ ap (λ b. others a xs ++ cond (not b) (a ∷ []) []) (eq-eqb a a refl) ∙ append-nil (others a xs)

other_number : (a x : ℕ) (xs : List ℕ) → (x == a) ≡ false → (a == x) ≡ false → others a (with_number xs x) ≡ with_number (others a xs) x
other_number a x xs ne en =
    by_case (list_any (λ y. y == x) xs) ∙ ap (λ b. cond b (others a xs) (others a xs ++ x ∷ [])) (sym found)
  where
    found : list_any (λ y. y == x) (others a xs) ≡ list_any (λ y. y == x) xs
    found = any-filter_same (λ y. y == x) (λ y. not (y == a)) true (λ k e. ap (λ z. not (z == a)) (eqb-true k x e) ∙ ap not ne) xs

    by_case : (b : Bool) → others a (cond b xs (xs ++ x ∷ [])) ≡ cond b (others a xs) (others a xs ++ x ∷ [])
    by_case true = refl
    by_case false = filter-append (λ y. not (y == a)) xs (x ∷ []) ∙ ap (λ b. others a xs ++ cond (not b) (x ∷ []) []) ne

flip_ne : (a x : ℕ) → (x == a) ≡ false → (a == x) ≡ false
flip_ne a x e = elim (told (a == x)) [
  | inl t ↦ never (sym e ∙ ap (λ z. x == z) (eqb-true a x t) ∙ eq-eqb x x refl)
  | inr f ↦ f
]

-- each once, of one number more
pub each_once-more : (xs : List ℕ) (x : ℕ) → each_once (xs ++ x ∷ []) ≡ with_number (each_once xs) x
each_once-more [] x = refl
each_once-more (a ∷ xs) x = ap (λ ys. a ∷ others a ys) (each_once-more xs x) ∙ by_case (told (x == a))
  where
    by_case : (x == a) ≡ true ⊎ (x == a) ≡ false → a ∷ others a (with_number (each_once xs) x) ≡ with_number (a ∷ others a (each_once xs)) x
    by_case (inl t) =
        let same : x ≡ a = eqb-true x a t in
        subst (λ z. a ∷ others a (with_number (each_once xs) z) ≡ with_number (a ∷ others a (each_once xs)) z) (sym same)
        (ap (λ ys. a ∷ ys) (same_number a (each_once xs)) ∙ ap (λ b. cond (b || list_any (λ y. y == a) (others a (each_once xs))) (a ∷ others a (each_once xs)) ((a ∷ others a (each_once xs)) ++ a ∷ [])) (sym (eq-eqb a a refl)))
    by_case (inr f) =
        ap (λ ys. a ∷ ys) (other_number a x (each_once xs) f (flip_ne a x f))
        ∙ push (list_any (λ y. y == x) (others a (each_once xs)))
        ∙ ap (λ b. cond (b || list_any (λ y. y == x) (others a (each_once xs))) (a ∷ others a (each_once xs)) ((a ∷ others a (each_once xs)) ++ x ∷ [])) (sym (flip_ne a x f))
      where
        push : (b : Bool) → a ∷ cond b (others a (each_once xs)) (others a (each_once xs) ++ x ∷ []) ≡ cond b (a ∷ others a (each_once xs)) ((a ∷ others a (each_once xs)) ++ x ∷ [])
        push true = refl
        push false = refl

-- the holders, of one claim more
pub holders-more : (held : List HeldClaim) (one : HeldClaim) (asker : _) (claim : Claim) → holders_of (held ++ one ∷ []) asker claim ≡ cond (blocks asker claim one) (with_number (holders_of held asker claim) one.owner) (holders_of held asker claim)
holders-more held one asker claim =
    ap (λ hs. each_once (map (λ (h : HeldClaim). h.owner) hs)) (filter-append (blocks asker claim) held (one ∷ []))
    ∙ by_case (blocks asker claim one)
  where
    by_case : (b : Bool) → each_once (map (λ (h : HeldClaim). h.owner) (filter (blocks asker claim) held ++ cond b (one ∷ []) [])) ≡ cond b (with_number (each_once (map (λ (h : HeldClaim). h.owner) (filter (blocks asker claim) held))) one.owner) (each_once (map (λ (h : HeldClaim). h.owner) (filter (blocks asker claim) held)))
    by_case true = ap each_once (map-append (λ (h : HeldClaim). h.owner) (filter (blocks asker claim) held) (one ∷ [])) ∙ each_once-more (map (λ (h : HeldClaim). h.owner) (filter (blocks asker claim) held)) one.owner
    by_case false = ap (λ hs. each_once (map (λ (h : HeldClaim). h.owner) hs)) (append-nil (filter (blocks asker claim) held))

module _ {A : Type 0} (number : A → ℕ) where
  -- what is not listed is added, and what is listed is not
  pub listed_more : (xs ys : List A) (x : A) (b : Bool) → b ≡ list_any (λ y. number y == number x) xs → b ≡ false → ys ≡ xs ++ x ∷ [] → map number ys ≡ with_number (map number xs) (number x)
  listed_more xs ys x b e f is =
      ap (map number) is ∙ map-append number xs (x ∷ []) ∙ ap (λ t. cond t (map number xs) (map number xs ++ number x ∷ [])) (sym f ∙ e ∙ sym (any-map (λ y. y == number x) number xs))

  listed_same : (xs : List A) (x : A) (b : Bool) → b ≡ list_any (λ y. number y == number x) xs → b ≡ true → map number xs ≡ with_number (map number xs) (number x)
  listed_same xs x b e t =
      ap (λ t. cond t (map number xs) (map number xs ++ number x ∷ [])) (sym t ∙ e ∙ sym (any-map (λ y. y == number x) number xs))

  -- so if it is listed it need not be asked whether it is to be
  pub listed_already : (xs : List A) (x : A) (b : Bool) → b ≡ list_any (λ y. number y == number x) xs → b ≡ true → (asked : Bool) → map number xs ≡ cond asked (with_number (map number xs) (number x)) (map number xs)
  listed_already xs x b e t true = listed_same xs x b e t
  listed_already xs x b e t false = refl
