-- Entries of a list that goes on after another.
use Rattle.std.proofs.Common.{◌≡◌, ◌⊎◌, inl, inr, ℕ, zero, suc, ◌<◌, List, [], ◌∷◌, ◌++◌, length, refl, sym, ◌∙◌, ap, arith, Some, slice_get}
use Rattle.std.proofs.lemmas.Option.{same_Some, slice_get_within}

module _ {X : Type 0} where
  -- the entries of the first list
  pub got_front : (xs ys : List X) (i : ℕ) → i < length xs → slice_get (xs ++ ys) i ≡ slice_get xs i
  got_front [] ys i lt = absurd (omega (arith, lt))
  got_front (x ∷ xs) ys zero lt = refl
  got_front (x ∷ xs) ys (suc i) lt = got_front xs ys i (omega (arith, lt))

  pub got_before : (xs ys : List X) (i : ℕ) (x : X) → slice_get xs i ≡ Some x → slice_get (xs ++ ys) i ≡ Some x
  got_before xs ys i x is = got_front xs ys i (slice_get_within xs i x is) ∙ is

  -- the first entry after it
  pub got_next : (xs : List X) (y : X) (ys : List X) → slice_get (xs ++ y ∷ ys) (length xs) ≡ Some y
  got_next [] y ys = refl
  got_next (x ∷ xs) y ys = got_next xs y ys

  pub got_end : (xs : List X) (y : X) (ys : List X) (i : ℕ) (x : X) → i ≡ length xs → slice_get (xs ++ y ∷ ys) i ≡ Some x → y ≡ x
  got_end xs y ys i x e is = same_Some y x (sym (got_next xs y ys) ∙ ap (slice_get (xs ++ y ∷ ys)) (sym e) ∙ is)

  -- an entry of a list with one more at the end
  pub got_push : (xs : List X) (last : X) (i : ℕ) (x : X) → slice_get (xs ++ last ∷ []) i ≡ Some x → (slice_get xs i ≡ Some x) ⊎ ((i ≡ length xs) × (last ≡ x))
  got_push [] last zero x is = inr (refl, same_Some last x is)
  got_push [] last (suc i) x is = absurd (let no : ⊥ = cc in no)
  got_push (y ∷ ys) last zero x is = inl is
  got_push (y ∷ ys) last (suc i) x is = elim (got_push ys last i x is) [ inl there ↦ inl there | inr here ↦ inr (ap suc here.0, here.1) ]
