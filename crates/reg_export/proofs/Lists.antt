-- Short lists, and parts of lists.
use Rattle.std.proofs.Common.{◌≡◌, ℕ, ◌+◌, ◌<◌, ◌≤◌, arith, drop, true, List, [], ◌∷◌, ◌++◌, length, take, slice_get, Some, refl, sym, ◌∙◌, ap, T, subst}
use Rattle.std.proofs.Math.Facts.{eqb_yes}
use Rattle.std.specs.Int.{w16, from_le_bytes}
use Rattle.std.proofs.lemmas.List.{take_more}
use Rattle.reg_export.specs.ByteUnits.{units_of}
use Rattle.std.proofs.lemmas.Option.{get_or_from_slice_get, slice_get_within}
use Rattle.std.specs.Prelude.{◌==◌}

pub none_of : {X : Type 0} (xs : List X) → (length xs == 0) ≡ true → xs ≡ []
none_of [] e = refl
none_of (x ∷ xs) e = absurd (omega (arith, eqb_yes {a = length (x ∷ xs)} {b = 0} (subst T (sym e) tt)))

pub no_items : {X : Type 0} (xs : List X) → length xs ≡ 0 → xs ≡ []
no_items [] e = refl
no_items (x ∷ xs) e = absurd (omega (arith, e))

-- the items up to an index, and the one at it
pub next_item : {X : Type 0} (xs : List X) (i : ℕ) (x : X) → slice_get xs i ≡ Some x → take i xs ++ x ∷ [] ≡ take (i + 1) xs
next_item xs i x e = sym (take_more xs i x (slice_get_within xs i x e) ∙ ap (λ y. take i xs ++ y ∷ []) (get_or_from_slice_get xs i x x e))

-- bytes of two and more are a unit and the units of the rest; fewer have none
pub one_unit : (bytes : List ℕ) → 2 ≤ length bytes → units_of bytes ≡ from_le_bytes w16 (take 2 bytes) ∷ units_of (drop 2 bytes)
one_unit [] h = absurd (omega arith)
one_unit (low ∷ []) h = absurd (omega arith)
one_unit (low ∷ high ∷ bytes) h = refl

pub no_unit : (bytes : List ℕ) → length bytes < 2 → units_of bytes ≡ []
no_unit [] h = refl
no_unit (low ∷ []) h = refl
no_unit (low ∷ high ∷ bytes) h = absurd (omega arith)
