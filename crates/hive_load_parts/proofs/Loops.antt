-- Loops over a list by its indexes.
use Rattle.std.proofs.Common.{◌≡◌, ◌<◌, ◌+◌, ◌*◌, ℕ, zero, suc, List, [], ◌∷◌, ◌++◌, length, take, drop, get_or, refl, ◌∙◌, ap, sym, subst, Ok, Err, arith, mul-suc}
use Rattle.std.proofs.lemmas.List.{take_more}
use Rattle.refusals.specs.declared.refusal.Refusal.{Refusal}
use Rattle.hive_tree_model.specs.Loads.{CellMarks}
use Rattle.hive_cells.specs.Tiles.{u32_at}
use Rattle.hive_cells.specs.Bins.{Cells}
use Rattle.hive_records.specs.Readers.{Reader, each}
use Rattle.hive_records.specs.Numbers.{words_from}
use Rattle.hive_records.specs.Follows.{Follows}
use Rattle.hive_records.proofs.Each.{each_goes_on, each_stops}

module _ {A : Type 0} where
  pub split_here : (xs : List A) (i : ℕ) (d : A) → i < length xs → xs ≡ take i xs ++ get_or xs i d ∷ drop (suc i) xs
  split_here [] i d h = absurd (omega (arith, h))
  split_here (x ∷ xs) zero d h = refl
  split_here (x ∷ xs) (suc i) d h = ap (λ (r : List A). x ∷ r) (split_here xs i d (omega (arith, h)))

module _ {A B : Type 0} (f : A → Reader B) where
  pub each_next : (xs : List A) (i : ℕ) (d x : A) (cells : Cells) (a b c : CellMarks) (ys : List B) (y : B) → i < length xs → get_or xs i d ≡ x → Follows (each f (take i xs)) cells a b (Ok ys) → Follows (f x) cells b c (Ok y) → Follows (each f (take (i + 1) xs)) cells a c (Ok (ys ++ y ∷ []))
  each_next xs i d x cells a b c ys y h e g k =
      subst (λ (zs : List A). Follows (each f zs) cells a c (Ok (ys ++ y ∷ []))) (sym (take_more xs i d h ∙ ap (λ z. take i xs ++ z ∷ []) e))
      (each_goes_on f (take i xs) x cells a b c ys y g k)

  pub each_out : (xs : List A) (i : ℕ) (d x : A) (cells : Cells) (a b c : CellMarks) (ys : List B) (r : Refusal) → i < length xs → get_or xs i d ≡ x → Follows (each f (take i xs)) cells a b (Ok ys) → Follows (f x) cells b c (Err r) → Follows (each f xs) cells a c (Err r)
  each_out xs i d x cells a b c ys r h e g k =
      subst (λ (zs : List A). Follows (each f zs) cells a c (Err r)) (sym (split_here xs i d h ∙ ap (λ z. take i xs ++ z ∷ drop (suc i) xs) e))
      (each_stops f (take i xs) x (drop (suc i) xs) cells a b c ys r g k)

pub length_words : (bytes : List ℕ) (at stride n : ℕ) → length (words_from bytes at stride n) ≡ n
length_words bytes at stride zero = refl
length_words bytes at stride (suc n) = ap suc (length_words bytes (at + stride) stride n)

pub get_word : (bytes : List ℕ) (at stride n i : ℕ) → i < n → get_or (words_from bytes at stride n) i 0 ≡ u32_at bytes (at + stride * i)
get_word bytes at stride zero i h = absurd (omega (arith, h))
get_word bytes at stride (suc n) zero h = ap (u32_at bytes) (omega arith)
get_word bytes at stride (suc n) (suc i) h = get_word bytes (at + stride) stride n i (omega (arith, h)) ∙ ap (u32_at bytes) (omega (arith, mul-suc stride i))
