-- What holds of texts that are made of names and of printable units.
use Rattle.std.proofs.Common.{◌≡◌, ℕ, ◌<◌, true, List, [], ◌∷◌, ◌++◌, refl, arith}
use Rattle.std.specs.Prelude.{◌==◌, ◌||◌}
use Rattle.std.specs.List.{AllByRecursion, flat_map}
use Rattle.std.proofs.lemmas.Bool.Decides.{nat_tests}
use Rattle.reg_names.specs.Printable.{is_printable}
use Rattle.reg_export.specs.NameTests.{are_chars}
use Rattle.reg_export.specs.RegTexts.{escaped_unit}
use Rattle.reg_export.specs.CharLaws.{are_chars_both, ascii_chars}
use Rattle.reg_export.proofs.Singles.{escaped_chars}
use Rattle.reg_round_trip.proofs.Units.{all_both, all_flat, all_then, by_test}

-- It holds of printable units, of two texts in a row, and of a text with a backslash before each quote and backslash.
pub record AreTexts (G : List ℕ → Type 0) : Type 0 where
  pub prints : (units : List ℕ) → AllByRecursion (λ u. is_printable u ≡ true) units → G units
  pub both : (front back : List ℕ) → G front → G back → G (front ++ back)
  pub escaped : (text : List ℕ) → G text → G (flat_map escaped_unit text)

-- what each unit is, if printable ones are
pub each_unit : (P : ℕ → Type 0) → ((u : ℕ) → is_printable u ≡ true → P u) → AreTexts (AllByRecursion P)
each_unit P prints = record {
  prints = all_then (λ u. is_printable u ≡ true) P prints;
  both = all_both P;
  escaped = all_flat P P escaped_unit escaped_one;
}
  where
    escaped_one : (u : ℕ) → P u → AllByRecursion P (escaped_unit u)
    escaped_one u h = by_test (AllByRecursion P) (u == 34 || u == 92) (92 ∷ u ∷ []) (u ∷ []) (λ e. (prints 92 refl, (h, tt))) (λ e. (h, tt))

pub printable_small : (u : ℕ) → is_printable u ≡ true → u < 128
printable_small u h = grind (arith, nat_tests, h)

-- that they are characters
pub characters : AreTexts (λ units. are_chars units ≡ true)
characters = record {
  prints = λ units all. ascii_chars units (all_then (λ u. is_printable u ≡ true) (λ u. u < 128) printable_small units all);
  both = are_chars_both;
  escaped = escaped_chars;
}
