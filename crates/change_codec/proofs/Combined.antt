-- What is read by readers one after another.
use Rattle.std.proofs.Common.{◌≡◌, ℕ, zero, suc, ◌^◌, ◌<◌, ◌≤◌, Bool, true, false, List, [], ◌∷◌, ◌++◌, length, take, drop, refl, sym, ap, subst, ◌∙◌, arith, append_assoc, length-append, length-take, take-append-drop, Option, Some, None}
use Rattle.std.specs.Prelude.{if◌then◌else◌, nat_le, ⊤}
use Rattle.std.specs.Option.{option_and_then}
use Rattle.std.specs.List.{flat_map, AllByRecursion}
use Rattle.std.proofs.lemmas.Bool.{le-leb, leb-true}
use Rattle.std.proofs.lemmas.List.{take_at, drop_at}
use Rattle.std.proofs.lemmas.Option.{same_Some, none-some, option_and_then_some}
use Rattle.byteorder.specs.Endian.{little_bytes}
use Rattle.change_codec.specs.Readers.{Reader, give, give_if, then_by, both, checked, number_at, bytes_at, repeat, string_at, counted_at, IsEncoding}
use Rattle.change_codec.specs.Encoding.{string, counted}
use Rattle.change_codec.proofs.Numbers.{number, let_through}

pub weaken : {A : Type 0} {r : Reader A} {t : A → List ℕ} {F G : A → Type 0} → IsEncoding r t F → ((a : A) → F a → G a) → ((a : A) → G a → F a) → IsEncoding r t G
weaken law to from = record {
  again = λ a rest g. law.again a rest (from a g);
  back = λ bytes a rest e. let b = law.back bytes a rest e in (b.0, to a b.1);
}

-- A value leads to the reader after it, and is known from what that reads.
pub then_law : {A B : Type 0} (r : Reader A) (f : A → Reader B) (ta : A → List ℕ) (tb : B → List ℕ) (Fa : A → Type 0) (Fb : B → Type 0) (key : B → A) → IsEncoding r ta Fa
    → ((a : A) → IsEncoding (f a) tb (λ b. (key b ≡ a) × Fb b)) → IsEncoding (then_by r f) (λ b. ta (key b) ++ tb b) (λ b. Fa (key b) × Fb b)
then_law {A = A} {B = B} r f ta tb Fa Fb key one two = record {
  again = λ b rest fits.
      ap (then_by r f) (append_assoc (ta (key b)) (tb b) rest)
      ∙ ap (λ (o : Option (A × List ℕ)). option_and_then (λ got. f got.0 got.1) o) (one.again (key b) (tb b ++ rest) fits.0)
      ∙ (two (key b)).again b rest (refl, fits.1);
  back = λ bytes b rest e. option_and_then_some (λ got. f got.0 got.1) (r bytes) (b, rest) e (λ got first second.
      let x = one.back bytes got.0 got.1 first in
      let y = (two got.0).back got.1 b rest second in (
        x.0 ∙ ap (λ (l : List ℕ). ta got.0 ++ l) y.0 ∙ sym (append_assoc (ta got.0) (tb b) rest) ∙ ap (λ (a : A). (ta a ++ tb b) ++ rest) (sym y.1.0),
        (subst Fa (sym y.1.0) x.1, y.1.1),
      ));
}

pub both_law : {A B : Type 0} (r : Reader A) (s : Reader B) (ta : A → List ℕ) (tb : B → List ℕ) (Fa : A → Type 0) (Fb : B → Type 0) → IsEncoding r ta Fa → IsEncoding s tb Fb → IsEncoding (both r s) (λ x. ta x.0 ++ tb x.1) (λ x. Fa x.0 × Fb x.1)
both_law {A = A} {B = B} r s ta tb Fa Fb one two = record {
  again = λ x rest fits.
      ap (both r s) (append_assoc (ta x.0) (tb x.1) rest)
      ∙ ap (λ (o : Option (A × List ℕ)). option_and_then (λ got. then_by s (λ b. give (got.0, b)) got.1) o) (one.again x.0 (tb x.1 ++ rest) fits.0)
      ∙ ap (λ (o : Option (B × List ℕ)). option_and_then (λ got. give (x.0, got.0) got.1) o) (two.again x.1 rest fits.1);
  back = λ bytes x rest e. option_and_then_some (λ got. then_by s (λ b. give (got.0, b)) got.1) (r bytes) (x, rest) e (λ a first more.
      option_and_then_some (λ got. give (a.0, got.0) got.1) (s a.1) (x, rest) more (λ b second is.
      let p = one.back bytes a.0 a.1 first in
      let q = two.back a.1 b.0 b.1 second in
      subst (λ (y : (A × B) × List ℕ). (bytes ≡ (ta y.0.0 ++ tb y.0.1) ++ y.1) × (Fa y.0.0 × Fb y.0.1)) (same_Some ((a.0, b.0), b.1) (x, rest) is)
      (p.0 ∙ ap (λ (l : List ℕ). ta a.0 ++ l) q.0 ∙ sym (append_assoc (ta a.0) (tb b.0) b.1), (p.1, q.1))));
}

given : {A : Type 0} (b : Bool) (a : A) (bytes : List ℕ) (y : A × List ℕ) → give_if b a bytes ≡ Some y → (b ≡ true) × ((a, bytes) ≡ y)
given true a bytes y e = (refl, same_Some (a, bytes) y e)
given false a bytes y e = absurd (none-some y e)

pub checked_law : {A : Type 0} (test : A → Bool) (r : Reader A) (t : A → List ℕ) (F : A → Type 0) → IsEncoding r t F → IsEncoding (checked test r) t (λ a. F a × (test a ≡ true))
checked_law {A = A} test r t F law = record {
  again = λ a rest fits.
      ap (λ (o : Option (A × List ℕ)). option_and_then (λ got. give_if (test got.0) got.0 got.1) o) (law.again a rest fits.0) ∙ ap (λ (b : Bool). give_if b a rest) fits.1;
  back = λ bytes a rest e. option_and_then_some (λ got. give_if (test got.0) got.0 got.1) (r bytes) (a, rest) e (λ got first second.
      let g = given (test got.0) got.0 got.1 (a, rest) second in
      let b = law.back bytes got.0 got.1 first in
      subst (λ (y : A × List ℕ). (bytes ≡ t y.0 ++ y.1) × (F y.0 × (test y.0 ≡ true))) g.1 (b.0, (b.1, g.0)));
}

bytes_law : (n : ℕ) → IsEncoding (bytes_at n) (λ s. s) (λ s. (length s ≡ n) × ⊤)
bytes_law n = record {
  again = λ s rest fits.
      let all : n ≤ length (s ++ rest) = omega (arith, fits.0, length-append s rest) in
      ap (λ (t : Bool). if t then Some (take n (s ++ rest), drop n (s ++ rest)) else None) (le-leb n (length (s ++ rest)) all)
      ∙ ap (λ (l : List ℕ). Some (l, drop n (s ++ rest))) (take_at s rest n fits.0) ∙ ap (λ (l : List ℕ). Some (s, l)) (drop_at s rest n fits.0);
  back = λ bytes s rest e.
      let t = let_through (nat_le n (length bytes)) (Some (take n bytes, drop n bytes)) (s, rest) e in
      let le : n ≤ length bytes = leb-true n (length bytes) t.0 in
      subst (λ (y : List ℕ × List ℕ). (bytes ≡ y.0 ++ y.1) × ((length y.0 ≡ n) × ⊤)) (same_Some (take n bytes, drop n bytes) (s, rest) t.1) (sym (take-append-drop n bytes), (omega (arith, length-take n bytes, le), tt));
}

module _ {A : Type 0} (r : Reader A) (t : A → List ℕ) (F : A → Type 0) (law : IsEncoding r t F) where
  repeat_again : (xs : List A) (rest : List ℕ) → AllByRecursion F xs → repeat (length xs) r (flat_map t xs ++ rest) ≡ Some (xs, rest)
  repeat_again [] rest fits = refl
  repeat_again (x ∷ xs) rest fits =
      ap (repeat (suc (length xs)) r) (append_assoc (t x) (flat_map t xs) rest)
      ∙ ap (λ (o : Option (A × List ℕ)). option_and_then (λ got. then_by (repeat (length xs) r) (λ ys. give (got.0 ∷ ys)) got.1) o) (law.again x (flat_map t xs ++ rest) fits.0)
      ∙ ap (λ (o : Option (List A × List ℕ)). option_and_then (λ got. give (x ∷ got.0) got.1) o) (repeat_again xs rest fits.1)

  repeat_back : (n : ℕ) (bytes : List ℕ) (xs : List A) (rest : List ℕ) → repeat n r bytes ≡ Some (xs, rest) → (bytes ≡ flat_map t xs ++ rest) × ((length xs ≡ n) × AllByRecursion F xs)
  repeat_back zero bytes xs rest e = subst (λ (y : List A × List ℕ). (bytes ≡ flat_map t y.0 ++ y.1) × ((length y.0 ≡ 0) × AllByRecursion F y.0)) (same_Some ([], bytes) (xs, rest) e) (refl, (refl, tt))
  repeat_back (suc n) bytes xs rest e =
      option_and_then_some (λ got. then_by (repeat n r) (λ ys. give (got.0 ∷ ys)) got.1) (r bytes) (xs, rest) e (λ a first more.
      option_and_then_some (λ got. give (a.0 ∷ got.0) got.1) (repeat n r a.1) (xs, rest) more (λ b second is.
      let p = law.back bytes a.0 a.1 first in
      let q = repeat_back n a.1 b.0 b.1 second in
      subst (λ (y : List A × List ℕ). (bytes ≡ flat_map t y.0 ++ y.1) × ((length y.0 ≡ suc n) × AllByRecursion F y.0)) (same_Some (a.0 ∷ b.0, b.1) (xs, rest) is)
      (p.0 ∙ ap (λ (l : List ℕ). t a.0 ++ l) q.0 ∙ sym (append_assoc (t a.0) (flat_map t b.0) b.1), (ap suc q.1.0, (p.1, q.1.1)))))

  pub repeat_law : (n : ℕ) → IsEncoding (repeat n r) (flat_map t) (λ xs. (length xs ≡ n) × AllByRecursion F xs)
  repeat_law n = record {
    again = λ xs rest fits. subst (λ (m : ℕ). repeat m r (flat_map t xs ++ rest) ≡ Some (xs, rest)) fits.0 (repeat_again xs rest fits.1);
    back = λ bytes xs rest. repeat_back n bytes xs rest;
  }

  pub counted_law : (w : ℕ) → IsEncoding (counted_at w r) (counted w t) (λ xs. (length xs < 256 ^ w) × AllByRecursion F xs)
  counted_law w = then_law (number_at w) (λ n. repeat n r) (little_bytes w) (flat_map t) (λ n. n < 256 ^ w) (AllByRecursion F) (λ xs. length xs) (number w) repeat_law

pub string_law : (w : ℕ) → IsEncoding (string_at w) (string w) (λ s. length s < 256 ^ w)
string_law w = weaken (then_law (number_at w) bytes_at (little_bytes w) (λ s. s) (λ n. n < 256 ^ w) (λ s. ⊤) (λ s. length s) (number w) bytes_law) (λ s f. f.0) (λ s f. (f, tt))
