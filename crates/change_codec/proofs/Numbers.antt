-- A number of `n` bytes is its bytes, the lowest first.
use Rattle.std.proofs.Common.{◌/◌, ◌%◌, ◌≡◌, ℕ, zero, suc, ◌+◌, ◌*◌, ◌^◌, ◌<◌, Bool, true, false, List, [], ◌∷◌, ◌++◌, refl, sym, ap, ◌∙◌, arith, Option, Some, None}
use Rattle.std.specs.Prelude.{if◌then◌else◌, nat_lt, option_map}
use Rattle.std.specs.Int.{byte_at, bytes_low_first}
use Rattle.std.proofs.Math.Nat.{div-one, div-div-eq-div-mul, pow-suc}
use Rattle.std.proofs.lemmas.Bool.{lt-ltb, ltb-true}
use Rattle.std.proofs.lemmas.Option.{same_Some, none-some}
use Rattle.byteorder.specs.Endian.{little_bytes}
use Rattle.change_codec.specs.Readers.{number_at, IsEncoding}

-- the same bytes, by division
abbrev digits : ℕ → ℕ → List ℕ
digits zero x = []
digits (suc n) x = x % 256 ∷ digits n (x / 256)

byte_is : (i x : ℕ) → byte_at i x ≡ x / 256 ^ i % 256
byte_is zero x = ap (λ (y : ℕ). y % 256) (sym (div-one x))
byte_is (suc i) x = refl

digits_from : (n i x : ℕ) → bytes_low_first i n x ≡ digits n (x / 256 ^ i)
digits_from zero i x = refl
digits_from (suc n) i x =
    let shift : x / 256 ^ suc i ≡ x / 256 ^ i / 256 = ap (λ (p : ℕ). x / p) (pow-suc 256 i) ∙ sym (div-div-eq-div-mul x (256 ^ i) 256) in
    ap (λ (b : ℕ). b ∷ bytes_low_first (suc i) n x) (byte_is i x) ∙ ap (λ (l : List ℕ). (x / 256 ^ i % 256) ∷ l) (digits_from n (suc i) x ∙ ap (digits n) shift)

digits_are : (n x : ℕ) → little_bytes n x ≡ digits n x
digits_are n x = digits_from n 0 x ∙ ap (digits n) (div-one x)

pub step : (n b : ℕ) (bytes : List ℕ) (x : ℕ) (rest : List ℕ) → b < 256 → number_at n bytes ≡ Some (x, rest) → number_at (suc n) (b ∷ bytes) ≡ Some (b + 256 * x, rest)
step n b bytes x rest lt e =
    ap (λ (t : Bool). if t then option_map (λ more. (b + 256 * more.0, more.1)) (number_at n bytes) else None) (lt-ltb b 256 lt)
    ∙ ap (λ (o : Option (ℕ × List ℕ)). option_map (λ more. (b + 256 * more.0, more.1)) o) e

digits_again : (n x : ℕ) (rest : List ℕ) → x < 256 ^ n → number_at n (digits n x ++ rest) ≡ Some (x, rest)
digits_again zero x rest lt = ap (λ (y : ℕ). Some (y, rest)) (omega (arith, lt))
digits_again (suc n) x rest lt =
    let p : 256 ^ suc n ≡ 256 ^ n * 256 = pow-suc 256 n in
    let small : x / 256 < 256 ^ n = omega (arith, lt, p) in
    step n (x % 256) (digits n (x / 256) ++ rest) (x / 256) rest (omega arith) (digits_again n (x / 256) rest small)
    ∙ ap (λ (y : ℕ). Some (y, rest)) (omega arith)

map_back : {A B P : Type 0} (f : A → B) (o : Option A) (y : B) → option_map f o ≡ Some y → ((x : A) → o ≡ Some x → f x ≡ y → P) → P
map_back f None y e k = absurd (none-some y e)
map_back f (Some x) y e k = k x refl (same_Some (f x) y e)

pub let_through : {A : Type 0} (b : Bool) (o : Option A) (y : A) → (if b then o else None) ≡ Some y → (b ≡ true) × (o ≡ Some y)
let_through true o y e = (refl, e)
let_through false o y e = absurd (none-some y e)

digits_back : (n : ℕ) (bytes : List ℕ) (x : ℕ) (rest : List ℕ) → number_at n bytes ≡ Some (x, rest) → (bytes ≡ digits n x ++ rest) × (x < 256 ^ n)
digits_back zero bytes x rest e =
    let is : (0, bytes) ≡ (x, rest) = same_Some (0, bytes) (x, rest) e in
    (ap (λ (p : ℕ × List ℕ). p.1) is, omega (arith, ap (λ (p : ℕ × List ℕ). p.0) is))
digits_back (suc n) [] x rest e = absurd (none-some (x, rest) e)
digits_back (suc n) (b ∷ bytes) x rest e =
    let t = let_through (nat_lt b 256) (option_map (λ more. (b + 256 * more.0, more.1)) (number_at n bytes)) (x, rest) e in
    let lt : b < 256 = ltb-true b 256 t.0 in
    map_back (λ more. (b + 256 * more.0, more.1)) (number_at n bytes) (x, rest) t.1 (λ more first is.
    let h = digits_back n bytes more.0 more.1 first in
    let xs : b + 256 * more.0 ≡ x = ap (λ (p : ℕ × List ℕ). p.0) is in
    let rs : more.1 ≡ rest = ap (λ (p : ℕ × List ℕ). p.1) is in
    let low : b ≡ x % 256 = omega (arith, xs, lt) in
    let high : more.0 ≡ x / 256 = omega (arith, xs, lt) in
    let p : 256 ^ suc n ≡ 256 ^ n * 256 = pow-suc 256 n in (
      ap (λ (c : ℕ). c ∷ bytes) low ∙ ap (λ (l : List ℕ). (x % 256) ∷ l) (h.0 ∙ ap (λ (y : ℕ). digits n y ++ more.1) high ∙ ap (λ (l : List ℕ). digits n (x / 256) ++ l) rs),
      omega (arith, xs, lt, h.1, p),
    ))

pub number : (n : ℕ) → IsEncoding (number_at n) (little_bytes n) (λ x. x < 256 ^ n)
number n = record {
  again = λ x rest lt. ap (λ (l : List ℕ). number_at n (l ++ rest)) (digits_are n x) ∙ digits_again n x rest lt;
  back = λ bytes x rest e.
      let h = digits_back n bytes x rest e in
      (h.0 ∙ ap (λ (l : List ℕ). l ++ rest) (sym (digits_are n x)), h.1);
}
