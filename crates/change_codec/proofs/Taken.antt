-- What a loop over the bytes has read so far, and what a number's bytes are read as.
use Rattle.std.proofs.Common.{◌≡◌, ℕ, zero, suc, ◌+◌, ◌*◌, ◌<◌, ◌≤◌, Bool, true, List, [], ◌∷◌, ◌++◌, length, take, drop, get_or, refl, sym, ap, subst, ◌∙◌, arith, append_assoc, length-append, Option, Some, None}
use Rattle.std.specs.Prelude.{option_map}
use Rattle.std.specs.Option.{option_and_then}
use Rattle.std.specs.List.{AllByRecursion, list_all}
use Rattle.std.proofs.lemmas.List.{append-nil, take_more, take_all}
use Rattle.std.proofs.lemmas.Bool.{and_from, and_parts}
use Rattle.byteorder.specs.Endian.{little_number}
use Rattle.byteorder.specs.Numbers.{little_from-cons}
use Rattle.change_codec.specs.Readers.{Reader, give, then_by, both, repeat, number_at}
use Rattle.change_codec.specs.Changes.{SkipsMany}
use Rattle.change_codec.proofs.Numbers.{step}

-- what reading goes on to give, with these values in front
abbrev pub behind : {A : Type 0} → List A → Option (List A × List ℕ) → Option (List A × List ℕ)
behind front got = option_map (λ more. (front ++ more.0, more.1)) got

pub behind_none : {A : Type 0} (got : Option (List A × List ℕ)) → got ≡ behind [] got
behind_none None = refl
behind_none (Some got) = refl

one_more : {A : Type 0} (front : List A) (x : A) (got : Option (List A × List ℕ)) → behind front (option_and_then (λ more. Some (x ∷ more.0, more.1)) got) ≡ behind (front ++ x ∷ []) got
one_more front x None = refl
one_more {A = A} front x (Some got) = ap (λ (l : List A). Some (l, got.1)) (sym (append_assoc front (x ∷ []) got.0))

module _ {A : Type 0} (r : Reader A) where
  pub goes_on : (front : List A) (left more : ℕ) (x : A) (rest next : List ℕ) → left ≡ suc more → r rest ≡ Some (x, next) → behind front (repeat left r rest) ≡ behind (front ++ x ∷ []) (repeat more r next)
  goes_on front left more x rest next is got =
      ap (λ (n : ℕ). behind front (repeat n r rest)) is
      ∙ ap (λ (o : Option (A × List ℕ)). behind front (option_and_then (λ one. then_by (repeat more r) (λ xs. give (one.0 ∷ xs)) one.1) o)) got
      ∙ one_more front x (repeat more r next)

  pub stops : (front : List A) (left more : ℕ) (rest : List ℕ) → left ≡ suc more → r rest ≡ None → behind front (repeat left r rest) ≡ None
  stops front left more rest is none =
      ap (λ (n : ℕ). behind front (repeat n r rest)) is
      ∙ ap (λ (o : Option (A × List ℕ)). behind front (option_and_then (λ one. then_by (repeat more r) (λ xs. give (one.0 ∷ xs)) one.1) o)) none

  pub ends : (front : List A) (left : ℕ) (rest : List ℕ) → left ≡ 0 → behind front (repeat left r rest) ≡ Some (front, rest)
  ends front left rest is = ap (λ (n : ℕ). behind front (repeat n r rest)) is ∙ ap (λ (l : List A). Some (l, rest)) (append-nil front)

-- of this many values that bytes begin with some were read, and this many are left
abbrev pub HasSkipped : {A : Type 0} → Reader A → ℕ → List ℕ → ℕ → List ℕ → Type 0
HasSkipped {A = A} r count bytes left rest = (front : List A) × (repeat count r bytes ≡ behind front (repeat left r rest)) × (left + length front ≡ count)

module _ {A : Type 0} (r : Reader A) where
  -- none was read yet
  pub nothing_yet : (count left : ℕ) (bytes : List ℕ) → left ≡ count → HasSkipped r count bytes left bytes
  nothing_yet count left bytes is = ([], ap (λ (n : ℕ). repeat n r bytes) (sym is) ∙ behind_none (repeat left r bytes), omega (arith, is))

  pub skips_on : (count left more : ℕ) (bytes rest next : List ℕ) (x : A) → HasSkipped r count bytes left rest → left ≡ suc more → r rest ≡ Some (x, next) → HasSkipped r count bytes more next
  skips_on count left more bytes rest next x (front, so_far, many) is one =
      (front ++ x ∷ [], so_far ∙ goes_on r front left more x rest next is one, omega (arith, is, many, length-append front (x ∷ [])))

  pub skips_no_more : (count left more : ℕ) (bytes rest : List ℕ) → HasSkipped r count bytes left rest → left ≡ suc more → r rest ≡ None → repeat count r bytes ≡ None
  skips_no_more count left more bytes rest (front, so_far, many) is none = so_far ∙ stops r front left more rest is none

  pub skips_all : (count left : ℕ) (bytes rest : List ℕ) → HasSkipped r count bytes left rest → left ≡ 0 → SkipsMany (repeat count r bytes) count rest
  skips_all count left bytes rest (front, so_far, many) is = (front, so_far ∙ ends r front left rest is, omega (arith, is, many))

-- one reader, and after it another: what is then read, and when nothing is
module _ {A B : Type 0} (r : Reader A) (f : A → Reader B) where
  pub then_some : (bytes : List ℕ) (a : A) (rest : List ℕ) → r bytes ≡ Some (a, rest) → then_by r f bytes ≡ f a rest
  then_some bytes a rest got = ap (λ (o : Option (A × List ℕ)). option_and_then (λ one. f one.0 one.1) o) got

  pub then_none : (bytes : List ℕ) → r bytes ≡ None → then_by r f bytes ≡ None
  then_none bytes none = ap (λ (o : Option (A × List ℕ)). option_and_then (λ one. f one.0 one.1) o) none

-- two values that are read one after the other
pub both_some : {A B : Type 0} (r : Reader A) (s : Reader B) (bytes : List ℕ) (a : A) (rest : List ℕ) (b : B) (more : List ℕ) → r bytes ≡ Some (a, rest) → s rest ≡ Some (b, more) → both r s bytes ≡ Some ((a, b), more)
both_some r s bytes a rest b more one two = then_some r (λ x. then_by s (λ y. give (x, y))) bytes a rest one ∙ then_some s (λ y. give (a, y)) rest b more two

-- a number's bytes, if there are enough
pub number_whole : (n : ℕ) (bytes : List ℕ) → n ≤ length bytes → ((k : ℕ) → k < length bytes → get_or bytes k 0 < 256) → number_at n bytes ≡ Some (little_number n bytes, drop n bytes)
number_whole zero bytes enough small = refl
number_whole (suc n) [] enough small = absurd (omega arith)
number_whole (suc n) (b ∷ bytes) enough small =
    step n b bytes (little_number n bytes) (drop n bytes) (small 0 (omega arith)) (number_whole n bytes (omega arith) (λ k lt. small (suc k) (omega arith)))
    ∙ ap (λ (x : ℕ). Some (b + 256 * x, drop n bytes)) (sym (little_from-cons 0 n b bytes))

pub all_push : {X : Type 0} (P : X → Type 0) (xs : List X) (x : X) → AllByRecursion P xs → P x → AllByRecursion P (xs ++ x ∷ [])
all_push P [] x all here = (here, tt)
all_push P (y ∷ xs) x all here = (all.0, all_push P xs x all.1 here)

-- what is so of each element so far, and of the next
pub all_more : {X : Type 0} (P : X → Type 0) (xs : List X) (i : ℕ) (x : X) → i < length xs → x ≡ get_or xs i x → AllByRecursion P (take i xs) → P x → AllByRecursion P (take (i + 1) xs)
all_more {X = X} P xs i x lt is all here =
    subst (λ (l : List X). AllByRecursion P l) (ap (λ (y : X). take i xs ++ y ∷ []) is ∙ sym (take_more xs i x lt)) (all_push P (take i xs) x all here)

pub all_whole : {X : Type 0} (P : X → Type 0) (xs : List X) (n : ℕ) → length xs ≤ n → AllByRecursion P (take n xs) → AllByRecursion P xs
all_whole {X = X} P xs n le all = subst (λ (l : List X). AllByRecursion P l) (take_all n xs le) all

pub list_all_push : {X : Type 0} (p : X → Bool) (xs : List X) (x : X) → list_all p xs ≡ true → p x ≡ true → list_all p (xs ++ x ∷ []) ≡ true
list_all_push p [] x all here = and_from (p x) true here refl
list_all_push p (y ∷ xs) x all here = let a = and_parts (p y) (list_all p xs) all in and_from (p y) (list_all p (xs ++ x ∷ [])) a.0 (list_all_push p xs x a.1 here)

-- one element of a list all of whose elements pass
pub passes : {X : Type 0} (p : X → Bool) (xs : List X) (i : ℕ) (x : X) → i < length xs → x ≡ get_or xs i x → list_all p xs ≡ true → p x ≡ true
passes p [] i x lt is all = absurd (omega arith)
passes p (y ∷ xs) zero x lt is all = ap p is ∙ (and_parts (p y) (list_all p xs) all).0
passes p (y ∷ xs) (suc i) x lt is all = passes p xs i x (omega arith) is (and_parts (p y) (list_all p xs) all).1
