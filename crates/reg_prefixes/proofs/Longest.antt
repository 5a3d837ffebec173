-- The longest of prefixes, step by step.
use Rattle.std.proofs.Common.{◌≡◌, ◌≤◌, ◌<◌, ◌&&◌, ℕ, Bool, true, false, cond, List, ◌∷◌, length, Option, Some, None, refl, sym, ◌∙◌, ap, arith}
use Rattle.std.specs.Prelude.{nat_lt}
use Rattle.std.proofs.lemmas.Bool.Decides.{nat_tests}
use Rattle.reg_prefixes.specs.declared.prefix.Prefix.{Prefix}
use Rattle.reg_prefixes.specs.Places.{begins, is_longer, longer, longest_in}

-- what was found, unless another one is longer
abbrev pub better : Option Prefix → Option Prefix → Option Prefix
better None other = other
better (Some found) other = Some (longer found other)

lt_trans : (a b c : ℕ) → nat_lt a b ≡ true → nat_lt b c ≡ true → nat_lt a c ≡ true
lt_trans a b c h k = grind (arith, nat_tests, h, k)

not_lt_trans : (a b c : ℕ) → nat_lt a b ≡ false → nat_lt b c ≡ false → nat_lt a c ≡ false
not_lt_trans a b c h k = grind (arith, nat_tests, h, k)

-- the longest of three, taken from either end
of_three : (found next other : Prefix) (a b : Bool) → is_longer next (Some found) ≡ a → is_longer other (Some next) ≡ b → longer found (Some (longer next (Some other))) ≡ longer (cond a next found) (Some other)
of_three found next other true true h k =
    ap (λ test. longer found (Some (cond test other next))) k ∙ ap (λ test. cond test other found) (lt_trans (length found.text.items) (length next.text.items) (length other.text.items) h k)
    ∙ ap (λ test. cond test other next) (sym k)
of_three found next other true false h k = ap (λ test. longer found (Some (cond test other next))) k ∙ ap (λ test. cond test next found) h ∙ ap (λ test. cond test other next) (sym k)
of_three found next other false true h k = ap (λ test. longer found (Some (cond test other next))) k
of_three found next other false false h k =
    ap (λ test. longer found (Some (cond test other next))) k ∙ ap (λ test. cond test next found) h
    ∙ ap (λ test. cond test other found) (sym (not_lt_trans (length found.text.items) (length next.text.items) (length other.text.items) h k))

with_next : (found : Option Prefix) (next : Prefix) (other : Option Prefix) (a : Bool) → is_longer next found ≡ a → better found (Some (longer next other)) ≡ better (cond a (Some next) found) other
with_next None next other true h = refl
with_next None next other false h = absurd (bad h)
  where
    bad : true ≡ false → ⊥
    bad e = cc
with_next (Some found) next None true h = ap (λ test. Some (cond test next found)) h
with_next (Some found) next None false h = ap (λ test. Some (cond test next found)) h
with_next (Some found) next (Some other) true h = ap Some (of_three found next other true (is_longer other (Some next)) h refl)
with_next (Some found) next (Some other) false h = ap Some (of_three found next other false (is_longer other (Some next)) h refl)

-- one prefix more
pub next_found : (found : Option Prefix) (next : Prefix) (prefixes : List Prefix) (text : List ℕ) → begins next.text.items text ≡ true → is_longer next found ≡ true → better found (longest_in (next ∷ prefixes) text) ≡ better (Some next) (longest_in prefixes text)
next_found found next prefixes text fits long =
    ap (λ test. better found (cond test (Some (longer next (longest_in prefixes text))) (longest_in prefixes text))) fits ∙ with_next found next (longest_in prefixes text) true long

pub found_stays : (found : Option Prefix) (next : Prefix) (prefixes : List Prefix) (text : List ℕ) → (begins next.text.items text && is_longer next found) ≡ false → better found (longest_in (next ∷ prefixes) text) ≡ better found (longest_in prefixes text)
found_stays found next prefixes text none = by_fit (begins next.text.items text) refl none
  where
    by_fit : (test : Bool) → begins next.text.items text ≡ test → (test && is_longer next found) ≡ false → better found (longest_in (next ∷ prefixes) text) ≡ better found (longest_in prefixes text)
    by_fit false e h = ap (λ test. better found (cond test (Some (longer next (longest_in prefixes text))) (longest_in prefixes text))) e
    by_fit true e h = ap (λ test. better found (cond test (Some (longer next (longest_in prefixes text))) (longest_in prefixes text))) e ∙ with_next found next (longest_in prefixes text) false h
