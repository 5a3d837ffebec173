-- Replaying a prefix, and then the rest.
use Rattle.std.proofs.Common.{◌≡◌, ℕ, List, [], ◌∷◌, ◌++◌, refl, ◌∙◌, ap, sym, append_assoc, Option, Some, None, Bool, true, false, cond}
use Rattle.std.proofs.lemmas.Option.{none-some, same_Some}
use Rattle.crash_model.specs.Changes.{Rules, Element, on_hive, ops_on, replay, applied}

pub ops_on-append : {Op : Type 0} (i : ℕ) (xs ys : List (Element Op)) → ops_on i (xs ++ ys) ≡ ops_on i xs ++ ops_on i ys
ops_on-append i [] ys = refl
ops_on-append i (x ∷ xs) ys = rw (ops_on-append i xs ys) (sym (append_assoc (on_hive i x) (ops_on i xs) (ops_on i ys)))

-- a step that leads somewhere was legal
some_if : {T U : Type 0} (b : Bool) (o : Option T) (u : T) (P : Option U → Type 0) (p : Option U) → cond b o None ≡ Some u → (o ≡ Some u → P p)
    → P (cond b p None)
some_if true o u P p h go = go h
some_if false o u P p h go = absurd (none-some u h)

module _ {T Op : Type 0} (r : Rules T Op) where
  pub replay_on : (xs ys : List Op) (t u : T) → replay r xs t ≡ Some u → replay r (xs ++ ys) t ≡ replay r ys u
  replay_on [] ys t u h = ap (replay r ys) (same_Some t u h)
  replay_on (x ∷ xs) ys t u h = some_if (r.legal x t) (replay r xs (r.apply x t)) u (λ o. o ≡ replay r ys u) (replay r (xs ++ ys) (r.apply x t)) h (λ g. replay_on xs ys (r.apply x t) u g)

  pub replay_front : (xs ys : List Op) (t u : T) → replay r (xs ++ ys) t ≡ Some u → replay r xs t ≡ Some (applied r xs t)
  replay_front [] ys t u h = refl
  replay_front (x ∷ xs) ys t u h = some_if (r.legal x t) (replay r (xs ++ ys) (r.apply x t)) u (λ o. o ≡ Some (applied r xs (r.apply x t))) (replay r xs (r.apply x t)) h (λ g. replay_front xs ys (r.apply x t) u g)

  pub applied-append : (xs ys : List Op) (t : T) → applied r (xs ++ ys) t ≡ applied r ys (applied r xs t)
  applied-append [] ys t = refl
  applied-append (x ∷ xs) ys t = applied-append xs ys (r.apply x t)

  -- what follows a prefix is legal on the result of the prefix
  pub replay_back : (xs ys : List Op) (t u : T) → replay r (xs ++ ys) t ≡ Some u → replay r ys (applied r xs t) ≡ Some u
  replay_back xs ys t u h = sym (replay_on xs ys t (applied r xs t) (replay_front xs ys t u h)) ∙ h

  -- of three parts that are legal together, the second is, on the result of the first
  pub replay_middle : (xs ys zs : List Op) (t u : T) → replay r ((xs ++ ys) ++ zs) t ≡ Some u
      → replay r ys (applied r xs t) ≡ Some (applied r (xs ++ ys) t)
  replay_middle xs ys zs t u h = replay_back xs ys t (applied r (xs ++ ys) t) (replay_front (xs ++ ys) zs t u h)
