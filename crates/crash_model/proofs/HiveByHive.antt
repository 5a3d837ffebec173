-- A hive's tree in the list is what its own operations make of it.
use Rattle.std.proofs.Common.{◌≡◌, ◌≢◌, inl, inr, ℕ, zero, suc, List, [], ◌∷◌, refl, ◌∙◌, ap, sym, subst, arith, Option, Some, None, slice_get, option_map, Bool, true, false, cond}
use Rattle.std.proofs.lemmas.Option.{none-some}
use Rattle.std.proofs.lemmas.Bool.Decides.{nat_tests}
use Rattle.std.proofs.lemmas.Bool.{cases_eq}
use Rattle.crash_model.specs.Changes.{Rules, Element, on_hive, ops_on, applied, replay}
use Rattle.crash_model.specs.AllHives.{changed_at, after_element, after_elements, legal_there, run_element}
use Rattle.crash_model.proofs.Replays.{applied-append}

changed_same : {T : Type 0} (f : T → T) (ts : List T) (i : ℕ) → slice_get (changed_at f ts i) i ≡ option_map f (slice_get ts i)
changed_same f [] i = refl
changed_same f (t ∷ ts) zero = refl
changed_same f (t ∷ ts) (suc i) = changed_same f ts i

changed_other : {T : Type 0} (f : T → T) (ts : List T) (i j : ℕ) → i ≢ j → slice_get (changed_at f ts i) j ≡ slice_get ts j
changed_other f [] i j ne = refl
changed_other f (t ∷ ts) zero zero ne = absurd (ne refl)
changed_other f (t ∷ ts) zero (suc j) ne = refl
changed_other f (t ∷ ts) (suc i) zero ne = refl
changed_other f (t ∷ ts) (suc i) (suc j) ne = changed_other f ts i j (λ e. ne (ap suc e))

on_same : {Op : Type 0} (i : ℕ) (p : ℕ × Op) (ps : Element Op) → p.0 ≡ i → on_hive i (p ∷ ps) ≡ p.1 ∷ on_hive i ps
on_same i p ps e = grind (arith, nat_tests, e)

on_other : {Op : Type 0} (i : ℕ) (p : ℕ × Op) (ps : Element Op) → p.0 ≢ i → on_hive i (p ∷ ps) ≡ on_hive i ps
on_other i p ps e = grind (arith, nat_tests, e)

map_map : {A B C : Type 0} (f : A → B) (g : B → C) (o : Option A) → option_map g (option_map f o) ≡ option_map (λ a. g (f a)) o
map_map f g None = refl
map_map f g (Some a) = refl

map_id : {A : Type 0} (o : Option A) → o ≡ option_map (λ a. a) o
map_id None = refl
map_id (Some a) = refl

module _ {T Op : Type 0} (r : Rules T Op) where
  pub after_element_at : (i : ℕ) (ps : Element Op) (ts : List T)
      → slice_get (after_element r ps ts) i ≡ option_map (applied r (on_hive i ps)) (slice_get ts i)
  after_element_at i [] ts = map_id (slice_get ts i)
  after_element_at i (p ∷ ps) ts = after_element_at i ps (changed_at (r.apply p.1) ts p.0) ∙ elim (cases_eq p.0 i) as (λ z. option_map (applied r (on_hive i ps)) (slice_get (changed_at (r.apply p.1) ts p.0) i) ≡ option_map (applied r (on_hive i (p ∷ ps))) (slice_get ts i)) [
    | inl e ↦ ap (option_map (applied r (on_hive i ps))) (subst (λ k. slice_get (changed_at (r.apply p.1) ts p.0) k ≡ option_map (r.apply p.1) (slice_get ts k)) e (changed_same (r.apply p.1) ts p.0))
        ∙ map_map (r.apply p.1) (applied r (on_hive i ps)) (slice_get ts i) ∙ ap (λ (os : List Op). option_map (applied r os) (slice_get ts i)) (sym (on_same i p ps e))
    | inr e ↦ ap (option_map (applied r (on_hive i ps))) (changed_other (r.apply p.1) ts p.0 i e) ∙ ap (λ (os : List Op). option_map (applied r os) (slice_get ts i)) (sym (on_other i p ps e))
  ]

  pub after_elements_at : (i : ℕ) (es : List (Element Op)) (ts : List T)
      → slice_get (after_elements r es ts) i ≡ option_map (applied r (ops_on i es)) (slice_get ts i)
  after_elements_at i [] ts = map_id (slice_get ts i)
  after_elements_at i (e ∷ es) ts = after_elements_at i es (after_element r e ts) ∙ ap (option_map (applied r (ops_on i es))) (after_element_at i e ts)
      ∙ map_map (applied r (on_hive i e)) (applied r (ops_on i es)) (slice_get ts i) ∙ one (slice_get ts i)
    where
      one : (o : Option T) → option_map (λ t. applied r (ops_on i es) (applied r (on_hive i e) t)) o ≡ option_map (applied r (ops_on i (e ∷ es))) o
      one None = refl
      one (Some t) = ap Some (sym (applied-append r (on_hive i e) (ops_on i es) t))

was_legal : {T : Type 0} (b : Bool) (o : Option T) (u : T) → cond b o None ≡ Some u → (b ≡ true) × (o ≡ Some u)
was_legal true o u h = (refl, h)
was_legal false o u h = absurd (none-some u h)

module _ {T Op : Type 0} (r : Rules T Op) where
  -- what is legal in the list of trees is legal hive by hive
  pub legal_at : (i : ℕ) (ps : Element Op) (ts us : List T) (t : T) → run_element r ps ts ≡ Some us → slice_get ts i ≡ Some t
      → replay r (on_hive i ps) t ≡ Some (applied r (on_hive i ps) t)
  legal_at i [] ts us t h at = refl
  legal_at i (p ∷ ps) ts us t h at = elim (cases_eq p.0 i) as (λ z. replay r (on_hive i (p ∷ ps)) t ≡ Some (applied r (on_hive i (p ∷ ps)) t)) [
    | inl e ↦ subst (λ os. replay r os t ≡ Some (applied r os t)) (sym (on_same i p ps e))
        (first (legal_here e) (legal_at i ps (changed_at (r.apply p.1) ts p.0) us (r.apply p.1 t) step.1 (subst (λ k. slice_get (changed_at (r.apply p.1) ts p.0) k ≡ option_map (r.apply p.1) (slice_get ts k)) e (changed_same (r.apply p.1) ts p.0) ∙ ap (option_map (r.apply p.1)) at)))
    | inr e ↦ subst (λ os. replay r os t ≡ Some (applied r os t)) (sym (on_other i p ps e)) (legal_at i ps (changed_at (r.apply p.1) ts p.0) us t step.1 (changed_other (r.apply p.1) ts p.0 i e ∙ at))
  ]
    where
      step : (legal_there r p.1 (slice_get ts p.0) ≡ true) × (run_element r ps (changed_at (r.apply p.1) ts p.0) ≡ Some us)
      step = was_legal (legal_there r p.1 (slice_get ts p.0)) (run_element r ps (changed_at (r.apply p.1) ts p.0)) us h

      legal_here : p.0 ≡ i → r.legal p.1 t ≡ true
      legal_here e = sym (ap (legal_there r p.1) (ap (slice_get ts) e ∙ at)) ∙ step.0

      first : r.legal p.1 t ≡ true → replay r (on_hive i ps) (r.apply p.1 t) ≡ Some (applied r (on_hive i ps) (r.apply p.1 t))
          → replay r (p.1 ∷ on_hive i ps) t ≡ Some (applied r (p.1 ∷ on_hive i ps) t)
      first b q = ap (λ z. cond z (replay r (on_hive i ps) (r.apply p.1 t)) None) b ∙ q
