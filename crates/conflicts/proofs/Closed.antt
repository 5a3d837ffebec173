-- The tests say what they are named after, and legal operations keep trees closed.
use Rattle.std.proofs.Common.{◌≡◌, ◌⊎◌, inl, inr, ℕ, List, [], ◌∷◌, ◌++◌, refl, ◌∙◌, sym, subst, Bool, true, false, eqb, if◌then◌else◌}
use Rattle.std.proofs.lemmas.Bool.{eq-eqb}
use Rattle.conflicts.specs.Skeleton.{Key, Same, Begins, same_name, begins_path, same_path, same_key, begins_key, Op, CreateKey, DeleteKey, SetValue, DeleteValue, Skeleton, makes, removes, makes_value, removes_value, after, apply}
use Rattle.conflicts.specs.Legal.{Legal}
use Rattle.conflicts.specs.Closed.{Closed}
use Rattle.conflicts.proofs.Tests.{never, both, split, key_is, key_begins, begins_begins, same_sym, same_begins, begins_refl}

and_true : (b c : Bool) → b ≡ true → c ≡ true → (if b then c else false) ≡ true
and_true true c h g = g
and_true false c h g = never h

pub name_same : (xs : List ℕ) → same_name xs xs ≡ true
name_same [] = refl
name_same (x ∷ xs) = and_true (eqb x x) (same_name xs xs) (eq-eqb x x refl) (name_same xs)

pub path_same : (p : List (List ℕ)) → same_path p p ≡ true
path_same [] = refl
path_same (x ∷ p) = and_true (same_name x x) (same_path p p) (name_same x) (path_same p)

pub path_begins : (p r : List (List ℕ)) → begins_path p (p ++ r) ≡ true
path_begins [] r = refl
path_begins (x ∷ p) r = and_true (same_name x x) (begins_path p (p ++ r)) (name_same x) (path_begins p r)

pub same_is : (k l : Key) → Same k l → same_key k l ≡ true
same_is k l e = and_true (eqb k.hive l.hive) (same_path k.path l.path) (eq-eqb k.hive l.hive e.0) (subst (λ p. same_path k.path p ≡ true) e.1 (path_same k.path))

pub begins_is_true : (k l : Key) → Begins k l → begins_key k l ≡ true
begins_is_true k l b = and_true (eqb k.hive l.hive) (begins_path k.path l.path) (eq-eqb k.hive l.hive b.0) (subst (λ p. begins_path k.path p ≡ true) (sym b.1.1) (path_begins k.path b.1.0))

pub after_true : (was made removed : Bool) → after was made removed ≡ true → (removed ≡ false) × ((made ≡ true) ⊎ (was ≡ true))
after_true was made true h = never h
after_true was true false h = (refl, inl refl)
after_true was false false h = (refl, inr h)

stays_there : (was made removed : Bool) → was ≡ true → removed ≡ false → after was made removed ≡ true
stays_there was made true h r = never (sym r)
stays_there was true false h r = refl
stays_there was false false h r = h

now_there : (was made removed : Bool) → made ≡ true → removed ≡ false → after was made removed ≡ true
now_there was made true h r = never (sym r)
now_there was true false h r = refl
now_there was false false h r = never h

clash : {A : Type 0} (b : Bool) → b ≡ true → b ≡ false → A
clash b h g = never (sym g ∙ h)

decided : (b : Bool) → (b ≡ true) ⊎ (b ≡ false)
decided true = inl refl
decided false = inr refl

module _ (s : Skeleton) (c : Closed s) where
  up : (o : Op) → Legal s o → (k l : Key) → Begins k l → (apply o s).there l ≡ true → (apply o s).there k ≡ true
  up (CreateKey m) h k l b t = elim (after_true (s.there l) (begins_key l m) false t).1 [
    | inl y ↦ now_there (s.there k) (begins_key k m) false (begins_is_true k m (begins_begins k l m b (key_begins l m y))) refl
    | inr y ↦ stays_there (s.there k) (begins_key k m) false (c.above k l b y) refl
  ]
  up (DeleteKey m) h k l b t = elim (after_true (s.there l) false (same_key l m) t).1 [
    | inl y ↦ never y
    | inr y ↦ stays_there (s.there k) false (same_key k m) (c.above k l b y) (not_it y (decided (same_key k m)))
  ]
    where
      beyond : Same k m → Begins m l → s.there l ≡ true → same_key k m ≡ false
      beyond e g y = elim (split m l g.0 g.1.0 g.1.1) [
        | inl f ↦ clash (same_key l m) (same_is l m (same_sym m l f)) (after_true (s.there l) false (same_key l m) t).0
        | inr p ↦ clash (s.there l) y (h.3 l p)
      ]

      not_it : s.there l ≡ true → (same_key k m ≡ true) ⊎ (same_key k m ≡ false) → same_key k m ≡ false
      not_it y (inl e) = beyond (key_is k m e) (same_begins k m l (key_is k m e) b) y
      not_it y (inr n) = n
  up (SetValue m v) h k l b t = c.above k l b t
  up (DeleteValue m v) h k l b t = c.above k l b t

  of_protected : (o : Op) (k : Key) → (apply o s).protected k ≡ true → (apply o s).there k ≡ true
  of_protected o k t = let u : (removes o k ≡ false) × ((false ≡ true) ⊎ (s.protected k ≡ true)) = after_true (s.protected k) false (removes o k) t in
      elim u.1 [
        | inl y ↦ never y
        | inr y ↦ stays_there (s.there k) (makes o k) (removes o k) (c.protected k y) u.0
      ]

  of_value : (o : Op) → Legal s o → (k : Key) (w : List ℕ) → (apply o s).value k w ≡ true → (apply o s).there k ≡ true
  of_value (CreateKey m) h k w t = stays_there (s.there k) (begins_key k m) false (c.value k w t) refl
  of_value (DeleteKey m) h k w t = elim (after_true (s.value k w) false (same_key k m) t).1 [
    | inl y ↦ never y
    | inr y ↦ stays_there (s.there k) false (same_key k m) (c.value k w y) (after_true (s.value k w) false (same_key k m) t).0
  ]
  of_value (SetValue m v) h k w t = elim (after_true (s.value k w) (makes_value (SetValue m v) k w) false t).1 [
    | inl y ↦ c.above k m (same_begins m k m (same_sym k m (key_is k m (both (same_key k m) (same_name w v) y).0)) (begins_refl m)) h
    | inr y ↦ c.value k w y
  ]
  of_value (DeleteValue m v) h k w t = elim (after_true (s.value k w) false (removes_value (DeleteValue m v) k w) t).1 [
    | inl y ↦ never y
    | inr y ↦ c.value k w y
  ]

  pub stays_closed : (o : Op) → Legal s o → Closed (apply o s)
  stays_closed o h = record { above = λ k l b t. up o h k l b t; protected = λ k t. of_protected o k t; value = λ k w t. of_value o h k w t }
