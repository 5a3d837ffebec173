-- What the tests of keys say, and what is there afterwards.
use Rattle.std.proofs.Common.{◌≡◌, ◌⊎◌, inl, inr, ℕ, List, [], ◌∷◌, ◌++◌, refl, ◌∙◌, ap, sym, subst, append_assoc, Bool, true, false, eqb, if◌then◌else◌}
use Rattle.std.proofs.lemmas.Bool.{eqb-true}
use Rattle.std.proofs.lemmas.List.{append-nil}
use Rattle.conflicts.specs.Skeleton.{Key, Same, Begins, ProperlyBegins, same_name, begins_path, same_path, same_key, begins_key, Shape, Claim, Conflict, after}

pub never : {A : Type 0} → false ≡ true → A
never e = absurd (subst (λ b. elim b as (λ z. Type 0) [ true ↦ ⊥ | false ↦ Unit {0} ]) e tt)

pub both : (b c : Bool) → (if b then c else false) ≡ true → (b ≡ true) × (c ≡ true)
both true c h = (refl, h)
both false c h = never h

pub name_is : (xs ys : List ℕ) → same_name xs ys ≡ true → xs ≡ ys
name_is [] [] h = refl
name_is [] (y ∷ ys) h = never h
name_is (x ∷ xs) [] h = never h
name_is (x ∷ xs) (y ∷ ys) h = let p : (eqb x y ≡ true) × (same_name xs ys ≡ true) = both (eqb x y) (same_name xs ys) h in
    ap (λ z. z ∷ xs) (eqb-true x y p.0) ∙ ap (λ (zs : List ℕ). y ∷ zs) (name_is xs ys p.1)

pub path_is : (p q : List (List ℕ)) → same_path p q ≡ true → p ≡ q
path_is [] [] h = refl
path_is [] (y ∷ q) h = never h
path_is (x ∷ p) [] h = never h
path_is (x ∷ p) (y ∷ q) h = let t : (same_name x y ≡ true) × (same_path p q ≡ true) = both (same_name x y) (same_path p q) h in
    ap (λ z. z ∷ p) (name_is x y t.0) ∙ ap (λ (zs : List (List ℕ)). y ∷ zs) (path_is p q t.1)

pub begins_is : (p q : List (List ℕ)) → begins_path p q ≡ true → (r : List (List ℕ)) × (q ≡ p ++ r)
begins_is [] q h = (q, refl)
begins_is (x ∷ p) [] h = never h
begins_is (x ∷ p) (y ∷ q) h = let t : (same_name x y ≡ true) × (begins_path p q ≡ true) = both (same_name x y) (begins_path p q) h in
    let u : (r : List (List ℕ)) × (q ≡ p ++ r) = begins_is p q t.1 in
    (u.0, ap (λ z. z ∷ q) (sym (name_is x y t.0)) ∙ ap (λ (zs : List (List ℕ)). x ∷ zs) u.1)

pub key_is : (k l : Key) → same_key k l ≡ true → Same k l
key_is k l h = let t : (eqb k.hive l.hive ≡ true) × (same_path k.path l.path ≡ true) = both (eqb k.hive l.hive) (same_path k.path l.path) h in
    (eqb-true k.hive l.hive t.0, path_is k.path l.path t.1)

pub key_begins : (k l : Key) → begins_key k l ≡ true → Begins k l
key_begins k l h = let t : (eqb k.hive l.hive ≡ true) × (begins_path k.path l.path ≡ true) = both (eqb k.hive l.hive) (begins_path k.path l.path) h in
    (eqb-true k.hive l.hive t.0, begins_is k.path l.path t.1)

pub same_begins : (k l m : Key) → Same k l → Begins k m → Begins l m
same_begins k l m e b = (sym e.0 ∙ b.0, (b.1.0, b.1.1 ∙ ap (λ p. p ++ b.1.0) e.1))

pub begins_begins : (k l m : Key) → Begins k l → Begins l m → Begins k m
begins_begins k l m a b = (a.0 ∙ b.0, (a.1.0 ++ b.1.0, b.1.1 ∙ ap (λ p. p ++ b.1.0) a.1.1 ∙ append_assoc k.path a.1.0 b.1.0))

pub same_refl : (k : Key) → Same k k
same_refl k = (refl, refl)

pub begins_refl : (k : Key) → Begins k k
begins_refl k = (refl, ([], sym (append-nil k.path)))

pub proper_begins : (k l : Key) → ProperlyBegins k l → Begins k l
proper_begins k l b = (b.0, (b.1.0 ∷ b.1.1, b.1.2))

pub same_sym : (k l : Key) → Same k l → Same l k
same_sym k l e = (sym e.0, sym e.1)

pub split : (k l : Key) → k.hive ≡ l.hive → (r : List (List ℕ)) → l.path ≡ k.path ++ r → Same k l ⊎ ProperlyBegins k l
split k l h [] e = inl (h, sym (e ∙ append-nil k.path))
split k l h (n ∷ r) e = inr (h, (n, r, e))

pub shape_conflict : (c d : Claim) → c.kind ≡ Shape → Begins c.key d.key → Conflict c d
shape_conflict c d s b = elim (split c.key d.key b.0 b.1.0 b.1.1) [
  | inl e ↦ inl e
  | inr p ↦ inr (inl (s, p))
]

pub conflict_sym : (c d : Claim) → Conflict c d → Conflict d c
conflict_sym c d (inl e) = inl (same_sym c.key d.key e)
conflict_sym c d (inr (inl p)) = inr (inr p)
conflict_sym c d (inr (inr p)) = inr (inl p)

pub stays : (was made removed : Bool) → was ≡ true → (removed ≡ true → ⊥) → after was made removed ≡ true
stays was made true h out = absurd (out refl)
stays was true false h out = refl
stays was false false h out = h

pub stays_away : (was made removed : Bool) → was ≡ false → (made ≡ true → ⊥) → after was made removed ≡ false
stays_away was made true h out = refl
stays_away was true false h out = absurd (out refl)
stays_away was false false h out = h

-- two changes in either order, if neither removes what the other makes
pub either_order : (was ma ra mb rb : Bool) → (ma ≡ true → rb ≡ true → ⊥) → (mb ≡ true → ra ≡ true → ⊥) → after (after was mb rb) ma ra ≡ after (after was ma ra) mb rb
either_order was ma true mb true f g = refl
either_order was ma true true false f g = absurd (g refl refl)
either_order was ma true false false f g = refl
either_order was true false mb true f g = absurd (f refl refl)
either_order was false false mb true f g = refl
either_order was true false true false f g = refl
either_order was true false false false f g = refl
either_order was false false true false f g = refl
either_order was false false false false f g = refl
