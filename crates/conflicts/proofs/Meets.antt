-- The tests of claims say what conflicts.
use Rattle.std.proofs.Common.{◌≡◌, ◌==◌, ◌⊎◌, inl, inr, ◌↔◌, ℕ, Bool, true, false, ◌||◌, ◌&&◌, IsTrue, List, [], ◌∷◌, ◌++◌, length, refl, sym, ◌∙◌, ap, arith, ◌+◌, length-append}
use Rattle.std.proofs.lemmas.List.{append-nil}
use Rattle.reg_names.specs.Names as names
use Rattle.conflicts.specs.Skeleton.{Key, Same, Begins, ProperlyBegins, same_key, begins_key, ClaimKind, Shape, Hold, Claim, Conflict}
use Rattle.conflicts.proofs.Tests.{key_is, key_begins, same_begins, same_sym, begins_refl, proper_begins, split, never}
use Rattle.conflicts.proofs.Closed.{same_is, begins_is_true}
use Rattle.std.proofs.lemmas.Bool.{eqb-true, eq-eqb}
use Rattle.conflicts.specs.Claims.{is_shape, reaches, meets}
use Rattle.conflicts.proofs.KeyTests.{agree}

-- a test that says whether the path extends the other is the test of keys of one hive
pub begins_is : (k l : Key) (b : Bool) → k.hive ≡ l.hive → (IsTrue b ↔ names.Begins k.path l.path) → b ≡ begins_key k l
begins_is k l b e h = by_case b (begins_key k l) refl h
  where
    by_case : (b c : Bool) → begins_key k l ≡ c → (IsTrue b ↔ names.Begins k.path l.path) → b ≡ c
    by_case true true t h = refl
    by_case false false t h = refl
    by_case true false t h = never (sym t ∙ begins_is_true k l (e, h.0 refl))
    by_case false true t h = h.1 (key_begins k l t).1

both_of : (a b : Bool) → (a && b) ≡ true → (a ≡ true) × (b ≡ true)
both_of true b h = (refl, h)
both_of false b h = never h

one_of : (a b : Bool) → (a || b) ≡ true → (a ≡ true) ⊎ (b ≡ true)
one_of true b h = inl refl
one_of false b h = inr h

and_true : (a b : Bool) → a ≡ true → b ≡ true → (a && b) ≡ true
and_true true b h g = g
and_true false b h g = never h

left_true : (a b : Bool) → a ≡ true → (a || b) ≡ true
left_true true b h = refl
left_true false b h = never h

right_true : (a b : Bool) → b ≡ true → (a || b) ≡ true
right_true true b h = refl
right_true false b h = h

shape_is : (k : ClaimKind) → is_shape k ≡ true → k ≡ Shape
shape_is Shape h = refl
shape_is Hold h = never h

is_shape_of : (k : ClaimKind) → k ≡ Shape → is_shape k ≡ true
is_shape_of k e = ap is_shape e

-- keys that begin one another are the same
both_ways : (k l : Key) → Begins k l → Begins l k → Same k l
both_ways k l a b = (a.0, sym (a.1.1 ∙ ap (λ r. k.path ++ r) (none a.1.0 a.1.1 (length-append k.path a.1.0) (length-append l.path b.1.0)) ∙ append-nil k.path))
  where
    none : (r : List (List ℕ)) → l.path ≡ k.path ++ r → length (k.path ++ r) ≡ length k.path + length r → length (l.path ++ b.1.0) ≡ length l.path + length b.1.0 → r ≡ []
    none [] w e f = refl
    none (n ∷ r) w e f = absurd (omega (arith, e, f, ap length w, ap length b.1.1))

-- a key that begins another one as deep is begun by it
as_deep : (k l : Key) → Begins k l → (length k.path == length l.path) ≡ begins_key l k
as_deep k l b = agree {P = length k.path ≡ length l.path} _ _ (eqb-true (length k.path) (length l.path)) (λ e. begins_is_true l k (same_begins k l k (same e (length-append k.path b.1.0)) (begins_refl k)))
    (λ t. let back : Begins l k = key_begins l k t in omega (arith, ap length b.1.1, length-append k.path b.1.0, ap length back.1.1, length-append l.path back.1.0)) (eq-eqb (length k.path) (length l.path))
  where
    same : length k.path ≡ length l.path → length (k.path ++ b.1.0) ≡ length k.path + length b.1.0 → Same k l
    same e f = (b.0, sym (b.1.1 ∙ ap (λ r. k.path ++ r) (none b.1.0 (omega (arith, e, f, ap length b.1.1))) ∙ append-nil k.path))
      where
        none : (r : List (List ℕ)) → length r ≡ 0 → r ≡ []
        none [] z = refl
        none (n ∷ r) z = absurd (omega (arith, z))

-- so depths decide whether a Hold reaches a key
pub reaches_by_depth : (c d : Claim) → ((is_shape c.kind || (length c.key.path == length d.key.path)) && begins_key c.key d.key) ≡ reaches c d
reaches_by_depth c d = by_case (is_shape c.kind) (begins_key c.key d.key) refl
  where
    never_both : (a : Bool) → (a && false) ≡ false
    never_both true = refl
    never_both false = refl

    whole : (a : Bool) → (a && true) ≡ a
    whole true = refl
    whole false = refl

    by_case : (s b : Bool) → begins_key c.key d.key ≡ b → ((s || (length c.key.path == length d.key.path)) && b) ≡ (b && (s || begins_key d.key c.key))
    by_case s false e = never_both (s || (length c.key.path == length d.key.path))
    by_case true true e = refl
    by_case false true e = whole (length c.key.path == length d.key.path) ∙ as_deep c.key d.key (key_begins c.key d.key e)

reaches_conflict : (c d : Claim) → reaches c d ≡ true → Conflict c d
reaches_conflict c d h =
    let p : (begins_key c.key d.key ≡ true) × ((is_shape c.kind || begins_key d.key c.key) ≡ true) = both_of (begins_key c.key d.key) (is_shape c.kind || begins_key d.key c.key) h in
    let b : Begins c.key d.key = key_begins c.key d.key p.0 in
    elim (one_of (is_shape c.kind) (begins_key d.key c.key) p.1) [
      | inl s ↦ elim (split c.key d.key b.0 b.1.0 b.1.1) [
        | inl e ↦ inl e
        | inr q ↦ inr (inl (shape_is c.kind s, q))
      ]
      | inr t ↦ inl (both_ways c.key d.key b (key_begins d.key c.key t))
    ]

flipped : (c d : Claim) → Conflict c d → Conflict d c
flipped c d (inl e) = inl (same_sym c.key d.key e)
flipped c d (inr (inl p)) = inr (inr p)
flipped c d (inr (inr p)) = inr (inl p)

pub meets_conflict : (c d : Claim) → meets c d ≡ true → Conflict c d
meets_conflict c d h = elim (one_of (reaches c d) (reaches d c) h) [
  | inl t ↦ reaches_conflict c d t
  | inr t ↦ flipped d c (reaches_conflict d c t)
]

shape_reaches : (c d : Claim) → c.kind ≡ Shape → ProperlyBegins c.key d.key → reaches c d ≡ true
shape_reaches c d s q = and_true (begins_key c.key d.key) (is_shape c.kind || begins_key d.key c.key) (begins_is_true c.key d.key (proper_begins c.key d.key q)) (left_true (is_shape c.kind) (begins_key d.key c.key) (is_shape_of c.kind s))

same_reaches : (c d : Claim) → Same c.key d.key → reaches c d ≡ true
same_reaches c d e = and_true (begins_key c.key d.key) (is_shape c.kind || begins_key d.key c.key)
    (begins_is_true c.key d.key (same_begins d.key c.key d.key (same_sym c.key d.key e) (begins_refl d.key)))
    (right_true (is_shape c.kind) (begins_key d.key c.key) (begins_is_true d.key c.key (same_begins c.key d.key c.key e (begins_refl c.key))))

pub conflict_meets : (c d : Claim) → Conflict c d → meets c d ≡ true
conflict_meets c d (inl e) = left_true (reaches c d) (reaches d c) (same_reaches c d e)
conflict_meets c d (inr (inl p)) = left_true (reaches c d) (reaches d c) (shape_reaches c d p.0 p.1)
conflict_meets c d (inr (inr p)) = right_true (reaches c d) (reaches d c) (shape_reaches d c p.0 p.1)

pub meets_is : (c d : Claim) (b : Bool) → b ≡ meets c d → IsTrue b ↔ Conflict c d
meets_is c d b e = (λ t. meets_conflict c d (sym e ∙ t), λ h. e ∙ conflict_meets c d h)

-- the two tests that find that claims conflict
pub found_at_once : (c d : Claim) (b : Bool) → b ≡ reaches c d → b ≡ true → b ≡ meets c d
found_at_once c d b e h = h ∙ sym (left_true (reaches c d) (reaches d c) (sym e ∙ h))

pub found_other_way : (c d : Claim) (b r : Bool) → r ≡ reaches c d → r ≡ false → b ≡ reaches d c → b ≡ meets c d
found_other_way c d b r e h f = f ∙ sym (ap (λ x. x || reaches d c) (sym e ∙ h))

-- keys are the same if each begins the other
pub same_key_is : (k l : Key) → (begins_key k l && begins_key l k) ≡ same_key k l
same_key_is k l = by_case (begins_key k l && begins_key l k) (same_key k l) refl refl
  where
    by_case : (x y : Bool) → (begins_key k l && begins_key l k) ≡ x → same_key k l ≡ y → x ≡ y
    by_case true true e f = refl
    by_case false false e f = refl
    by_case true false e f =
        let p : (begins_key k l ≡ true) × (begins_key l k ≡ true) = both_of (begins_key k l) (begins_key l k) e in
        never (sym f ∙ same_is k l (both_ways k l (key_begins k l p.0) (key_begins l k p.1)))
    by_case false true e f =
        let t : Same k l = key_is k l f in
        never (sym e ∙ and_true (begins_key k l) (begins_key l k) (begins_is_true k l (same_begins l k l (same_sym k l t) (begins_refl l))) (begins_is_true l k (same_begins k l k t (begins_refl k))))

pub same_key_then : (k l : Key) (a b : Bool) → a ≡ begins_key k l → a ≡ true → b ≡ begins_key l k → b ≡ same_key k l
same_key_then k l a b e h f = f ∙ ap (λ x. x && begins_key l k) (sym h ∙ e) ∙ same_key_is k l

pub same_key_else : (k l : Key) (a : Bool) → a ≡ begins_key k l → a ≡ false → false ≡ same_key k l
same_key_else k l a e h = ap (λ x. x && begins_key l k) (sym h ∙ e) ∙ same_key_is k l
