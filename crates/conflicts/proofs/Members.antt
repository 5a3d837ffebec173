-- Which transactions are among the holders, and which claims are in a table.
use Rattle.std.proofs.Common.{◌≡◌, ◌⊎◌, inl, inr, ◌↔◌, ℕ, zero, suc, ◌<◌, Bool, true, false, not, ◌||◌, ◌&&◌, cond, List, [], ◌∷◌, ◌++◌, map, length, Option, Some, None, refl, sym, ◌∙◌, ap, subst, arith}
use Rattle.std.specs.Prelude.{◌==◌, ◌≢◌, filter, Contains, nat_eq}
use Rattle.std.specs.List.{list_any, AllByRecursion, IsDistinct}
use Rattle.std.proofs.lemmas.Bool.{eqb-true, eq-eqb}
use Rattle.conflicts.specs.Skeleton.{Same, ClaimKind, Shape, Hold, Claim, same_key}
use Rattle.conflicts.proofs.Tests.{never, key_is}
use Rattle.conflicts.specs.Claims.{meets, same_kind, same_claim}
use Rattle.conflicts.specs.Holders.{HeldClaim, same_held_claim, holds_claim, with_claim, without_owner, asks, blocks, each_once, holders_of, IsHolder}
use Rattle.conflicts.proofs.Meets.{meets_conflict, conflict_meets}
use Rattle.conflicts.proofs.Once.{told}

-- Elements of lists

pub here : {X : Type 0} (x : X) (xs : List X) → Contains (x ∷ xs) x
here x xs = (0, omega arith, refl)

pub later : {X : Type 0} (x : X) (xs : List X) (y : X) → Contains xs y → Contains (x ∷ xs) y
later x xs y c = let k : ℕ = c.0 in let lt : k < length xs = c.1 in (suc k, omega (arith, lt), c.2)

pub first_or_later : {X : Type 0} (x : X) (xs : List X) (y : X) → Contains (x ∷ xs) y → (x ≡ y) ⊎ Contains xs y
first_or_later x xs y (zero, lt, e) = inl e
first_or_later x xs y (suc k, lt, e) = inr (k, omega (arith, lt), e)

pub none_empty : {X : Type 0} (y : X) → Contains [] y → ⊥
none_empty y (k, lt, e) = omega (arith, lt)

pub filter_has : {X : Type 0} (p : X → Bool) (xs : List X) (y : X) → Contains xs y → p y ≡ true → Contains (filter p xs) y
filter_has p [] y c t = absurd (none_empty y c)
filter_has p (x ∷ xs) y c t = by_case (λ d. filter_has p xs y d t) (first_or_later x xs y c) (p x) refl
  where
    by_case : (Contains xs y → Contains (filter p xs) y) → (x ≡ y) ⊎ Contains xs y → (b : Bool) → p x ≡ b → Contains (cond b (x ∷ filter p xs) (filter p xs)) y
    by_case rest (inl e) true h = subst (λ z. Contains (z ∷ filter p xs) y) (sym e) (here y (filter p xs))
    by_case rest (inl e) false h = never (sym h ∙ ap p e ∙ t)
    by_case rest (inr c) true h = later x (filter p xs) y (rest c)
    by_case rest (inr c) false h = rest c

pub has_filter : {X : Type 0} (p : X → Bool) (xs : List X) (y : X) → Contains (filter p xs) y → Contains xs y × (p y ≡ true)
has_filter p [] y c = absurd (none_empty y c)
has_filter p (x ∷ xs) y c = by_case (has_filter p xs y) (p x) refl c
  where
    by_case : (Contains (filter p xs) y → Contains xs y × (p y ≡ true)) → (b : Bool) → p x ≡ b → Contains (cond b (x ∷ filter p xs) (filter p xs)) y → Contains (x ∷ xs) y × (p y ≡ true)
    by_case rest true h c = elim (first_or_later x (filter p xs) y c) [
      | inl e ↦ (subst (λ z. Contains (x ∷ xs) z) e (here x xs), ap p (sym e) ∙ h)
      | inr d ↦ (later x xs y (rest d).0, (rest d).1)
    ]
    by_case rest false h c = (later x xs y (rest c).0, (rest c).1)

pub map_has : {X : Type 0} (f : X → ℕ) (xs : List X) (x : X) → Contains xs x → Contains (map f xs) (f x)
map_has f [] x c = absurd (none_empty x c)
map_has f (z ∷ xs) x c = elim (first_or_later z xs x c) [
  | inl e ↦ subst (λ w. Contains (f w ∷ map f xs) (f x)) (sym e) (here (f x) (map f xs))
  | inr d ↦ later (f z) (map f xs) (f x) (map_has f xs x d)
]

pub has_map : {X : Type 0} (f : X → ℕ) (xs : List X) (n : ℕ) → Contains (map f xs) n → (x : X) × Contains xs x × (f x ≡ n)
has_map f [] n c = absurd (none_empty n c)
has_map f (z ∷ xs) n c = elim (first_or_later (f z) (map f xs) n c) [
  | inl e ↦ (z, here z xs, e)
  | inr d ↦ let t = has_map f xs n d in (t.0, later z xs t.0 t.1, t.2)
]

-- Each once

once_has : (xs : List ℕ) (n : ℕ) → Contains xs n → Contains (each_once xs) n
once_has [] n c = c
once_has (x ∷ xs) n c = by_case (once_has xs n) (first_or_later x xs n c) (told (n == x))
  where
    by_case : (Contains xs n → Contains (each_once xs) n) → (x ≡ n) ⊎ Contains xs n → ((n == x) ≡ true) ⊎ ((n == x) ≡ false) → Contains (each_once (x ∷ xs)) n
    by_case rest (inl e) t = subst (λ z. Contains (z ∷ filter (λ y. not (y == x)) (each_once xs)) n) (sym e) (here n (filter (λ y. not (y == x)) (each_once xs)))
    by_case rest (inr d) (inl t) = subst (λ z. Contains (x ∷ filter (λ y. not (y == x)) (each_once xs)) z) (sym (eqb-true n x t)) (here x (filter (λ y. not (y == x)) (each_once xs)))
    by_case rest (inr d) (inr f) = later x (filter (λ y. not (y == x)) (each_once xs)) n (filter_has (λ y. not (y == x)) (each_once xs) n (rest d) (ap not f))

has_once : (xs : List ℕ) (n : ℕ) → Contains (each_once xs) n → Contains xs n
has_once [] n c = c
has_once (x ∷ xs) n c = elim (first_or_later x (filter (λ y. not (y == x)) (each_once xs)) n c) [
  | inl e ↦ subst (λ z. Contains (x ∷ xs) z) e (here x xs)
  | inr d ↦ later x xs n (has_once xs n (has_filter (λ y. not (y == x)) (each_once xs) n d).0)
]

filtered : (P : ℕ → Type 0) (p : ℕ → Bool) (xs : List ℕ) → AllByRecursion P xs → AllByRecursion P (filter p xs)
filtered P p [] a = tt
filtered P p (x ∷ xs) a = by_case (filtered P p xs a.1) (p x)
  where
    by_case : AllByRecursion P (filter p xs) → (b : Bool) → AllByRecursion P (cond b (x ∷ filter p xs) (filter p xs))
    by_case rest true = (a.0, rest)
    by_case rest false = rest

all_pass : (x : ℕ) (xs : List ℕ) → AllByRecursion (λ y. nat_eq x y ≡ false) (filter (λ y. not (y == x)) xs)
all_pass x [] = tt
all_pass x (z ∷ xs) = by_case (all_pass x xs) (z == x) refl
  where
    by_case : AllByRecursion (λ y. nat_eq x y ≡ false) (filter (λ y. not (y == x)) xs) → (b : Bool) → (z == x) ≡ b → AllByRecursion (λ y. nat_eq x y ≡ false) (cond (not b) (z ∷ filter (λ y. not (y == x)) xs) (filter (λ y. not (y == x)) xs))
    by_case rest true e = rest
    by_case rest false e = (other (nat_eq x z) refl, rest)
      where
        other : (b : Bool) → nat_eq x z ≡ b → nat_eq x z ≡ false
        other false t = t
        other true t = never (sym e ∙ ap (λ w. z == w) (eqb-true x z t) ∙ eq-eqb z z refl)

distinct_filter : (p : ℕ → Bool) (xs : List ℕ) → IsDistinct nat_eq xs → IsDistinct nat_eq (filter p xs)
unfolding IsDistinct
distinct_filter p [] d = tt
distinct_filter p (x ∷ xs) d = by_case (distinct_filter p xs d.1) (p x)
  where
    by_case : IsDistinct nat_eq (filter p xs) → (b : Bool) → IsDistinct nat_eq (cond b (x ∷ filter p xs) (filter p xs))
    by_case rest true = (filtered (λ y. nat_eq x y ≡ false) p xs d.0, rest)
    by_case rest false = rest

once_distinct : (xs : List ℕ) → IsDistinct nat_eq (each_once xs)
unfolding IsDistinct
once_distinct [] = tt
once_distinct (x ∷ xs) = (all_pass x (each_once xs), distinct_filter (λ y. not (y == x)) (each_once xs) (once_distinct xs))

-- The holders

asker_not : (asker : Option ℕ) (owner : ℕ) → not (asks asker owner) ≡ true → asker ≢ Some owner
asker_not None owner t e = cc
asker_not (Some a) owner t e = let same : a ≡ owner = cc in never (sym (ap not (eq-eqb a owner same)) ∙ t)

not_asker : (asker : Option ℕ) (owner : ℕ) → asker ≢ Some owner → not (asks asker owner) ≡ true
not_asker None owner ne = refl
not_asker (Some a) owner ne = by_case (a == owner) refl
  where
    by_case : (b : Bool) → (a == owner) ≡ b → not (a == owner) ≡ true
    by_case false e = ap not e
    by_case true e = absurd (ne (ap Some (eqb-true a owner e)))

pub parts : (a b : Bool) → (a && b) ≡ true → (a ≡ true) × (b ≡ true)
parts true b h = (refl, h)
parts false b h = never h

joined : (a b : Bool) → a ≡ true → b ≡ true → (a && b) ≡ true
joined true b h g = g
joined false b h g = never h

pub who : (held : List HeldClaim) (asker : Option ℕ) (claim : Claim) (owner : ℕ) → Contains (holders_of held asker claim) owner ↔ IsHolder held asker claim owner
who held asker claim owner = (to, from)
  where
    to : Contains (holders_of held asker claim) owner → IsHolder held asker claim owner
    to c =
        let found = has_map (λ (h : HeldClaim). h.owner) (filter (blocks asker claim) held) owner (has_once (map (λ (h : HeldClaim). h.owner) (filter (blocks asker claim) held)) owner c) in
        let stands = has_filter (blocks asker claim) held found.0 found.1 in
        let both = parts (not (asks asker found.0.owner)) (meets claim found.0.claim) stands.1 in
        (found.0.claim, subst (λ n. Contains held (record { owner = n; claim = found.0.claim })) found.2 stands.0, meets_conflict claim found.0.claim both.1, subst (λ n. asker ≢ Some n) found.2 (asker_not asker found.0.owner both.0))

    from : IsHolder held asker claim owner → Contains (holders_of held asker claim) owner
    from h =
        let one : HeldClaim = record { owner = owner; claim = h.0 } in
        once_has (map (λ (h : HeldClaim). h.owner) (filter (blocks asker claim) held)) owner
        (map_has (λ (h : HeldClaim). h.owner) (filter (blocks asker claim) held) one
        (filter_has (blocks asker claim) held one h.1 (joined (not (asks asker owner)) (meets claim h.0) (not_asker asker owner h.3) (conflict_meets claim h.0 h.2))))

pub once : (held : List HeldClaim) (asker : Option ℕ) (claim : Claim) → IsDistinct nat_eq (holders_of held asker claim)
once held asker claim = once_distinct (map (λ (h : HeldClaim). h.owner) (filter (blocks asker claim) held))

-- The claims of a table

kind_is : (c d : ClaimKind) → same_kind c d ≡ true → c ≡ d
kind_is Shape Shape e = refl
kind_is Shape Hold e = never e
kind_is Hold Shape e = never e
kind_is Hold Hold e = refl

pub held_is : (a b : HeldClaim) → same_held_claim a b ≡ true → a ≡ b
held_is a b t =
    let first = parts (b.owner == a.owner) (same_claim a.claim b.claim) t in
    let second = parts (same_kind a.claim.kind b.claim.kind) (same_key a.claim.key b.claim.key) first.1 in
    let key : Same a.claim.key b.claim.key = key_is a.claim.key b.claim.key second.1 in
    let owners : b.owner ≡ a.owner = eqb-true b.owner a.owner first.0 in
    let kinds : a.claim.kind ≡ b.claim.kind = kind_is a.claim.kind b.claim.kind second.0 in
    λ i. record { owner = sym owners i; claim = record { kind = kinds i; key = record { hive = key.0 i; path = key.1 i } } }

pub same_has : (one : HeldClaim) (held : List HeldClaim) → list_any (same_held_claim one) held ≡ true → Contains held one
same_has one [] t = never t
same_has one (h ∷ held) t = by_case (same_has one held) (same_held_claim one h) refl t
  where
    by_case : (list_any (same_held_claim one) held ≡ true → Contains held one) → (b : Bool) → same_held_claim one h ≡ b → (b || list_any (same_held_claim one) held) ≡ true → Contains (h ∷ held) one
    by_case rest true e t = subst (λ x. Contains (x ∷ held) one) (held_is one h e) (here one held)
    by_case rest false e t = later h held one (rest t)

snoc_has : (held : List HeldClaim) (one other : HeldClaim) → Contains held other ⊎ (one ≡ other) → Contains (held ++ one ∷ []) other
snoc_has [] one other (inl c) = absurd (none_empty other c)
snoc_has [] one other (inr e) = subst (λ x. Contains (x ∷ []) other) (sym e) (here other [])
snoc_has (h ∷ held) one other (inl c) = elim (first_or_later h held other c) [
  | inl e ↦ subst (λ x. Contains (x ∷ held ++ one ∷ []) other) (sym e) (here other (held ++ one ∷ []))
  | inr d ↦ later h (held ++ one ∷ []) other (snoc_has held one other (inl d))
]
snoc_has (h ∷ held) one other (inr e) = later h (held ++ one ∷ []) other (snoc_has held one other (inr e))

pub has_snoc : (held : List HeldClaim) (one other : HeldClaim) → Contains (held ++ one ∷ []) other → Contains held other ⊎ (one ≡ other)
has_snoc [] one other c = elim (first_or_later one [] other c) [ inl e ↦ inr e | inr d ↦ inl d ]
has_snoc (h ∷ held) one other c = elim (first_or_later h (held ++ one ∷ []) other c) [
  | inl e ↦ inl (subst (λ x. Contains (x ∷ held) other) (sym e) (here other held))
  | inr d ↦ elim (has_snoc held one other d) [ inl k ↦ inl (later h held other k) | inr e ↦ inr e ]
]

pub added : (held : List HeldClaim) (one other : HeldClaim) → Contains (with_claim held one) other ↔ (Contains held other ⊎ (one ≡ other))
added held one other = by_case (holds_claim held one) refl
  where
    by_case : (b : Bool) → list_any (same_held_claim one) held ≡ b → Contains (cond b held (held ++ one ∷ [])) other ↔ (Contains held other ⊎ (one ≡ other))
    by_case true e = (λ c. inl c, λ c. elim c [ inl k ↦ k | inr same ↦ subst (λ x. Contains held x) same (same_has one held e) ])
    by_case false e = (has_snoc held one other, snoc_has held one other)

pub dropped : (held : List HeldClaim) (owner : ℕ) (other : HeldClaim) → Contains (without_owner held owner) other ↔ (Contains held other × (other.owner ≢ owner))
dropped held owner other = (
  λ c. let t = has_filter (λ (h : HeldClaim). not (h.owner == owner)) held other c in (t.0, λ e. never (sym (ap not (eq-eqb other.owner owner e)) ∙ t.1)),
  λ c. filter_has (λ (h : HeldClaim). not (h.owner == owner)) held other c.0 (by_case (other.owner == owner) refl c.1),
)
  where
    by_case : (b : Bool) → (other.owner == owner) ≡ b → other.owner ≢ owner → not (other.owner == owner) ≡ true
    by_case false e ne = ap not e
    by_case true e ne = absurd (ne (eqb-true other.owner owner e))
