-- Which operations are legal, and which lists of them in order.
use Rattle.std.specs.Prelude.{◌≡◌, ℕ, ◌≤◌, List, [], ◌∷◌, ◌++◌, length, true, false}
use Rattle.std.specs.List.{AllByRecursion}
use Rattle.conflicts.specs.Skeleton.{Key, ProperlyBegins, Conflict, claim, Op, CreateKey, DeleteKey, SetValue, DeleteValue, Skeleton, apply}

-- some beginning of the path is there, and at most 32 names lead from it to the key
abbrev pub Near : Skeleton → Key → Type 0
Near s k = (q r : List (List ℕ)) × (k.path ≡ q ++ r) × (length r ≤ 32) × (s.there (record { hive = k.hive; path = q }) ≡ true)

-- an operation is legal, weights left out. A creation is of a key that is missing and near. A deletion is of a key that
-- is there, is not the root, is not protected and has no key below it. A value is written in a key that is there, and
-- deleted if the value is there.
abbrev pub Legal : Skeleton → Op → Type 0
Legal s (CreateKey k) = (s.there k ≡ false) × Near s k
Legal s (DeleteKey k) = (k.path ≡ [] → ⊥) × (s.there k ≡ true) × (s.protected k ≡ false) × ((l : Key) → ProperlyBegins k l → s.there l ≡ false)
Legal s (SetValue k v) = s.there k ≡ true
Legal s (DeleteValue k v) = (s.there k ≡ true) × (s.value k v ≡ true)

-- each is legal on the skeleton after those before it
abbrev pub LegalInOrder : List Op → Skeleton → Type 0
LegalInOrder [] s = Unit {0}
LegalInOrder (o ∷ os) s = Legal s o × LegalInOrder os (apply o s)

-- their claims do not conflict
abbrev pub DontConflict : Op → Op → Type 0
DontConflict a b = Conflict (claim a) (claim b) → ⊥

-- no claim of the first conflicts with one of the second
abbrev pub NoneConflict : List Op → List Op → Type 0
NoneConflict xs ys = AllByRecursion (λ a. AllByRecursion (λ b. DontConflict a b) ys) xs
