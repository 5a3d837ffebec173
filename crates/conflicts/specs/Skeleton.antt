-- Keys, claims, operations, and what of the trees decides whether an operation is legal.
use Rattle.std.specs.Prelude.{◌≡◌, ◌⊎◌, ℕ, List, [], ◌∷◌, ◌++◌, Bool, true, false, eqb, if◌then◌else◌}

-- a key's hive, and its path of folded names
pub record Key : Type 0 where
  pub hive : ℕ
  pub path : List (List ℕ)

-- the root of a hive
abbrev pub root_key : ℕ → Key
root_key hive = record { hive = hive; path = [] }

abbrev pub Same : Key → Key → Type 0
Same k l = (k.hive ≡ l.hive) × (k.path ≡ l.path)

-- l is k or below it
abbrev pub Begins : Key → Key → Type 0
Begins k l = (k.hive ≡ l.hive) × ((r : List (List ℕ)) × (l.path ≡ k.path ++ r))

-- l is below k
abbrev pub ProperlyBegins : Key → Key → Type 0
ProperlyBegins k l = (k.hive ≡ l.hive) × ((n : List ℕ) × (r : List (List ℕ)) × (l.path ≡ k.path ++ n ∷ r))

-- the same as tests: of names, of paths, and of keys
abbrev pub same_name : List ℕ → List ℕ → Bool
same_name [] [] = true
same_name [] (y ∷ ys) = false
same_name (x ∷ xs) [] = false
same_name (x ∷ xs) (y ∷ ys) = if eqb x y then same_name xs ys else false

abbrev pub begins_path : List (List ℕ) → List (List ℕ) → Bool
begins_path [] q = true
begins_path (x ∷ p) [] = false
begins_path (x ∷ p) (y ∷ q) = if same_name x y then begins_path p q else false

abbrev pub same_path : List (List ℕ) → List (List ℕ) → Bool
same_path [] [] = true
same_path [] (y ∷ q) = false
same_path (x ∷ p) [] = false
same_path (x ∷ p) (y ∷ q) = if same_name x y then same_path p q else false

abbrev pub same_key : Key → Key → Bool
same_key k l = if eqb k.hive l.hive then same_path k.path l.path else false

abbrev pub begins_key : Key → Key → Bool
begins_key k l = if eqb k.hive l.hive then begins_path k.path l.path else false

-- how an operation claims its key
pub data ClaimKind : Type 0 where
  Shape : ClaimKind
  Hold : ClaimKind

-- what an operation claims
pub record Claim : Type 0 where
  pub kind : ClaimKind
  pub key : Key

-- two claims conflict if their keys are the same, or one is a Shape and the other's key is below its key
abbrev pub Conflict : Claim → Claim → Type 0
Conflict c d = Same c.key d.key ⊎ (((c.kind ≡ Shape) × ProperlyBegins c.key d.key) ⊎ ((d.kind ≡ Shape) × ProperlyBegins d.key c.key))

-- an operation on a key; the name of a value is folded
pub data Op : Type 0 where
  CreateKey : Key → Op
  DeleteKey : Key → Op
  SetValue : Key → List ℕ → Op
  DeleteValue : Key → List ℕ → Op

-- a creation and a deletion of a key claim it by Shape, a change of a value by Hold
abbrev pub claim : Op → Claim
claim (CreateKey k) = record { kind = Shape; key = k }
claim (DeleteKey k) = record { kind = Shape; key = k }
claim (SetValue k v) = record { kind = Hold; key = k }
claim (DeleteValue k v) = record { kind = Hold; key = k }

-- what of the trees decides whether an operation is legal: which keys are there, which of them are protected from
-- deletion, and which values they have
pub record Skeleton : Type 0 where
  pub there : Key → Bool
  pub protected : Key → Bool
  pub value : Key → List ℕ → Bool

-- what an operation makes and removes: a CreateKey all missing levels, a DeleteKey the key and its values
abbrev pub makes : Op → Key → Bool
makes (CreateKey k) x = begins_key x k
makes (DeleteKey k) x = false
makes (SetValue k v) x = false
makes (DeleteValue k v) x = false

abbrev pub removes : Op → Key → Bool
removes (CreateKey k) x = false
removes (DeleteKey k) x = same_key x k
removes (SetValue k v) x = false
removes (DeleteValue k v) x = false

-- whether a value of a key is the value v of the key k
abbrev pub is_value : Key → List ℕ → Key → List ℕ → Bool
is_value k v x w = if same_key x k then same_name w v else false

-- the values that an operation makes and removes
abbrev pub makes_value : Op → Key → List ℕ → Bool
makes_value (CreateKey k) x w = false
makes_value (DeleteKey k) x w = false
makes_value (SetValue k v) x w = is_value k v x w
makes_value (DeleteValue k v) x w = false

abbrev pub removes_value : Op → Key → List ℕ → Bool
removes_value (CreateKey k) x w = false
removes_value (DeleteKey k) x w = same_key x k
removes_value (SetValue k v) x w = false
removes_value (DeleteValue k v) x w = is_value k v x w

-- whether something is there afterwards, by whether it was, is made and is removed
abbrev pub after : Bool → Bool → Bool → Bool
after was made removed = if removed then false else (if made then true else was)

-- the skeleton after an operation; a key that is made is not protected, as it was not while it was missing
abbrev pub apply : Op → Skeleton → Skeleton
apply o s = record {
  there = λ x. after (s.there x) (makes o x) (removes o x);
  protected = λ x. after (s.protected x) false (removes o x);
  value = λ x w. after (s.value x w) (makes_value o x w) (removes_value o x w);
}

-- the skeleton after operations, one after another
abbrev pub applied : List Op → Skeleton → Skeleton
applied [] s = s
applied (o ∷ os) s = applied os (apply o s)
