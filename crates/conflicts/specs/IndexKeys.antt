-- The index keys of claims: encodings of keys. The encoding of a key extends the encoding of each key above it.
use Rattle.std.specs.Prelude.{◌≡◌, ℕ, ◌<◌, min, List, [], ◌∷◌, ◌++◌, map, filter}
use Rattle.std.specs.Global.{Vec}
use Rattle.std.specs.Ordering.{nat_cmp, ordering_then}
use Rattle.std.specs.Cmp.Lexicographic.{slice_cmp}
use Rattle.std.specs.declared.cmp.Ordering.{Ordering}
use Rattle.std.specs.declared.ops.Bound.TheVariants.{Included}
use Rattle.std.specs.BTreeMap.Range.{range_contains}
use Rattle.std.specs.List.{fold}
use Rattle.std.specs.Hash as fed
use Rattle.std.specs.Hash.DefaultHasher as sip
use Rattle.std.specs.declared.hash.DefaultHasher.{DefaultHasher}
use Rattle.conflicts.specs.Skeleton.{Key, ClaimKind, Shape, Hold, Claim}

-- a name's encoding: its folded units, each at most 65,534, and a backslash
abbrev pub name_text : List ℕ → List ℕ
name_text name = map (λ u. min u 65534) name ++ 92 ∷ []

-- a path's encoding: those of its names in order
abbrev pub path_text : List (List ℕ) → List ℕ
path_text [] = []
path_text (name ∷ path) = name_text name ++ path_text path

-- a key's encoding: its hive's number and its path's encoding
abbrev pub key_text : Key → List ℕ
key_text key = key.hive ∷ path_text key.path

-- the encoding in a claim's index key: the encoding of its key, and a zero that ends the path
abbrev pub index_key_text : Claim → List ℕ
index_key_text claim = key_text claim.key ++ 0 ∷ []

-- the bound below which the encoding in an index key extends that of a claim's key, if the two may conflict: for a
-- Shape the bound for all keys at or below it, for a Hold the bound for the key itself
abbrev pub past_of : ClaimKind → ℕ
past_of Shape = 65535
past_of Hold = 1

-- an encoding extends another with a unit below a bound
abbrev pub ExtendsBelow : List ℕ → ℕ → List ℕ → Type 0
ExtendsBelow text past longer = (u : ℕ) × (rest : List ℕ) × (u < past) × (longer ≡ text ++ u ∷ rest)

-- an index key: an encoding and a number, in the order of encodings and then of numbers
abbrev pub IndexKey : Type 0
IndexKey = Vec ℕ × ℕ

abbrev pub index_key_order : IndexKey → IndexKey → Ordering
index_key_order s t = ordering_then (slice_cmp nat_cmp s.0.items t.0.items) (nat_cmp s.1 t.1)

-- the numbers of the index keys from one to another, both included
abbrev pub numbers_between : IndexKey → IndexKey → List IndexKey → List ℕ
numbers_between from to index_keys = map (λ s. s.1) (filter (λ s. range_contains index_key_order (Included from) (Included to) s) index_keys)

-- pairs of numbers, by the first and then the second
abbrev pub pair_order : ℕ × ℕ → ℕ × ℕ → Ordering
pair_order p q = ordering_then (nat_cmp p.0 q.0) (nat_cmp p.1 q.1)

-- the numbers of the pairs with a first one
abbrev pub numbers_under : ℕ → List (ℕ × ℕ) → List ℕ
numbers_under first pairs = map (λ p. p.1) (filter (λ p. range_contains pair_order (Included (first, 0)) (Included (first, 18446744073709551615)) p) pairs)

-- a hasher's state after the units of an encoding, one after another
abbrev pub hasher_after : DefaultHasher → List ℕ → DefaultHasher
hasher_after state text = fold (λ s u. fold sip.write s (fed.u16 u)) state text

-- an encoding's hash: SipHash-1-3 of its units
abbrev pub text_hash : List ℕ → ℕ
text_hash text = sip.finish (hasher_after sip.initial text)
