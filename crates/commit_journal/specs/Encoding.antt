-- What a journal's bytes decode to, by their layout alone: nothing here depends on the order in which they were
-- written.
use Rattle.std.specs.Prelude.{◌≡◌, ℕ, zero, suc, ◌+◌, ◌-◌, List, [], ◌∷◌, ◌++◌, length, take, drop, Bool, true, ◌==◌, ◌&&◌, nat_le, nat_eq, if◌then◌else◌, Option, Some, None, option_map}
use Rattle.std.specs.Option.{option_and_then}
use Rattle.std.specs.List.{starts_with}
use Rattle.byteorder.specs.Endian.{little_number, little_bytes}
use Rattle.crash_model.specs.Changes.{Element}
use Rattle.crash_model.specs.Promises.{Content, nothing}
use Rattle.commit_journal.specs.declared.layout.TheConstants.{OPEN_GATE, MOST_BODY_BYTES}

-- What the layout takes from outside: the header of this store, the element that bytes begin with together with the
-- bytes after it, and the greatest number that an element may have.
pub record Encodings (Op : Type 0) : Type 0 where
  pub header : List ℕ
  pub read : List ℕ → Option (Element Op × List ℕ)
  pub most : ℕ

-- the elements of one batch, and the number of the first
pub record Body (Op : Type 0) : Type 0 where
  pub first : ℕ
  pub elements : List (Element Op)

-- this many elements, one after another, and the bytes after them
abbrev pub read_elements : {Op : Type 0} → (List ℕ → Option (Element Op × List ℕ)) → ℕ → List ℕ → Option (List (Element Op) × List ℕ)
read_elements read zero bytes = Some ([], bytes)
read_elements read (suc n) bytes = option_and_then (λ one. option_map (λ more. (one.0 ∷ more.0, more.1)) (read_elements read n one.1)) (read bytes)

-- the body of these elements, if nothing follows them
abbrev pub whole_body : {Op : Type 0} → ℕ → List (Element Op) × List ℕ → Option (Body Op)
whole_body first got = if length got.1 == 0 then Some (record { first = first; elements = got.0 }) else None

-- The body that all of these bytes are: its length (4 bytes), the number of its first element (8 bytes), the count of
-- its elements (4 bytes), and these.
abbrev pub body_of : {Op : Type 0} → Encodings Op → List ℕ → Option (Body Op)
body_of t bytes = option_and_then (whole_body (little_number 8 (drop 4 bytes))) (read_elements t.read (little_number 4 (drop 12 bytes)) (drop 16 bytes))

-- A body may have this length: its own fields are in it, it isn't above the greatest, and so many bytes are there.
abbrev pub is_body_length : ℕ → List ℕ → Bool
is_body_length len bytes = nat_le 16 len && (nat_le len MOST_BODY_BYTES && nat_le len (length bytes))

-- the body that bytes begin with, by its length, and the bytes after it
abbrev pub read_body : {Op : Type 0} → Encodings Op → List ℕ → Option (Body Op × List ℕ)
read_body t bytes = if is_body_length (little_number 4 bytes) bytes then option_map (λ body. (body, drop (little_number 4 bytes) bytes)) (body_of t (take (little_number 4 bytes) bytes)) else None

-- The bodies after open gates, up to the first gate that isn't open. `n` is more than there can be.
abbrev pub read_gates : {Op : Type 0} → Encodings Op → ℕ → List ℕ → Option (List (Body Op))
read_gates t zero bytes = None
read_gates t (suc n) [] = None
read_gates t (suc n) (gate ∷ bytes) = if gate == OPEN_GATE then option_and_then (λ got. option_map (λ more. got.0 ∷ more) (read_gates t n got.1)) (read_body t bytes) else Some []

-- bodies that continue from this number without a gap, each of at least one element
abbrev pub continue_at : {Op : Type 0} → ℕ → List (Body Op) → Bool
continue_at next [] = true
continue_at next (b ∷ bs) = (b.first == next) && (nat_le 1 (length b.elements) && continue_at (next + length b.elements) bs)

abbrev pub elements_of : {Op : Type 0} → List (Body Op) → List (Element Op)
elements_of [] = []
elements_of (b ∷ bs) = b.elements ++ elements_of bs

-- the bodies follow one another from 1 or more on, within the greatest number
abbrev pub are_numbered : {Op : Type 0} → ℕ → Body Op → List (Body Op) → Bool
are_numbered most b bs = nat_le 1 b.first && (continue_at b.first (b ∷ bs) && nat_le (b.first + length (elements_of (b ∷ bs))) (most + 1))

-- what bodies decode to: the elements of all of them in order, if they are numbered so
abbrev pub content_of_bodies : {Op : Type 0} → ℕ → List (Body Op) → Option (Content Op)
content_of_bodies most [] = Some nothing
content_of_bodies most (b ∷ bs) = if are_numbered most b bs then Some (record { below = b.first - 1; elements = elements_of (b ∷ bs) }) else None

-- What a journal's bytes decode to, if anything: after this store's header the bodies up to the first gate that isn't
-- open. What is after that gate is free.
unfoldable pub decoded : {Op : Type 0} → Encodings Op → List ℕ → Option (Content Op)
decoded t bytes = if starts_with nat_eq bytes t.header then option_and_then (content_of_bodies t.most) (read_gates t (length bytes) (drop 64 bytes)) else None

-- The grammar. These bytes are this body's, whatever follows.
abbrev pub IsBody : {Op : Type 0} → Encodings Op → List ℕ → Body Op → Type 0
IsBody t chunk b = (rest : List ℕ) → read_body t (chunk ++ rest) ≡ Some (b, rest)

-- an open gate before each of the bodies
abbrev pub AreGated : {Op : Type 0} → Encodings Op → List ℕ → List (Body Op) → Type 0
AreGated t bytes [] = bytes ≡ []
AreGated t bytes (b ∷ bs) = (chunk : List ℕ) × (rest : List ℕ) × (bytes ≡ OPEN_GATE ∷ chunk ++ rest) × IsBody t chunk b × AreGated t rest bs

-- The header and gated bodies that encode `now`, of `used` bytes: the gate that isn't open follows them.
pub record PrefixEncodes {Op : Type 0} (t : Encodings Op) (now : Content Op) (used : ℕ) (prefix : List ℕ) : Type 0 where
  pub head : length t.header ≡ 64
  pub bodies : List (Body Op)
  pub chain : List ℕ
  pub is : prefix ≡ t.header ++ chain
  pub gated : AreGated t chain bodies
  pub numbered : content_of_bodies t.most bodies ≡ Some now
  pub size : used ≡ length prefix

-- a body's bytes: its length with these 16 bytes, the first number, the count, and the elements' encodings
abbrev pub body_bytes : ℕ → ℕ → List ℕ → List ℕ
body_bytes first count encodings = little_bytes 4 (16 + length encodings) ++ little_bytes 8 first ++ little_bytes 4 count ++ encodings
