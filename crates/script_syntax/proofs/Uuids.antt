-- What the parser of UUIDs answers.
use Rattle.std.proofs.Common.{◌≡◌, ℕ, List, Option, Some, None, refl, sym}
use Rattle.uuid.specs.Text.{parsed}
use Rattle.script_syntax.specs.Words.{uuid_of}

-- a text that is parsed
pub is_read : (word id : List ℕ) → Some id ≡ parsed word → uuid_of word ≡ Some id
unfolding uuid_of
is_read word id e = sym e

none_of : (found : Option (List ℕ)) → ((id : List ℕ) × (found ≡ Some id) → ⊥) → found ≡ None
none_of None h = refl
none_of (Some id) h = absurd (h (id, refl))

-- a text that isn't
pub is_none : (word : List ℕ) → ((id : List ℕ) × (parsed word ≡ Some id) → ⊥) → uuid_of word ≡ None
unfolding uuid_of
is_none word h = none_of (parsed word) h
