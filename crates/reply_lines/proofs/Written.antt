-- What a writer contains after one write and another.
use Rattle.std.proofs.Common.{◌≡◌, ℕ, List, [], ◌∷◌, ◌++◌, Option, Some, None, refl, sym, subst, ◌∙◌, ap, append_assoc}
use Rattle.std.specs.Prelude.{slice_index, ◌/◌, ◌%◌}
use Rattle.std.specs.Io.KnownBytes.{Appends}
use Rattle.std.proofs.lemmas.List.{append-nil}
use Rattle.hex.specs.Hex.{encode_with, encode_lower, lower_digits}

-- nothing was written
pub appends_nothing : (known : Option (List ℕ)) → Appends known known []
appends_nothing None = tt
appends_nothing (Some bytes) = sym (append-nil bytes)

-- one write and another
pub appends_more : (old mid new : Option (List ℕ)) (front back : List ℕ) → Appends old mid front → Appends mid new back → Appends old new (front ++ back)
appends_more None mid new front back a b = tt
appends_more (Some xs) None new front back a b = absurd a
appends_more (Some xs) (Some ys) None front back a b = absurd b
appends_more (Some xs) (Some ys) (Some zs) front back a b = b ∙ ap (λ bytes. bytes ++ back) a ∙ append_assoc xs front back

-- the same, of a text that is these two parts
pub appends_both : (old mid new : Option (List ℕ)) (front back whole : List ℕ) → Appends old mid front → Appends mid new back → front ++ back ≡ whole → Appends old new whole
appends_both old mid new front back whole a b e = subst (Appends old new) e (appends_more old mid new front back a b)

encode_both : (table front back : List ℕ) → encode_with table (front ++ back) ≡ encode_with table front ++ encode_with table back
unfolding encode_with
encode_both table [] back = refl
encode_both table (byte ∷ front) back = ap (λ digits. slice_index table (byte / 16) ∷ slice_index table (byte % 16) ∷ digits) (encode_both table front back)

-- the digits of bytes are those of their parts
pub encoded_in_parts : (front back : List ℕ) → encode_lower front ++ encode_lower back ≡ encode_lower (front ++ back)
encoded_in_parts front back = sym (encode_both lower_digits front back)

-- no bytes have no digits
pub appends_no_digits : (known : Option (List ℕ)) → Appends known known (encode_lower [])
unfolding encode_with
appends_no_digits known = appends_nothing known
