-- Parts of hex digits, one after another.
use Rattle.std.proofs.Common.{◌≡◌, ℕ, zero, suc, ◌<◌, List, [], ◌∷◌, ◌++◌, length, get_or, Option, Some, None, refl, sym, ◌∙◌, ap, subst, append_assoc, arith, Result, Ok, Err}
use Rattle.std.specs.Option.{option_map, option_and_then}
use Rattle.std.proofs.lemmas.List.{append-nil}
use Rattle.std.specs.Prelude.{◌==◌, if◌then◌else◌, false, IsErrAnd}
use Rattle.std.specs.List.{slice_split}
use Rattle.word_syntax.specs.Reads.{ReadsAs, RefusedAs}
use Rattle.word_syntax.specs.declared.parse_error.ParseError.{ParseError}
use Rattle.word_syntax.specs.declared.parse_error.ParseError.TheVariants.{NoMemory, NotUnderstood}
use Rattle.value_syntax.specs.Data.{pair_bytes, all_pair_bytes, hex_bytes}

-- the bytes of a part, before those of the parts after it
abbrev with_rest : Option (List ℕ) → Option (List ℕ) → Option (List ℕ)
with_rest part rest = option_and_then (λ front. option_map (λ bytes. front ++ bytes) rest) part

joined : (front back : List ℕ) (part : Option (List ℕ)) (rest : Option (List ℕ)) → option_map (λ bytes. bytes ++ back) (with_rest part rest) ≡ with_rest part (option_map (λ bytes. bytes ++ back) rest)
joined front back None rest = refl
joined front back (Some xs) None = refl
joined front back (Some xs) (Some ys) = ap (λ bytes. Some bytes) (append_assoc xs ys back)

-- one more part
pub one_more : (parts : List (List ℕ)) (part front back : List ℕ) → all_pair_bytes parts ≡ Some front → pair_bytes part ≡ Some back → all_pair_bytes (parts ++ part ∷ []) ≡ Some (front ++ back)
one_more parts part front back e f = appended parts ∙ ap (option_map (λ bytes. bytes ++ back)) e
  where
    appended : (some : List (List ℕ)) → all_pair_bytes (some ++ part ∷ []) ≡ option_map (λ bytes. bytes ++ back) (all_pair_bytes some)
    appended [] = ap (λ o. with_rest o (Some [])) f ∙ ap (λ bytes. Some bytes) (append-nil back)
    appended (first ∷ some) = ap (with_rest (pair_bytes first)) (appended some) ∙ sym (joined [] back (pair_bytes first) (all_pair_bytes some))

no_rest : (part : Option (List ℕ)) → with_rest part None ≡ None
no_rest None = refl
no_rest (Some bytes) = refl

-- a part that has no bytes
pub none_at : (parts : List (List ℕ)) (at : ℕ) (other : List ℕ) → at < length parts → pair_bytes (get_or parts at other) ≡ None → all_pair_bytes parts ≡ None
none_at [] at other h e = absurd (omega arith)
none_at (part ∷ parts) zero other h e = ap (λ o. with_rest o (all_pair_bytes parts)) e
none_at (part ∷ parts) (suc at) other h e = ap (with_rest (pair_bytes part)) (none_at parts at other (omega arith) e) ∙ no_rest (pair_bytes part)

-- some characters are parts with commas between
pub not_empty : (text : List ℕ) → (length text == 0) ≡ false → all_pair_bytes (slice_split (λ c. c == 44) text) ≡ hex_bytes text
not_empty text h = ap (λ b. if b then Some [] else all_pair_bytes (slice_split (λ c. c == 44) text)) (sym h)

-- a refusal of a part that is handed on
pub handed_on : {X Y : Type 0} (view : X → Y) (result : Result X ParseError) (parse_error : ParseError) (part : Option (List ℕ)) (whole : Option Y)
    → IsErrAnd result (λ e. e ≡ parse_error) → (part ≡ None → whole ≡ None) → RefusedAs parse_error part → ReadsAs view result whole
handed_on view (Ok x) parse_error part whole h none r = absurd h
handed_on view (Err e) NoMemory part whole h none r = subst (λ u. RefusedAs u whole) (sym h) tt
handed_on view (Err e) NotUnderstood part whole h none r = subst (λ u. RefusedAs u whole) (sym h) (none r)
