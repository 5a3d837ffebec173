-- What words say, word by word.
use Rattle.std.proofs.Common.{◌≡◌, ◌≤◌, ℕ, zero, suc, ◌+◌, ◌-◌, List, [], ◌∷◌, ◌++◌, length, map, take, drop, Option, Some, None, refl, sym, ◌∙◌, ap, ap₂, append_assoc, zero-add, arith}
use Rattle.std.specs.Option.{option_map}
use Rattle.std.specs.List.{range_with_len}
use Rattle.std.proofs.lemmas.List.{length-drop, map-append}
use Rattle.std.proofs.lemmas.List.FromFn.{map-range_with_len_more}
use Rattle.reg_prefixes.specs.declared.prefix.Prefix.{Prefix}
use Rattle.reg_prefixes.specs.Words.{Meaning, meaning_of, default_meaning, onto_text, here_or_later, named_behind, parted}

-- what is found behind a text and a unit
onto_more_text : (front : List ℕ) (unit : ℕ) (found : Option Meaning) → onto_text front (onto_text (unit ∷ []) found) ≡ onto_text (front ++ unit ∷ []) found
onto_more_text front unit None = refl
onto_more_text front unit (Some meaning) = ap (λ text. Some (text, meaning.1, meaning.2)) (sym (append_assoc front (unit ∷ []) meaning.0))

-- the next unit of a text
next_unit : (text : List ℕ) (at unit : ℕ) (behind : List ℕ) → drop at text ≡ unit ∷ behind → (take (suc at) text ≡ take at text ++ unit ∷ []) × (drop (suc at) text ≡ behind)
next_unit [] zero unit behind e = absurd (none e)
  where
    none : ◌≡◌ {A = List ℕ} [] (unit ∷ behind) → ⊥
    none h = cc
next_unit [] (suc at) unit behind e = absurd (none e)
  where
    none : ◌≡◌ {A = List ℕ} [] (unit ∷ behind) → ⊥
    none h = cc
next_unit (first ∷ text) zero unit behind e = (ap (λ u. u ∷ []) (both e).0, (both e).1)
  where
    both : first ∷ text ≡ unit ∷ behind → (first ≡ unit) × (text ≡ behind)
    both h = (cc, cc)
next_unit (first ∷ text) (suc at) unit behind e = let later = next_unit text at unit behind e in (ap (λ units. first ∷ units) later.0, later.1)

-- behind a unit that names nothing
pub not_here : (word rest : List ℕ) (at unit : ℕ) (behind : List ℕ) → parted word ≡ onto_text (take at word) (parted rest) → rest ≡ unit ∷ behind → rest ≡ drop at word → named_behind unit behind ≡ None → (parted word ≡ onto_text (take (at + 1) word) (parted behind)) × (behind ≡ drop (at + 1) word)
not_here word rest at unit behind e r d none =
    let next = next_unit word at unit behind (sym d ∙ r) in
    let one : suc at ≡ at + 1 = omega arith in (
      e ∙ ap (λ units. onto_text (take at word) (parted units)) r ∙ ap (λ found. onto_text (take at word) (here_or_later found (onto_text (unit ∷ []) (parted behind)))) none
          ∙ onto_more_text (take at word) unit (parted behind) ∙ ap (λ front. onto_text front (parted behind)) (sym next.0 ∙ ap (λ n. take n word) one),
      sym next.1 ∙ ap (λ n. drop n word) one,
    )

pub still_within : (word rest behind : List ℕ) (at : ℕ) → rest ≡ drop at word → length behind + 1 ≡ length rest → at + 1 ≤ length word
still_within word rest behind at d long = let left : length rest ≡ length word - at = ap length d ∙ length-drop at word in omega (arith, long, left)

-- what further words say, behind the first ones
abbrev pub onto_front : List Meaning → Option (List Meaning) → Option (List Meaning)
onto_front front rest = option_map (λ meanings. front ++ meanings) rest

-- one more of the default prefixes
pub one_default : (old : List Meaning) (front items : List Prefix) (prefix : Prefix) (hive : ℕ) → map meaning_of front ≡ old ++ map default_meaning (range_with_len 0 hive) → items ≡ front ++ prefix ∷ [] → meaning_of prefix ≡ default_meaning hive → map meaning_of items ≡ old ++ map default_meaning (range_with_len 0 (hive + 1))
one_default old front items prefix hive e f g =
    ap (map meaning_of) f ∙ map-append meaning_of front (prefix ∷ []) ∙ ap₂ (λ xs m. xs ++ m ∷ []) e g ∙ append_assoc old (map default_meaning (range_with_len 0 hive)) (default_meaning hive ∷ [])
    ∙ ap (λ xs. old ++ xs) (sym (map-range_with_len_more default_meaning 0 hive hive (zero-add hive)))
