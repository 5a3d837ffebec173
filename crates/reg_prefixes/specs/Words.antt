-- Which words name prefixes: PREFIX=HIVE and PREFIX=HIVE:PATH; and which prefixes may stand beside each other.
use Rattle.std.specs.Prelude.{ℕ, ◌+◌, ◌-◌, ◌*◌, ◌==◌, nat_le, not, ◌&&◌, Bool, true, false, if◌then◌else◌, List, [], ◌∷◌, ◌++◌, length, map, take, drop, position, Option, Some, None, is_none, codes}
use Rattle.std.specs.List.{list_all, range_with_len}
use Rattle.std.specs.Option.{option_map, option_and_then}
use Rattle.std.specs.Result.{is_ok}
use Rattle.std.specs.Borrow.{Bor}
use Rattle.std.specs.Fmt.{decimal}
use Rattle.refusals.specs.declared.limits.TheConstants.{MOST_HIVES}
use Rattle.reg_names.specs.Names.{path_of}
use Rattle.reg_prefixes.specs.declared.prefix.Prefix.{Prefix}
use Rattle.reg_prefixes.specs.declared.rule.Rule.{Rule}
use Rattle.reg_prefixes.specs.declared.rule.Rule.TheVariants.{Distinct, Apart}
use Rattle.reg_prefixes.specs.Places.{begins}

-- what a prefix says: its text, the number of a hive, and the path of a key there
abbrev pub Meaning : Type 0
Meaning = List ℕ × ℕ × List ℕ

abbrev pub meaning_of : Prefix → Meaning
meaning_of prefix = (prefix.text.items, prefix.hive, prefix.key.items)

-- the value of a decimal digit
abbrev pub decimal_digit : ℕ → Option ℕ
decimal_digit unit = if nat_le 48 unit && nat_le unit 57 then Some (unit - 48) else None

-- the number of a hive, in one or two digits: at most 15
abbrev pub two_digits : Option ℕ → Option ℕ → Option ℕ
two_digits (Some ten) (Some one) = if nat_le (10 * ten + one) 15 then Some (10 * ten + one) else None
two_digits (Some ten) None = None
two_digits None one = None

abbrev pub hive_number : List ℕ → Option ℕ
hive_number [] = None
hive_number (one ∷ []) = decimal_digit one
hive_number (ten ∷ one ∷ []) = two_digits (decimal_digit ten) (decimal_digit one)
hive_number (first ∷ second ∷ third ∷ units) = None

-- a text before and behind its first colon
abbrev pub colon_parts : List ℕ → Option ℕ → List ℕ × List ℕ
colon_parts text None = (text, [])
colon_parts text (Some at) = (take at text, drop (at + 1) text)

-- what HIVE or HIVE:PATH names
abbrev pub numbered : List ℕ × List ℕ → Option (ℕ × List ℕ)
numbered parts = option_map (λ hive. (hive, parts.1)) (hive_number parts.0)

abbrev pub target_of : List ℕ → Option (ℕ × List ℕ)
target_of text = numbered (colon_parts text (position (λ unit. unit == 58) text))

-- what is named behind this unit, if it is an equals sign
abbrev pub named_behind : ℕ → List ℕ → Option (ℕ × List ℕ)
named_behind unit rest = if unit == 61 then target_of rest else None

abbrev pub onto_text : List ℕ → Option Meaning → Option Meaning
onto_text front found = option_map (λ meaning. (front ++ meaning.0, meaning.1, meaning.2)) found

abbrev pub here_or_later : Option (ℕ × List ℕ) → Option Meaning → Option Meaning
here_or_later None later = later
here_or_later (Some target) later = Some ([], target.0, target.1)

-- a word is parted at the first equals sign behind which a hive's number is all, or stands before a colon
abbrev pub parted : List ℕ → Option Meaning
parted [] = None
parted (unit ∷ rest) = here_or_later (named_behind unit rest) (onto_text (unit ∷ []) (parted rest))

-- a prefix begins with no minus and no digit
abbrev pub may_begin : List ℕ → Bool
may_begin [] = false
may_begin (unit ∷ rest) = not (unit == 45) && is_none (decimal_digit unit)

-- the prefix and the path behind the colon are paths of calls
abbrev pub is_sound : List ℕ → List ℕ → Bool
is_sound text key = may_begin text && (is_ok (path_of text) && is_ok (path_of key))

abbrev pub if_sound : Meaning → Option Meaning
if_sound meaning = if is_sound meaning.0 meaning.2 then Some meaning else None

-- what a word says, if it names a prefix
abbrev pub word_meaning : List ℕ → Option Meaning
word_meaning word = option_and_then if_sound (parted word)

-- what words say, if each names a prefix
abbrev pub onto_meanings : Option Meaning → Option (List Meaning) → Option (List Meaning)
onto_meanings None rest = None
onto_meanings (Some meaning) rest = option_map (λ meanings. meaning ∷ meanings) rest

abbrev pub word_meanings : List (Bor (List ℕ)) → Option (List Meaning)
word_meanings [] = Some []
word_meanings (word ∷ words) = onto_meanings (word_meaning word.now) (word_meanings words)

-- `HIVE0` to `HIVE15`, which lead to the roots of these hives
abbrev pub default_meaning : ℕ → Meaning
default_meaning hive = (codes "HIVE" ++ decimal hive, hive, [])

abbrev pub default_meanings : List Meaning
default_meanings = map default_meaning (range_with_len 0 MOST_HIVES)

-- two prefixes aren't the same: they aren't as long, or none begins the other
abbrev pub are_distinct : Meaning → Meaning → Bool
are_distinct prefix other = not (length prefix.0 == length other.0 && begins prefix.0 other.0)

-- neither of two prefixes begins the other
abbrev pub are_apart : Meaning → Meaning → Bool
are_apart prefix other = not (begins prefix.0 other.0) && not (begins other.0 prefix.0)

-- each two of them are so
abbrev pub are_pairwise : (Meaning → Meaning → Bool) → List Meaning → Bool
are_pairwise fit [] = true
are_pairwise fit (prefix ∷ prefixes) = list_all (fit prefix) prefixes && are_pairwise fit prefixes

-- all lead to roots
abbrev pub leads_to_a_root : Meaning → Bool
leads_to_a_root prefix = length prefix.2 == 0

-- the prefixes of words, and the default ones behind them, if they pass a test
abbrev pub if_passed : (List Meaning → Bool) → Option (List Meaning) → Option (List Meaning)
if_passed test None = None
if_passed test (Some meanings) = if test (meanings ++ default_meanings) then Some (meanings ++ default_meanings) else None

-- the prefixes that lead to keys: no two are the same
abbrev pub key_prefixes : List (Bor (List ℕ)) → Option (List Meaning)
key_prefixes words = if_passed (are_pairwise are_distinct) (word_meanings words)

-- the prefixes that show hives: none begins another, and each leads to a root
abbrev pub hive_prefixes : List (Bor (List ℕ)) → Option (List Meaning)
hive_prefixes words = if_passed (λ meanings. are_pairwise are_apart meanings && list_all leads_to_a_root meanings) (word_meanings words)

-- by which rule prefixes stand beside each other
abbrev pub fits_by : Rule → Meaning → Meaning → Bool
fits_by Distinct = are_distinct
fits_by Apart = are_apart
