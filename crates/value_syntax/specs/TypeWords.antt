-- The words for types, and the numbers in words.
use Rattle.std.specs.Prelude.{ℕ, ◌-◌, nat_lt, nat_le, ◌&&◌, if◌then◌else◌, List, length, take, drop, Option, Some, None, codes}
use Rattle.std.specs.Option.{option_map, option_and_then}
use Rattle.std.specs.List.{list_all}
use Rattle.std.specs.Char.{is_digit}
use Rattle.std.specs.Str.{bytes_eq}
use Rattle.std.specs.Str.Parse.{digits_value}
use Rattle.value_syntax.specs.declared.type_word.TypeWord.{TypeWord}
use Rattle.value_syntax.specs.declared.type_word.TypeWord.TheVariants.{Text, ExpandText, Number, WideNumber, Texts, Bytes}

-- what is after a front, if a word begins with it; and what is before an end, if it ends with it
abbrev pub without_front : List ℕ → List ℕ → Option (List ℕ)
without_front front word = if bytes_eq (take (length front) word) front then Some (drop (length front) word) else None

abbrev pub without_end : List ℕ → List ℕ → Option (List ℕ)
without_end end word = if bytes_eq (drop (length word - length end) word) end then Some (take (length word - length end) word) else None

-- the number that one digit or more of a base parse to, if it is at most this
abbrev pub number_in : ℕ → ℕ → List ℕ → Option ℕ
number_in base most word =
    if nat_lt 0 (length word) && list_all (λ c. is_digit c base) word && nat_le (digits_value base word) most then Some (digits_value base word) else None

-- a number of at most this: hex digits after `0x`, else decimal digits
abbrev pub number_from : ℕ → List ℕ → Option (List ℕ) → Option ℕ
number_from most word None = number_in 10 most word
number_from most word (Some digits) = number_in 16 most digits

abbrev pub number_of : ℕ → List ℕ → Option ℕ
number_of most word = number_from most word (without_front (codes "0x") word)

-- the number of a type, of 1 to 8 hex digits
abbrev pub kind_of : List ℕ → Option ℕ
kind_of digits = if nat_le (length digits) 8 then number_in 16 0xffff_ffff digits else None

-- what is in the brackets of `hex(T)`
abbrev pub bracketed : List ℕ → Option (List ℕ)
bracketed word = option_and_then (without_end (codes ")")) (without_front (codes "hex(") word)

-- what a word for a type says of a value
abbrev pub type_of : List ℕ → Option TypeWord
type_of word =
    if bytes_eq word (codes "sz") then Some Text
    else if bytes_eq word (codes "expand") then Some ExpandText
    else if bytes_eq word (codes "dword") then Some Number
    else if bytes_eq word (codes "qword") then Some WideNumber
    else if bytes_eq word (codes "multi") then Some Texts
    else if bytes_eq word (codes "hex") then Some (Bytes 3)
    else option_map (λ kind. Bytes kind) (option_and_then kind_of (bracketed word))

-- the number of the type that a word for a type names
abbrev pub type_number : TypeWord → ℕ
type_number Text = 1
type_number ExpandText = 2
type_number Number = 4
type_number WideNumber = 11
type_number Texts = 7
type_number (Bytes kind) = kind
