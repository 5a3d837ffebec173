-- The units that are parsed of a word are those by the grammar.
use Rattle.std.proofs.Common.{◌≡◌, ◌≢◌, ℕ, zero, suc, ◌≤◌, ◌==◌, Bool, true, false, cond, List, [], ◌∷◌, ◌++◌, length, take, drop, Option, Some, None, Result, Ok, Err, refl, sym, ◌∙◌, ap, subst, arith, inl, inr}
use Rattle.std.specs.Prelude.{nat_le, ◌⊎◌, IsOk, if◌then◌else◌}
use Rattle.std.specs.Option.{option_map, option_and_then}
use Rattle.std.specs.List.{position_or_len, AllByRecursion, list_all}
use Rattle.std.specs.Int.{from_be_bytes, w16}
use Rattle.std.proofs.lemmas.Option.{none-some}
use Rattle.std.proofs.lemmas.List.{take-append-drop, take-take, length-take, length-drop}
use Rattle.std.proofs.lemmas.List.Sums.{list_all-from_AllPass}
use Rattle.std.proofs.lemmas.Bool.{and_parts}
use Rattle.std.proofs.lemmas.Bool.Decides.{nat_tests, Decides-eqb}
use Rattle.hex.specs.Hex.{decode_sized, is_hex_digit}
use Rattle.hex.specs.declared.error.FromHexError.{FromHexError}
use Rattle.hex.proofs.HexLemmas.{IsOk-decode_sized}
use Rattle.word_syntax.specs.Parts.{before, behind, parts_of}
use Rattle.word_syntax.specs.HexBytes.{decoded}
use Rattle.script_syntax.specs.Words.{escaped_unit, escaped, all_escaped, units_of}
use Rattle.script_syntax.specs.Grammar.{IsPlain, IsEscape, SpellsUnits}
use Rattle.word_syntax.proofs.Cuts.{is_or_not, before_here, before_further, behind_here, behind_further, before_front, behind_front, parts_are}

pub map_some : {A B : Type 0} (f : A → B) (o : Option A) (y : B) → option_map f o ≡ Some y → (x : A) × (o ≡ Some x) × (f x ≡ y)
map_some f None y e = absurd (none-some y e)
map_some f (Some x) y e = (x, refl, same (f x) y e)
  where
    same : {C : Type 0} (a b : C) → Some a ≡ Some b → a ≡ b
    same a b h = cc

pub then_some : {A B : Type 0} (f : A → Option B) (o : Option A) (y : B) → option_and_then f o ≡ Some y → (x : A) × (o ≡ Some x) × (f x ≡ Some y)
then_some f None y e = absurd (none-some y e)
then_some f (Some x) y e = (x, refl, e)

in_front : (b : ℕ) (front : List ℕ) (rest : Option (List ℕ)) → option_map (λ units. (b ∷ front) ++ units) rest ≡ option_map (λ units. b ∷ units) (option_map (λ units. front ++ units) rest)
in_front b front None = refl
in_front b front (Some units) = refl

-- a byte that is no `%` in front
pub plain_front : (b : ℕ) (rest : List ℕ) → (b == 37) ≡ false → units_of (b ∷ rest) ≡ option_map (λ units. b ∷ units) (units_of rest)
plain_front b rest e =
    ap (λ front. option_map (λ units. front ++ units) (all_escaped (parts_of 37 (behind 37 (b ∷ rest))))) (before_further 37 b rest e)
    ∙ ap (λ others. option_map (λ units. (b ∷ before 37 rest) ++ units) (all_escaped (parts_of 37 others))) (behind_further 37 b rest e)
    ∙ in_front b (before 37 rest) (all_escaped (parts_of 37 (behind 37 rest)))

no_percent : (b : ℕ) (test : Bool) → (b == 37) ≡ test → is_hex_digit b ≡ true → test ≡ false
no_percent b true e h = let same = (Decides-eqb b 37).0 e in absurd (differs (subst (λ c. is_hex_digit c ≡ true) same h))
  where
    differs : false ≡ true → ⊥
    differs bad = cc
no_percent b false e h = refl

digits_plain : (digits : List ℕ) → list_all is_hex_digit digits ≡ true → AllByRecursion (λ b. (b == 37) ≡ false) digits
digits_plain [] h = tt
digits_plain (d ∷ ds) h =
    let parts = and_parts (is_hex_digit d) (list_all is_hex_digit ds) h in
    (no_percent d (d == 37) refl parts.0, digits_plain ds parts.1)

is_ok : {A E : Type 0} (r : Result A E) (x : A) → r ≡ Ok x → IsOk r
is_ok r x e = subst IsOk (sym e) refl

plain_digits : (digits pair : List ℕ) → decode_sized digits 2 ≡ Ok pair → AllByRecursion (λ b. (b == 37) ≡ false) digits
plain_digits digits pair e = digits_plain digits (list_all-from_AllPass is_hex_digit digits ((IsOk-decode_sized digits 2).0 (is_ok (decode_sized digits 2) pair e)).1)

take_four : (digits rest : List ℕ) → length digits ≡ 4 → take 4 (digits ++ rest) ≡ digits
take_four (a ∷ b ∷ c ∷ d ∷ []) rest e = refl
take_four [] rest e = absurd (omega (arith, e))
take_four (a ∷ []) rest e = absurd (omega (arith, e))
take_four (a ∷ b ∷ []) rest e = absurd (omega (arith, e))
take_four (a ∷ b ∷ c ∷ []) rest e = absurd (omega (arith, e))
take_four (a ∷ b ∷ c ∷ d ∷ f ∷ more) rest e = absurd (omega (arith, e))

drop_four : (digits rest : List ℕ) → length digits ≡ 4 → drop 4 (digits ++ rest) ≡ rest
drop_four (a ∷ b ∷ c ∷ d ∷ []) rest e = refl
drop_four [] rest e = absurd (omega (arith, e))
drop_four (a ∷ []) rest e = absurd (omega (arith, e))
drop_four (a ∷ b ∷ []) rest e = absurd (omega (arith, e))
drop_four (a ∷ b ∷ c ∷ []) rest e = absurd (omega (arith, e))
drop_four (a ∷ b ∷ c ∷ d ∷ f ∷ more) rest e = absurd (omega (arith, e))

at_least_four : (digits rest : List ℕ) → length digits ≡ 4 → nat_le 4 (length (digits ++ rest)) ≡ true
at_least_four (a ∷ b ∷ c ∷ d ∷ []) rest e = grind (arith, nat_tests)
at_least_four [] rest e = absurd (omega (arith, e))
at_least_four (a ∷ []) rest e = absurd (omega (arith, e))
at_least_four (a ∷ b ∷ []) rest e = absurd (omega (arith, e))
at_least_four (a ∷ b ∷ c ∷ []) rest e = absurd (omega (arith, e))
at_least_four (a ∷ b ∷ c ∷ d ∷ f ∷ more) rest e = absurd (omega (arith, e))

escaped_part : (digits pair rest : List ℕ) → length digits ≡ 4 → decode_sized digits 2 ≡ Ok pair → escaped (digits ++ rest) ≡ Some (from_be_bytes w16 pair ∷ rest)
escaped_part digits pair rest four e =
    ap (λ test. if test then escaped_unit (decoded (decode_sized (take 4 (digits ++ rest)) 2)) (drop 4 (digits ++ rest)) else None) (at_least_four digits rest four)
    ∙ ap (λ ds. escaped_unit (decoded (decode_sized ds 2)) (drop 4 (digits ++ rest))) (take_four digits rest four)
    ∙ ap (λ others. escaped_unit (decoded (decode_sized digits 2)) others) (drop_four digits rest four)
    ∙ ap (λ r. escaped_unit (decoded r) rest) e

onto_nothing : (o : Option (List ℕ)) → option_map (λ units. [] ++ units) o ≡ o
onto_nothing None = refl
onto_nothing (Some units) = refl

-- a `%` and four hex digits in front
pub escape_front : (digits pair rest : List ℕ) → length digits ≡ 4 → decode_sized digits 2 ≡ Ok pair → units_of (37 ∷ digits ++ rest) ≡ option_map (λ units. from_be_bytes w16 pair ∷ units) (units_of rest)
escape_front digits pair rest four e =
    let whole = digits ++ rest in
    let plain = plain_digits digits pair e in
    let here : (37 == 37) ≡ true = refl in
    ap (λ front. option_map (λ units. front ++ units) (all_escaped (parts_of 37 (behind 37 (37 ∷ whole))))) (before_here 37 37 whole here)
    ∙ onto_nothing (all_escaped (parts_of 37 (behind 37 (37 ∷ whole))))
    ∙ ap (λ others. all_escaped (parts_of 37 others)) (behind_here 37 37 whole here)
    ∙ ap all_escaped (parts_are 37 whole)
    ∙ ap (λ part. all_escaped (part ∷ parts_of 37 (behind 37 whole))) (before_front 37 digits rest plain)
    ∙ ap (λ others. all_escaped ((digits ++ before 37 rest) ∷ parts_of 37 others)) (behind_front 37 digits rest plain)
    ∙ ap (λ front. option_and_then (λ f. option_map (λ more. f ++ more) (all_escaped (parts_of 37 (behind 37 rest)))) front) (escaped_part digits pair (before 37 rest) four e)
    ∙ in_front (from_be_bytes w16 pair) (before 37 rest) (all_escaped (parts_of 37 (behind 37 rest)))

no_such : (b : ℕ) (test : Bool) → (b == 37) ≡ test → (b ≢ 37) → test ≡ false
no_such b true e h = absurd (h ((Decides-eqb b 37).0 e))
no_such b false e h = refl

-- the units of a word by the grammar are parsed
pub read_units : (word units : List ℕ) → SpellsUnits word units → units_of word ≡ Some units
read_units word [] e = ap units_of e
read_units word (unit ∷ units) (piece, rest, e, inl plain, more) =
    ap units_of (e ∙ ap (λ front. front ++ rest) plain.1) ∙ plain_front unit rest (no_such unit (unit == 37) refl plain.0) ∙ ap (option_map (λ us. unit ∷ us)) (read_units rest units more)
read_units word (unit ∷ units) (piece, rest, e, inr escape, more) =
    ap units_of (e ∙ ap (λ front. front ++ rest) escape.parsed) ∙ escape_front escape.digits escape.pair rest escape.four escape.decoded
    ∙ ap (option_map (λ us. from_be_bytes w16 escape.pair ∷ us)) (read_units rest units more) ∙ ap (λ u. Some (u ∷ units)) (sym escape.is)

pub decoded_ok : (r : Result (List ℕ) FromHexError) (pair : List ℕ) → decoded r ≡ Some pair → r ≡ Ok pair
decoded_ok (Ok bytes) pair e = cc
decoded_ok (Err fault) pair e = absurd (none-some pair e)

pub test_some : {A : Type 0} (test : Bool) (o : Option A) (y : A) → cond test o None ≡ Some y → (test ≡ true) × (o ≡ Some y)
test_some true o y e = (refl, e)
test_some false o y e = absurd (none-some y e)

-- a word that begins with `%`: four hex digits follow it
pub percent_first : (rest units : List ℕ) → units_of (37 ∷ rest) ≡ Some units → (pair : List ℕ) × (4 ≤ length rest) × (decode_sized (take 4 rest) 2 ≡ Ok pair)
percent_first rest units e =
    let here : (37 == 37) ≡ true = refl in
    let all : all_escaped (before 37 rest ∷ parts_of 37 (behind 37 rest)) ≡ Some units =
    sym (ap (λ front. option_map (λ us. front ++ us) (all_escaped (parts_of 37 (behind 37 (37 ∷ rest))))) (before_here 37 37 rest here)
    ∙ onto_nothing (all_escaped (parts_of 37 (behind 37 (37 ∷ rest))))
    ∙ ap (λ others. all_escaped (parts_of 37 others)) (behind_here 37 37 rest here)
    ∙ ap all_escaped (parts_are 37 rest)) ∙ e in
    let first = then_some (λ front. option_map (λ more. front ++ more) (all_escaped (parts_of 37 (behind 37 rest)))) (escaped (before 37 rest)) units all in
    let long = test_some (nat_le 4 (length (before 37 rest))) (escaped_unit (decoded (decode_sized (take 4 (before 37 rest)) 2)) (drop 4 (before 37 rest))) first.0 first.1 in
    let pair = map_some (λ p. from_be_bytes w16 p ∷ drop 4 (before 37 rest)) (decoded (decode_sized (take 4 (before 37 rest)) 2)) first.0 long.1 in
    let four : 4 ≤ length (take (position_or_len (λ byte. byte == 37) rest) rest) = grind (arith, nat_tests, long.0) in
    let cut = length-take (position_or_len (λ byte. byte == 37) rest) rest in
    let key_ref : 4 ≤ position_or_len (λ byte. byte == 37) rest = omega (arith, four, cut) in
    let enough : 4 ≤ length rest = omega (arith, four, cut) in
    (pair.0, enough, ap (λ digits. decode_sized digits 2) (sym (take-take 4 (position_or_len (λ byte. byte == 37) rest) rest key_ref)) ∙ decoded_ok (decode_sized (take 4 (before 37 rest)) 2) pair.0 pair.1)

none_left : (units : List ℕ) → Some [] ≡ Some units → SpellsUnits [] units
none_left [] e = refl
none_left (unit ∷ units) e = cc

first_unit : (word piece rest units : List ℕ) (unit : ℕ) (more : List ℕ) → word ≡ piece ++ rest → (IsPlain piece unit ⊎ IsEscape piece unit) → unit ∷ more ≡ units → SpellsUnits rest more → SpellsUnits word units
first_unit word piece rest units unit more e form same others = subst (SpellsUnits word) same (piece, rest, e, form, others)

not_percent : (b : ℕ) → (b == 37) ≡ false → b ≢ 37
not_percent b e same = differs (sym e ∙ (Decides-eqb b 37).1 same)
  where
    differs : false ≡ true → ⊥
    differs bad = cc

shorter : (rest : List ℕ) (n : ℕ) → suc (length rest) ≤ suc n → length (drop 4 rest) ≤ n
shorter rest n h = let cut = length-drop 4 rest in omega (arith, h, cut)

-- units that are parsed of a word are its units by the grammar
parsed_within : (n : ℕ) (word units : List ℕ) → length word ≤ n → units_of word ≡ Some units → SpellsUnits word units
parsed_within n [] units h e = none_left units e
parsed_within zero (b ∷ rest) units h e = absurd (omega (arith, h))
parsed_within (suc n) (b ∷ rest) units h e = elim (is_or_not (b == 37)) [
  | inr plain ↦
      let found = map_some (λ us. b ∷ us) (units_of rest) units (sym (plain_front b rest plain) ∙ e) in
      first_unit (b ∷ rest) (b ∷ []) rest units b found.0 refl (inl (not_percent b plain, refl)) found.2 (parsed_within n rest found.0 (omega (arith, h)) found.1)
  | inl percent ↦
      let same = (Decides-eqb b 37).0 percent in
      let read : units_of (37 ∷ rest) ≡ Some units = ap (λ c. units_of (c ∷ rest)) (sym same) ∙ e in
      let first = percent_first rest units read in
      let digits = take 4 rest in
      let others = drop 4 rest in
      let whole : digits ++ others ≡ rest = take-append-drop 4 rest in
      let cut = length-take 4 rest in
      let four : length digits ≡ 4 = omega (arith, cut, first.1) in
      let found = map_some (λ us. from_be_bytes w16 first.0 ∷ us) (units_of others) units (sym (escape_front digits first.0 others four first.2) ∙ ap (λ xs. units_of (37 ∷ xs)) whole ∙ read) in
      first_unit (b ∷ rest) (37 ∷ digits) others units (from_be_bytes w16 first.0) found.0 (ap (λ c. c ∷ rest) same ∙ ap (λ xs. 37 ∷ xs) (sym whole))
      (inr (record { digits = digits; pair = first.0; parsed = refl; four = four; decoded = first.2; is = refl })) found.2
      (parsed_within n others found.0 (shorter rest n h) found.1)
]

pub parsed_units : (word units : List ℕ) → units_of word ≡ Some units → SpellsUnits word units
parsed_units word units e = parsed_within (length word) word units (omega arith) e
