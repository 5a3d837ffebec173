-- Names of units of work: each is one, no two units have the same, and folding keeps them apart.
use Rattle.std.proofs.Common.{◌≡◌, ◌⊎◌, inl, inr, ℕ, zero, suc, ◌+◌, ◌*◌, ◌/◌, ◌%◌, ◌<◌, ◌≤◌, ◌==◌, ◌&&◌, ◌||◌, nat_le, Bool, true, false, List, [], ◌∷◌, map, length, slice_index, if◌then◌else◌, All, Option, Some, None, unwrap_or, refl, sym, ◌∙◌, ap, subst, arith}
use Rattle.std.specs.List.{list_all}
use Rattle.std.proofs.lemmas.Bool.{cases_lt, and_parts, or_left, or_right, and_from, cases_Bool, eqb-true, eq-eqb, ne_eqb, le-leb}
use Rattle.std.proofs.lemmas.List.{get_or_default}
use Rattle.std.proofs.lemmas.Bool.Decides.{nat_tests}
use Rattle.reg_names.specs.Names.{fold_unit, folded, is_name_unit, is_value_name}
use Rattle.refusals.specs.declared.limits.TheConstants.{MOST_VALUE_NAME_UNITS}
use Rattle.uuid.specs.Text.{by_index, lower, hex_digit, nibble, digits_of, has_hyphens, hyphen, hyphen_place, digit_place, is_hyphen_place, parsed, parsed_simple, parsed_hyphenated, value_of, is_hex_digit, byte_of_digits}
use Rattle.uuid.proofs.TextLemmas.{by_index_length, by_index_at, by_index_same, nibble_small}
use Rattle.uuid.proofs.RoundTrips.{parses_hyphenated_text}
use Rattle.commit_outcomes.specs.Units.{unit_name, is_lower_digit, is_text_unit, is_unit_name}

-- a test that each element passes by its place
pub all_at : (p : ℕ → Bool) (xs : List ℕ) → ((k : ℕ) → k < length xs → p (slice_index xs k) ≡ true) → list_all p xs ≡ true
all_at p [] h = refl
all_at p (x ∷ xs) h = and_from (p x) (list_all p xs) (h 0 (omega arith)) (all_at p xs (λ k lt. h (suc k) (omega (arith, lt))))

pub at_all : (p : ℕ → Bool) (xs : List ℕ) → list_all p xs ≡ true → (k : ℕ) → k < length xs → p (slice_index xs k) ≡ true
at_all p [] h k lt = absurd (omega (arith, lt))
at_all p (x ∷ xs) h zero lt = (and_parts (p x) (list_all p xs) h).0
at_all p (x ∷ xs) h (suc k) lt = at_all p xs (and_parts (p x) (list_all p xs) h).1 k (omega (arith, lt))

hyphen_at : (id : List ℕ) (k : ℕ) → k < 36 → slice_index (unit_name id) k ≡ (if is_hyphen_place k then 45 else hex_digit lower (nibble id (digit_place k)))
hyphen_at id k within = by_index_at 36 (λ j. if is_hyphen_place j then 45 else hex_digit lower (nibble id (digit_place j))) k 0 within

low_digit : (d : ℕ) → d < 16 → is_lower_digit (hex_digit lower d) ≡ true
low_digit d small = grind (arith, nat_tests)

digit_at : (id : List ℕ) (i : ℕ) → i < 32 → is_lower_digit (slice_index (unit_name id) (hyphen_place i)) ≡ true
digit_at id i within =
    let no_hyphen : is_hyphen_place (hyphen_place i) ≡ false = grind (arith, nat_tests) in
    rw (hyphen_at id (hyphen_place i) (grind (arith, nat_tests)), no_hyphen) (low_digit (nibble id (digit_place (hyphen_place i))) (nibble_small id (digit_place (hyphen_place i))))

-- each unit of work has a name
pub named : (id : List ℕ) → is_unit_name (unit_name id) ≡ true
named id =
    let name = unit_name id in
    let long : length name ≡ 36 = by_index_length 36 _ in
    let hyphens : has_hyphens name ≡ true = rw (hyphen_at id 8 (omega arith), hyphen_at id 13 (omega arith), hyphen_at id 18 (omega arith), hyphen_at id 23 (omega arith)) refl in
    let digits : list_all is_lower_digit (digits_of name) ≡ true =
    all_at is_lower_digit (digits_of name) (λ i lt.
    let within : i < 32 = subst (λ n. i < n) (by_index_length 32 (λ j. slice_index name (hyphen_place j))) lt in
    ap is_lower_digit (by_index_at 32 (λ j. slice_index name (hyphen_place j)) i 0 within) ∙ digit_at id i within) in
    let is_long : (length name == 36) ≡ true = ap (λ n. n == 36) long in
    and_from (length name == 36) (has_hyphens name && list_all is_lower_digit (digits_of name)) is_long (and_from (has_hyphens name) (list_all is_lower_digit (digits_of name)) hyphens digits)

-- and no two have the same
pub apart : (one two : List ℕ) → length one ≡ 16 → length two ≡ 16 → All (λ b. b < 256) one → All (λ b. b < 256) two → unit_name one ≡ unit_name two → one ≡ two
apart one two l m small tiny e =
    let is : Some one ≡ Some two = parses_hyphenated_text lower one (inl refl) l small ∙ ap parsed_hyphenated e ∙ sym (parses_hyphenated_text lower two (inl refl) m tiny) in
    ap (λ o. unwrap_or o []) is

-- A unit of a name is a hyphen or a digit, and folding keeps these apart
hyphen_here : (name : List ℕ) (k : ℕ) → has_hyphens name ≡ true → is_hyphen_place k ≡ true → slice_index name k ≡ 45
hyphen_here name k has here =
    let a = and_parts _ _ has in
    let b = and_parts _ _ a.0 in
    let c = and_parts _ _ b.0 in
    let at8 : slice_index name 8 ≡ 45 = eqb-true _ _ c.0 in
    let at13 : slice_index name 13 ≡ 45 = eqb-true _ _ c.1 in
    let at18 : slice_index name 18 ≡ 45 = eqb-true _ _ b.1 in
    let at23 : slice_index name 23 ≡ 45 = eqb-true _ _ a.1 in
    let place : (k ≡ 8) ⊎ ((k ≡ 13) ⊎ ((k ≡ 18) ⊎ (k ≡ 23))) = grind (arith, nat_tests) in
    elim place [
      | inl e ↦ ap (slice_index name) e ∙ at8
      | inr more ↦ elim more [
        | inl e ↦ ap (slice_index name) e ∙ at13
        | inr more ↦ elim more [
          | inl e ↦ ap (slice_index name) e ∙ at18
          | inr e ↦ ap (slice_index name) e ∙ at23
        ]
      ]
    ]

text_at : (name : List ℕ) → is_unit_name name ≡ true → (k : ℕ) → k < 36 → is_text_unit (slice_index name k) ≡ true
text_at name is k within =
    let parts = and_parts (length name == 36) (has_hyphens name && list_all is_lower_digit (digits_of name)) is in
    let more = and_parts (has_hyphens name) (list_all is_lower_digit (digits_of name)) parts.1 in
    elim (cases_Bool (is_hyphen_place k)) [
      | inl here ↦ let e : slice_index name k ≡ 45 = hyphen_here name k more.0 here in or_left _ _ (ap (λ u. u == 45) e)
      | inr apart ↦
          let i = digit_place k in
          let back : hyphen_place i ≡ k = grind (arith, nat_tests) in
          let few : i < 32 = grind (arith, nat_tests) in
          let long : length (digits_of name) ≡ 32 = by_index_length 32 _ in
          let digit : is_lower_digit (slice_index (digits_of name) i) ≡ true = at_all is_lower_digit (digits_of name) more.1 i (omega (arith, few, long)) in
          let at : slice_index (digits_of name) i ≡ slice_index name (hyphen_place i) = by_index_at 32 (λ j. slice_index name (hyphen_place j)) i 0 few in
          or_right _ _ (ap is_lower_digit (sym (at ∙ ap (slice_index name) back)) ∙ digit)
    ]

pub unit_len : (name : List ℕ) → is_unit_name name ≡ true → length name ≡ 36
unit_len name is = eqb-true _ _ (and_parts (length name == 36) (has_hyphens name && list_all is_lower_digit (digits_of name)) is).0

fold_apart : (u v : ℕ) → ((u == 45) || is_lower_digit u) ≡ true → ((v == 45) || is_lower_digit v) ≡ true → fold_unit u ≡ fold_unit v → u ≡ v
fold_apart u v a b e = grind (arith, nat_tests)

lists_apart : (xs ys : List ℕ) → length xs ≡ length ys → ((k : ℕ) → k < length xs → ((slice_index xs k == 45) || is_lower_digit (slice_index xs k)) ≡ true)
    → ((k : ℕ) → k < length ys → ((slice_index ys k == 45) || is_lower_digit (slice_index ys k)) ≡ true) → map fold_unit xs ≡ map fold_unit ys → xs ≡ ys
lists_apart [] [] l a b e = refl
lists_apart [] (y ∷ ys) l a b e = absurd (omega (arith, l))
lists_apart (x ∷ xs) [] l a b e = absurd (omega (arith, l))
lists_apart (x ∷ xs) (y ∷ ys) l a b e =
    let first : fold_unit x ≡ fold_unit y = ap (λ zs. slice_index zs 0) e in
    let same : x ≡ y = fold_apart x y (a 0 (omega arith)) (b 0 (omega arith)) first in
    let rest : map fold_unit xs ≡ map fold_unit ys = cc in
    let more = lists_apart xs ys (omega (arith, l)) (λ k lt. a (suc k) (omega (arith, lt))) (λ k lt. b (suc k) (omega (arith, lt))) rest in
    λ i. same i ∷ more i

-- so names that fold to one are one
pub folds_apart : (one two : List ℕ) → is_unit_name one ≡ true → is_unit_name two ≡ true → folded one ≡ folded two → one ≡ two
folds_apart one two is is_too e =
    let long = unit_len one is in
    let wide = unit_len two is_too in
    lists_apart one two (long ∙ sym wide) (λ k lt. text_at one is k (omega (arith, lt, long))) (λ k lt. text_at two is_too k (omega (arith, lt, wide))) e

-- A name has units that a value's name may have

named_units : (name : List ℕ) → is_unit_name name ≡ true → list_all is_text_unit name ≡ true
named_units name is = all_at is_text_unit name (λ k lt. text_at name is k (omega (arith, lt, unit_len name is)))

may_stand : (u : ℕ) → is_text_unit u ≡ true → is_name_unit u ≡ true
may_stand u is = grind (arith, nat_tests)

pub names_value : (name : List ℕ) → is_unit_name name ≡ true → is_value_name name ≡ true
names_value name is =
    let long = unit_len name is in
    let short : length name ≤ MOST_VALUE_NAME_UNITS = omega (arith, long) in
    let each : list_all is_name_unit name ≡ true = all_at is_name_unit name (λ k lt. may_stand (slice_index name k) (text_at name is k (omega (arith, lt, long)))) in
    and_from (nat_le (length name) MOST_VALUE_NAME_UNITS) (list_all is_name_unit name) (le-leb (length name) MOST_VALUE_NAME_UNITS short) each

-- What a name parses to is the unit that has it

digit_again : (u : ℕ) → is_lower_digit u ≡ true → (value_of u < 16) × (hex_digit lower (value_of u) ≡ u) × (is_hex_digit u ≡ true)
digit_again u is = (grind (arith, nat_tests), grind (arith, nat_tests), grind (arith, nat_tests))

-- the half of a byte that two digits spell
nibble_back : (hex : List ℕ) (i : ℕ) → i < 32 → ((k : ℕ) → k < 32 → value_of (slice_index hex k) < 16) → nibble (by_index 16 (byte_of_digits hex)) i ≡ value_of (slice_index hex i)
nibble_back hex i within small = elim (cases_lt (i % 2) 1) [
  | inl even ↦
      let place : i ≡ 2 * (i / 2) = omega (arith, even) in
      let at : slice_index (by_index 16 (byte_of_digits hex)) (i / 2) ≡ byte_of_digits hex (i / 2) = by_index_at 16 (byte_of_digits hex) (i / 2) 0 (omega (arith, within)) in
      let low = small (2 * (i / 2) + 1) (omega (arith, within, place)) in
      let high = small (2 * (i / 2)) (omega (arith, within, place)) in
      let test : (i % 2 == 0) ≡ true = eq-eqb (i % 2) 0 (omega (arith, even)) in
      let half : byte_of_digits hex (i / 2) / 16 % 16 ≡ value_of (slice_index hex (2 * (i / 2))) = halves (value_of (slice_index hex (2 * (i / 2)))) (value_of (slice_index hex (2 * (i / 2) + 1))) high low in
      ap (λ b. if b then slice_index (by_index 16 (byte_of_digits hex)) (i / 2) / 16 % 16 else slice_index (by_index 16 (byte_of_digits hex)) (i / 2) % 16) test
      ∙ ap (λ n. n / 16 % 16) at ∙ half ∙ ap (λ k. value_of (slice_index hex k)) (sym place)
  | inr odd ↦
      let place : i ≡ 2 * (i / 2) + 1 = omega (arith, odd) in
      let at : slice_index (by_index 16 (byte_of_digits hex)) (i / 2) ≡ byte_of_digits hex (i / 2) = by_index_at 16 (byte_of_digits hex) (i / 2) 0 (omega (arith, within)) in
      let low = small (2 * (i / 2) + 1) (omega (arith, within, place)) in
      let test : (i % 2 == 0) ≡ false = ne_eqb (i % 2) 0 (λ e. omega (arith, e, odd)) in
      let half : byte_of_digits hex (i / 2) % 16 ≡ value_of (slice_index hex (2 * (i / 2) + 1)) = lower_half (value_of (slice_index hex (2 * (i / 2)))) (value_of (slice_index hex (2 * (i / 2) + 1))) low in
      ap (λ b. if b then slice_index (by_index 16 (byte_of_digits hex)) (i / 2) / 16 % 16 else slice_index (by_index 16 (byte_of_digits hex)) (i / 2) % 16) test
      ∙ ap (λ n. n % 16) at ∙ half ∙ ap (λ k. value_of (slice_index hex k)) (sym place)
]
  where
    halves : (a b : ℕ) → a < 16 → b < 16 → (a * 16 + b) / 16 % 16 ≡ a
    halves a b h l = omega (arith, h, l)

    lower_half : (a b : ℕ) → b < 16 → (a * 16 + b) % 16 ≡ b
    lower_half a b l = omega (arith, l)

digits_low : (name : List ℕ) → is_unit_name name ≡ true → (k : ℕ) → k < 32 → is_lower_digit (slice_index (digits_of name) k) ≡ true
digits_low name is k within =
    let parts = and_parts (length name == 36) (has_hyphens name && list_all is_lower_digit (digits_of name)) is in
    let more = and_parts (has_hyphens name) (list_all is_lower_digit (digits_of name)) parts.1 in
    at_all is_lower_digit (digits_of name) more.1 k (subst (λ n. k < n) (sym (by_index_length 32 (λ i. slice_index name (hyphen_place i)))) within)

unit_again : (name : List ℕ) → is_unit_name name ≡ true → unit_name (by_index 16 (byte_of_digits (digits_of name))) ≡ name
unit_again name is =
    let id = by_index 16 (byte_of_digits (digits_of name)) in
    let parts = and_parts (length name == 36) (has_hyphens name && list_all is_lower_digit (digits_of name)) is in
    let more = and_parts (has_hyphens name) (list_all is_lower_digit (digits_of name)) parts.1 in
    let long = unit_len name is in
    sym (by_index_same name 36 (λ k. if is_hyphen_place k then hyphen else hex_digit lower (nibble id (digit_place k))) long (λ k d within.
    get_or_default name k d 0 (omega (arith, within, long)) ∙ elim (cases_Bool (is_hyphen_place k)) [
      | inl here ↦ hyphen_here name k more.0 here ∙ sym (ap (λ b. if b then hyphen else hex_digit lower (nibble id (digit_place k))) here)
      | inr apart ↦
          let i = digit_place k in
          let back : hyphen_place i ≡ k = grind (arith, nat_tests) in
          let few : i < 32 = grind (arith, nat_tests) in
          let at : slice_index (digits_of name) i ≡ slice_index name (hyphen_place i) = by_index_at 32 (λ j. slice_index name (hyphen_place j)) i 0 few in
          let half : nibble id i ≡ value_of (slice_index (digits_of name) i) = nibble_back (digits_of name) i few (λ j lt. (digit_again (slice_index (digits_of name) j) (digits_low name is j lt)).0) in
          sym (ap (λ b. if b then hyphen else hex_digit lower (nibble id (digit_place k))) apart ∙ ap (hex_digit lower) half ∙ (digit_again (slice_index (digits_of name) i) (digits_low name is i few)).1 ∙ at ∙ ap (slice_index name) back)
    ]))

-- a name of a unit parses, to the unit that has it
pub parses : (name : List ℕ) → is_unit_name name ≡ true → (id : List ℕ) × (parsed name ≡ Some id) × (unit_name id ≡ name)
parses name is =
    let parts = and_parts (length name == 36) (has_hyphens name && list_all is_lower_digit (digits_of name)) is in
    let more = and_parts (has_hyphens name) (list_all is_lower_digit (digits_of name)) parts.1 in
    let long = unit_len name is in
    let digits : length (digits_of name) ≡ 32 = by_index_length 32 (λ i. slice_index name (hyphen_place i)) in
    let hex : list_all is_hex_digit (digits_of name) ≡ true = all_at is_hex_digit (digits_of name) (λ k lt. (digit_again (slice_index (digits_of name) k) (digits_low name is k (omega (arith, lt, digits)))).2) in
    let here : ((length name == 36) && has_hyphens name) ≡ true = and_from (length name == 36) (has_hyphens name) parts.0 more.0 in
    let there : ((length (digits_of name) == 32) && list_all is_hex_digit (digits_of name)) ≡ true = and_from (length (digits_of name) == 32) (list_all is_hex_digit (digits_of name)) (eq-eqb (length (digits_of name)) 32 digits) hex in (
      by_index 16 (byte_of_digits (digits_of name)),
      parsed_at name long ∙ ap (λ b. if b then parsed_simple (digits_of name) else None) here ∙ ap (λ b. if b then Some (by_index 16 (byte_of_digits (digits_of name))) else None) there,
      unit_again name is,
    )
  where
    parsed_at : (s : List ℕ) → length s ≡ 36 → parsed s ≡ parsed_hyphenated s
    parsed_at s len = rw len refl

-- A text of hyphens and low digits that parses is a name

low_of : (u : ℕ) → is_text_unit u ≡ true → is_hex_digit u ≡ true → is_lower_digit u ≡ true
low_of u text hex = grind (arith, nat_tests)

pub parsed_is : (text : List ℕ) → length text ≡ 36 → list_all is_text_unit text ≡ true → (id : List ℕ) → parsed text ≡ Some id → is_unit_name text ≡ true
parsed_is text long all id is = by_case (has_hyphens text) refl (list_all is_hex_digit (digits_of text)) refl
  where
    at : parsed text ≡ parsed_hyphenated text
    at = rw long refl

    length_is : (length text == 36) ≡ true
    length_is = eq-eqb (length text) 36 long

    by_case : (h : Bool) → has_hyphens text ≡ h → (d : Bool) → list_all is_hex_digit (digits_of text) ≡ d → is_unit_name text ≡ true
    by_case false hyphens d digits =
        let none : parsed text ≡ None = at ∙ ap (λ b. if b && has_hyphens text then parsed_simple (digits_of text) else None) length_is ∙ ap (λ b. if b then parsed_simple (digits_of text) else None) hyphens in
        absurd (let never : ⊥ = cc in never)
    by_case true hyphens false digits =
        let none : parsed text ≡ None =
        at ∙ ap (λ b. if b && has_hyphens text then parsed_simple (digits_of text) else None) length_is ∙ ap (λ b. if b then parsed_simple (digits_of text) else None) hyphens
        ∙ ap (λ b. if b && list_all is_hex_digit (digits_of text) then Some (by_index 16 (byte_of_digits (digits_of text))) else None) (eq-eqb (length (digits_of text)) 32 (by_index_length 32 (λ i. slice_index text (hyphen_place i))))
        ∙ ap (λ b. if b then Some (by_index 16 (byte_of_digits (digits_of text))) else None) digits in
        absurd (let never : ⊥ = cc in never)
    by_case true hyphens true digits =
        let low : list_all is_lower_digit (digits_of text) ≡ true = all_at is_lower_digit (digits_of text) (λ i lt.
        let within : i < 32 = subst (λ n. i < n) (by_index_length 32 (λ j. slice_index text (hyphen_place j))) lt in
        let at_i : slice_index (digits_of text) i ≡ slice_index text (hyphen_place i) = by_index_at 32 (λ j. slice_index text (hyphen_place j)) i 0 within in
        low_of (slice_index (digits_of text) i) (ap is_text_unit at_i ∙ at_all is_text_unit text all (hyphen_place i) (let far : hyphen_place i < 36 = grind (arith, nat_tests) in omega (arith, far, long))) (at_all is_hex_digit (digits_of text) digits i lt)) in
        and_from (length text == 36) (has_hyphens text && list_all is_lower_digit (digits_of text)) length_is (and_from (has_hyphens text) (list_all is_lower_digit (digits_of text)) hyphens low)

-- What is made of a text that may be a name's

abbrev pub text_if : List ℕ → Option (List ℕ)
text_if text = if (length text == 36) && list_all is_text_unit text then Some text else None

pub text_parts : (text got : List ℕ) → Some got ≡ text_if text → (got ≡ text) × (length text ≡ 36) × (list_all is_text_unit text ≡ true)
text_parts text got is = by_case ((length text == 36) && list_all is_text_unit text) refl is
  where
    by_case : (b : Bool) → ((length text == 36) && list_all is_text_unit text) ≡ b → Some got ≡ (if b then Some text else None) → (got ≡ text) × (length text ≡ 36) × (list_all is_text_unit text ≡ true)
    by_case true e same = let parts = and_parts (length text == 36) (list_all is_text_unit text) e in let one : got ≡ text = cc in (one, eqb-true (length text) 36 parts.0, parts.1)
    by_case false e same = absurd (let never : ⊥ = cc in never)

pub no_text : (text : List ℕ) → None ≡ text_if text → is_unit_name text ≡ false
no_text text is = by_case (is_unit_name text) refl
  where
    by_case : (b : Bool) → is_unit_name text ≡ b → b ≡ false
    by_case false e = refl
    by_case true e =
        let both : ((length text == 36) && list_all is_text_unit text) ≡ true = and_from (length text == 36) (list_all is_text_unit text) (eq-eqb (length text) 36 (unit_len text e)) (named_units text e) in
        let some : None ≡ Some text = is ∙ ap (λ b. if b then Some text else None) both in
        absurd (let never : ⊥ = cc in never)
