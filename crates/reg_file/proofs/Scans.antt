-- What is scanned of a line, step by step.
use Rattle.std.proofs.Common.{◌≡◌, ◌≢◌, ℕ, ◌+◌, ◌-◌, ◌*◌, ◌==◌, Bool, true, false, cond, ◌||◌, List, [], ◌∷◌, ◌++◌, Option, Some, None, refl, sym, ◌∙◌, ap, append_assoc}
use Rattle.std.proofs.lemmas.Bool.Decides.{Decides-eqb}
use Rattle.reg_file.specs.Scanning.{QuoteScan, QuoteCloses, QuoteStaysOpen, NoQuote, quote_at, onto_quote, is_blank, ends_statement, digits_from, digit_of, pair_from, pair_at, onto_pair, Before, Within, Behind, list_at, ListScan, ListEnds, ListGoesOn, NoList, onto_list}

pub other_than : (a b : ℕ) → a ≢ b → (a == b) ≡ false
other_than a b h = test (a == b) refl
  where
    test : (t : Bool) → (a == b) ≡ t → t ≡ false
    test true e = absurd (h ((Decides-eqb a b).0 e))
    test false e = refl

pub pair_same : (a b : ℕ) (x y : List ℕ) → ◌≡◌ {A = Option (ℕ × List ℕ)} (Some (a, x)) (Some (b, y)) → (a ≡ b) × (x ≡ y)
pair_same a b x y e = let same : ◌≡◌ {A = ℕ × List ℕ} (a, x) (b, y) = cc in (ap (λ p. p.0) same, ap (λ p. p.1) same)

-- a unit more in front
pub onto_quote_more : (front more : List ℕ) (scan : QuoteScan) → onto_quote (front ++ more) scan ≡ onto_quote front (onto_quote more scan)
onto_quote_more front more (QuoteCloses text rest) = ap (λ units. QuoteCloses units rest) (append_assoc front more text)
onto_quote_more front more (QuoteStaysOpen text) = ap QuoteStaysOpen (append_assoc front more text)
onto_quote_more front more NoQuote = refl

pub onto_list_more : (front more : List ℕ) (scan : ListScan) → onto_list (front ++ more) scan ≡ onto_list front (onto_list more scan)
onto_list_more front more (ListEnds bytes) = ap ListEnds (append_assoc front more bytes)
onto_list_more front more (ListGoesOn bytes) = ap ListGoesOn (append_assoc front more bytes)
onto_list_more front more NoList = refl

-- a pair of digits, in front of what is behind it
behind_pair : (unit : ℕ) (others : List ℕ) (byte : ℕ) (behind : List ℕ) → pair_at (unit ∷ others) ≡ Some (byte, behind) → list_at (Within (digit_of unit)) others ≡ onto_list (byte ∷ []) (list_at Behind behind)
behind_pair unit [] byte behind e = cc
behind_pair unit (low ∷ rest) byte behind e = both (digit_of unit) (digit_of low) rest byte behind e
  where
    both : (high second : Option ℕ) (rest : List ℕ) (byte : ℕ) (behind : List ℕ) → pair_from high second rest ≡ Some (byte, behind) → onto_pair high second (list_at Behind rest) ≡ onto_list (byte ∷ []) (list_at Behind behind)
    both (Some h) (Some l) rest byte behind e =
        let parts : (16 * h + l ≡ byte) × (rest ≡ behind) = pair_same (16 * h + l) byte rest behind e in
        ap (λ b. onto_list (b ∷ []) (list_at Behind rest)) parts.0 ∙ ap (λ units. onto_list (byte ∷ []) (list_at Behind units)) parts.1
    both (Some h) None rest byte behind e = cc
    both None second rest byte behind e = cc

-- no pair of digits
no_pair : (unit : ℕ) (others : List ℕ) → pair_at (unit ∷ others) ≡ None → list_at (Within (digit_of unit)) others ≡ NoList
no_pair unit [] e = refl
no_pair unit (low ∷ rest) e = none (digit_of unit) (digit_of low) rest e
  where
    none : (high second : Option ℕ) (rest : List ℕ) → pair_from high second rest ≡ None → onto_pair high second (list_at Behind rest) ≡ NoList
    none (Some h) (Some l) rest e = cc
    none (Some h) None rest e = refl
    none None second rest e = refl

-- a unit that is no blank and no backslash begins a pair
pub at_pair : (unit : ℕ) (others : List ℕ) → is_blank unit ≡ false → (unit ≢ 92) → list_at Before (unit ∷ others) ≡ list_at (Within (digit_of unit)) others
at_pair unit others blank backslash = rw (blank, other_than unit 92 backslash) refl

pub list_pair : (units : List ℕ) (unit : ℕ) (others : List ℕ) (byte : ℕ) (behind : List ℕ) → units ≡ unit ∷ others → is_blank unit ≡ false → (unit ≢ 92) → pair_at units ≡ Some (byte, behind) → list_at Before units ≡ onto_list (byte ∷ []) (list_at Behind behind)
list_pair units unit others byte behind e blank backslash found =
    ap (list_at Before) e ∙ at_pair unit others blank backslash ∙ behind_pair unit others byte behind (ap pair_at (sym e) ∙ found)

pub list_no_pair : (units : List ℕ) (unit : ℕ) (others : List ℕ) → units ≡ unit ∷ others → is_blank unit ≡ false → (unit ≢ 92) → pair_at units ≡ None → list_at Before units ≡ NoList
list_no_pair units unit others e blank backslash found =
    ap (list_at Before) e ∙ at_pair unit others blank backslash ∙ no_pair unit others (ap pair_at (sym e) ∙ found)

-- a unit of text in quotes that stands for itself
pub quote_unit : (front new : List ℕ) (unit : ℕ) (others rest : List ℕ) → rest ≡ unit ∷ others → new ≡ front ++ unit ∷ [] → unit ≢ 34 → unit ≢ 92 → unit ≢ 0 → onto_quote new (quote_at false others) ≡ onto_quote front (quote_at false rest)
quote_unit front new unit others rest e f quote backslash zero =
    ap (λ text. onto_quote text (quote_at false others)) f ∙ onto_quote_more front (unit ∷ []) (quote_at false others)
    ∙ ap (onto_quote front) (sym at_unit) ∙ ap (λ units. onto_quote front (quote_at false units)) (sym e)
  where
    at_unit : quote_at false (unit ∷ others) ≡ onto_quote (unit ∷ []) (quote_at false others)
    at_unit = rw (other_than unit 34 quote, other_than unit 92 backslash, other_than unit 0 zero) refl

-- a unit behind a backslash
pub quote_escaped : (front new : List ℕ) (unit : ℕ) (others rest : List ℕ) → rest ≡ unit ∷ others → new ≡ front ++ unit ∷ [] → (unit == 34 || unit == 92) ≡ true → onto_quote new (quote_at false others) ≡ onto_quote front (quote_at true rest)
quote_escaped front new unit others rest e f escaped =
    ap (λ text. onto_quote text (quote_at false others)) f ∙ onto_quote_more front (unit ∷ []) (quote_at false others)
    ∙ ap (onto_quote front) (sym at_unit) ∙ ap (λ units. onto_quote front (quote_at true units)) (sym e)
  where
    at_unit : quote_at true (unit ∷ others) ≡ onto_quote (unit ∷ []) (quote_at false others)
    at_unit = rw escaped refl

-- a digit of a number
pub digit_step : (left number unit digit : ℕ) (others : List ℕ) → digit_of unit ≡ Some digit → left ≢ 0 → digits_from left number (unit ∷ others) ≡ digits_from (left - 1) (16 * number + digit) others
digit_step left number unit digit others d some = rw (d, other_than left 0 some) refl

-- one more digit of a number
pub digits_more : (left number unit digit : ℕ) (others rest : List ℕ) → rest ≡ unit ∷ others → digit_of unit ≡ Some digit → left ≢ 0 → digits_from (left - 1) (16 * number + digit) others ≡ digits_from left number rest
digits_more left number unit digit others rest e d some = sym (ap (digits_from left number) e ∙ digit_step left number unit digit others d some)

-- a line of a list that goes on behind a pair and a comma
pub list_more : (front new : List ℕ) (unit byte : ℕ) (others rest behind more : List ℕ) → rest ≡ unit ∷ others → is_blank unit ≡ false → unit ≢ 92 → pair_at rest ≡ Some (byte, behind) → new ≡ front ++ byte ∷ [] → behind ≡ 44 ∷ more → onto_list new (list_at Before more) ≡ onto_list front (list_at Before rest)
list_more front new unit byte others rest behind more e blank backslash found f comma =
    ap (λ bytes. onto_list bytes (list_at Before more)) f ∙ onto_list_more front (byte ∷ []) (list_at Before more)
    ∙ ap (λ units. onto_list front (onto_list (byte ∷ []) (list_at Behind units))) (sym comma) ∙ ap (onto_list front) (sym (list_pair rest unit others byte behind e blank backslash found))

-- one that ends or is wrong behind a pair
pub list_behind : (front new : List ℕ) (unit byte comma : ℕ) (others rest behind more : List ℕ) (ends : Bool) → rest ≡ unit ∷ others → is_blank unit ≡ false → unit ≢ 92 → pair_at rest ≡ Some (byte, behind) → new ≡ front ++ byte ∷ [] → behind ≡ comma ∷ more → comma ≢ 44 → ends ≡ ends_statement behind → cond ends (ListEnds new) NoList ≡ onto_list front (list_at Before rest)
list_behind front new unit byte comma others rest behind more ends e blank backslash found f g other h =
    last ends h ∙ ap (λ units. onto_list front (onto_list (byte ∷ []) (list_at Behind units))) (sym g) ∙ ap (onto_list front) (sym (list_pair rest unit others byte behind e blank backslash found))
  where
    at_end : (t : Bool) → ends_statement behind ≡ t → list_at Behind (comma ∷ more) ≡ cond t (ListEnds []) NoList
    at_end t k = rw (other_than comma 44 other, sym (ap ends_statement g) ∙ k) refl

    whole : (t : Bool) → cond t (ListEnds new) NoList ≡ onto_list front (onto_list (byte ∷ []) (cond t (ListEnds []) NoList))
    whole true = ap ListEnds (f ∙ ap (λ bytes. front ++ bytes) refl)
    whole false = refl

    last : (t : Bool) → t ≡ ends_statement behind → cond t (ListEnds new) NoList ≡ onto_list front (onto_list (byte ∷ []) (list_at Behind (comma ∷ more)))
    last t k = whole t ∙ ap (λ scan. onto_list front (onto_list (byte ∷ []) scan)) (sym (at_end t (sym k)))
