-- Text in quotes on one line, by the grammar and as it is scanned.
use Rattle.std.proofs.Common.{◌≡◌, ◌≢◌, ℕ, ◌==◌, Bool, true, false, cond, ◌||◌, List, [], ◌∷◌, ◌++◌, refl, sym, ◌∙◌, ap, subst, inl, inr, append_assoc}
use Rattle.reg_file.specs.Scanning.{QuoteScan, QuoteCloses, QuoteStaysOpen, NoQuote, quote_at, onto_quote}
use Rattle.reg_file.specs.Grammar.{quoted_unit, quoted, HasNoZero}
use Rattle.reg_file.proofs.Scans.{other_than}
use Rattle.reg_file.proofs.BlankRuns.{by_test, same_unit, is_or_not}

either_test : (a b : Bool) → a ≡ false → b ≡ false → (a || b) ≡ false
either_test a b e f = rw (e, f) refl

plain_test : (unit : ℕ) → (unit == 34 || unit == 92) ≡ false → ((unit == 34) ≡ false) × ((unit == 92) ≡ false)
plain_test unit h = parts (unit == 34) (unit == 92) h
  where
    parts : (a b : Bool) → (a || b) ≡ false → (a ≡ false) × (b ≡ false)
    parts true b h = absurd (bad h)
      where
        bad : true ≡ false → ⊥
        bad e = cc
    parts false b h = (refl, h)

-- a unit of text and the scan behind it
pub unit_scanned : (unit : ℕ) (rest : List ℕ) → unit ≢ 0 → quote_at false (quoted_unit unit ++ rest) ≡ onto_quote (unit ∷ []) (quote_at false rest)
unit_scanned unit rest h = elim (is_or_not (unit == 34 || unit == 92)) [
  | inl special ↦
      ap (λ test. quote_at false (cond test (92 ∷ unit ∷ []) (unit ∷ []) ++ rest)) special
      ∙ ap (λ test. cond test (onto_quote (unit ∷ []) (quote_at false rest)) NoQuote) special
  | inr plain ↦
      let tests = plain_test unit plain in
      ap (λ test. quote_at false (cond test (92 ∷ unit ∷ []) (unit ∷ []) ++ rest)) plain
      ∙ ap (λ test. cond test (QuoteCloses [] rest) (cond (unit == 92) (quote_at true rest) (cond (unit == 0) NoQuote (onto_quote (unit ∷ []) (quote_at false rest))))) tests.0
      ∙ ap (λ test. cond test (quote_at true rest) (cond (unit == 0) NoQuote (onto_quote (unit ∷ []) (quote_at false rest)))) tests.1
      ∙ ap (λ test. cond test NoQuote (onto_quote (unit ∷ []) (quote_at false rest))) (other_than unit 0 h)
]

-- text and its closing quote
pub text_closes : (text rest : List ℕ) → HasNoZero text → quote_at false (quoted text ++ 34 ∷ rest) ≡ QuoteCloses text rest
text_closes [] rest h = refl
text_closes (unit ∷ text) rest h =
    ap (quote_at false) (append_assoc (quoted_unit unit) (quoted text) (34 ∷ rest)) ∙ unit_scanned unit (quoted text ++ 34 ∷ rest) h.0 ∙ ap (onto_quote (unit ∷ [])) (text_closes text rest h.1)

-- text that goes on
pub text_stays_open : (text : List ℕ) → HasNoZero text → quote_at false (quoted text) ≡ QuoteStaysOpen text
text_stays_open [] h = refl
text_stays_open (unit ∷ text) h = unit_scanned unit (quoted text) h.0 ∙ ap (onto_quote (unit ∷ [])) (text_stays_open text h.1)

-- what a scan says of a line
abbrev pub IsScanned : List ℕ → QuoteScan → Type 0
IsScanned line (QuoteCloses text rest) = (line ≡ quoted text ++ 34 ∷ rest) × HasNoZero text
IsScanned line (QuoteStaysOpen text) = (line ≡ quoted text) × HasNoZero text
IsScanned line NoQuote = Unit {0}

-- one more unit in front
onto_scanned : (unit : ℕ) (line : List ℕ) (scan : QuoteScan) → unit ≢ 0 → IsScanned line scan → IsScanned (quoted_unit unit ++ line) (onto_quote (unit ∷ []) scan)
onto_scanned unit line (QuoteCloses text rest) h s = (ap (λ units. quoted_unit unit ++ units) s.0 ∙ sym (append_assoc (quoted_unit unit) (quoted text) (34 ∷ rest)), (h, s.1))
onto_scanned unit line (QuoteStaysOpen text) h s = (ap (λ units. quoted_unit unit ++ units) s.0, (h, s.1))
onto_scanned unit line NoQuote h s = tt

special_is : (unit : ℕ) → (unit == 34 || unit == 92) ≡ true → unit ≢ 0
special_is unit h e = bad (sym (ap (λ u. u == 34 || u == 92) e) ∙ h)
  where
    bad : false ≡ true → ⊥
    bad k = cc

plain_piece : (unit : ℕ) (line : List ℕ) → (unit == 34) ≡ false → (unit == 92) ≡ false → quoted_unit unit ++ line ≡ unit ∷ line
plain_piece unit line e f = ap (λ test. cond test (92 ∷ unit ∷ []) (unit ∷ []) ++ line) (either_test (unit == 34) (unit == 92) e f)

special_piece : (unit : ℕ) (line : List ℕ) → (unit == 34 || unit == 92) ≡ true → quoted_unit unit ++ line ≡ 92 ∷ unit ∷ line
special_piece unit line e = ap (λ test. cond test (92 ∷ unit ∷ []) (unit ∷ []) ++ line) e

not_zero : (unit : ℕ) → (unit == 0) ≡ false → unit ≢ 0
not_zero unit h e = bad (sym (ap (λ u. u == 0) e) ∙ h)
  where
    bad : true ≡ false → ⊥
    bad k = cc

-- the line is spelled by what was scanned of it
pub is_scanned : (escaped : Bool) (line : List ℕ) → IsScanned (cond escaped (92 ∷ line) line) (quote_at escaped line)
is_scanned false [] = (refl, tt)
is_scanned true [] = tt
is_scanned false (unit ∷ units) =
    by_test (IsScanned (unit ∷ units)) (unit == 34) (QuoteCloses [] units) (cond (unit == 92) (quote_at true units) (cond (unit == 0) NoQuote (onto_quote (unit ∷ []) (quote_at false units))))
    (λ quote. (ap (λ u. u ∷ units) (same_unit unit 34 quote), tt))
    (λ no_quote. by_test (IsScanned (unit ∷ units)) (unit == 92) (quote_at true units) (cond (unit == 0) NoQuote (onto_quote (unit ∷ []) (quote_at false units)))
    (λ backslash. subst (λ u. IsScanned (u ∷ units) (quote_at true units)) (sym (same_unit unit 92 backslash)) (is_scanned true units))
    (λ plain. by_test (IsScanned (unit ∷ units)) (unit == 0) NoQuote (onto_quote (unit ∷ []) (quote_at false units)) (λ zero. tt)
    (λ some. subst (λ line. IsScanned line (onto_quote (unit ∷ []) (quote_at false units))) (plain_piece unit units no_quote plain) (onto_scanned unit units (quote_at false units) (not_zero unit some) (is_scanned false units)))))
is_scanned true (unit ∷ units) =
    by_test (IsScanned (92 ∷ unit ∷ units)) (unit == 34 || unit == 92) (onto_quote (unit ∷ []) (quote_at false units)) NoQuote
    (λ special. subst (λ line. IsScanned line (onto_quote (unit ∷ []) (quote_at false units))) (special_piece unit units special) (onto_scanned unit units (quote_at false units) (special_is unit special) (is_scanned false units)))
    (λ other. tt)
