-- Lines of lists of bytes, by the grammar and as they are scanned.
use Rattle.std.proofs.Common.{◌≡◌, ◌≢◌, ℕ, ◌+◌, ◌*◌, ◌==◌, true, false, cond, List, [], ◌∷◌, ◌++◌, Option, Some, None, refl, sym, ◌∙◌, ap, inl, inr}
use Rattle.reg_file.specs.Scanning.{is_blank, ends_statement, digit_of, ListScan, ListEnds, ListGoesOn, NoList, onto_list, onto_pair, Before, Within, Behind, list_at}
use Rattle.reg_file.specs.Grammar.{AreBlanks, IsTail, IsPair, IsLastLine, IsBrokenLine}
use Rattle.reg_file.proofs.Scans.{at_pair}
use Rattle.reg_file.proofs.BlankRuns.{by_test, same_unit, is_or_not, tail_ends, tails}
use Rattle.reg_file.proofs.HexNumbers.{blank_is, tail_first}

no_digit : (unit digit : ℕ) → digit_of unit ≡ Some digit → digit_of unit ≡ None → ⊥
no_digit unit digit e f = bad (sym f ∙ e)
  where
    bad : ◌≡◌ {A = Option ℕ} None (Some digit) → ⊥
    bad h = cc

digit_no_blank : (unit digit : ℕ) → digit_of unit ≡ Some digit → is_blank unit ≡ false
digit_no_blank unit digit d = elim (is_or_not (is_blank unit)) [
  | inr other ↦ other
  | inl blank ↦ elim (blank_is unit blank) [ inl b ↦ absurd (no_digit unit digit d (ap digit_of b)) | inr t ↦ absurd (no_digit unit digit d (ap digit_of t)) ]
]

digit_no_backslash : (unit digit : ℕ) → digit_of unit ≡ Some digit → unit ≢ 92
digit_no_backslash unit digit d e = no_digit unit digit d (ap digit_of e)

-- blanks before a byte
pub blanks_before : (blanks rest : List ℕ) → AreBlanks blanks → list_at Before (blanks ++ rest) ≡ list_at Before rest
blanks_before [] rest h = refl
blanks_before (unit ∷ units) rest h =
    ap (λ test. cond test (list_at Before (units ++ rest)) (cond (unit == 92) (cond (ends_statement (units ++ rest)) (ListGoesOn []) NoList) (list_at (Within (digit_of unit)) (units ++ rest)))) h.0
    ∙ blanks_before units rest h.1

-- a pair
pair_scanned : (pair rest : List ℕ) (byte : ℕ) → IsPair pair byte → list_at Before (pair ++ rest) ≡ onto_list (byte ∷ []) (list_at Behind rest)
pair_scanned pair rest byte p =
    ap (λ units. list_at Before (units ++ rest)) p.parsed
    ∙ at_pair p.first (p.second ∷ rest) (digit_no_blank p.first p.high p.high_is) (digit_no_backslash p.first p.high p.high_is)
    ∙ ap (λ high. onto_pair high (digit_of p.second) (list_at Behind rest)) p.high_is
    ∙ ap (λ low. onto_pair (Some p.high) low (list_at Behind rest)) p.low_is
    ∙ ap (λ b. onto_list (b ∷ []) (list_at Behind rest)) (sym p.value)

-- the end of a line, or a remark, behind a pair
end_scanned : (end : List ℕ) → IsTail end → list_at Behind end ≡ ListEnds []
end_scanned [] e = refl
end_scanned (unit ∷ units) e =
    ap (λ test. cond test (list_at Before units) (cond (ends_statement (unit ∷ units)) (ListEnds []) NoList)) no_comma
    ∙ ap (λ test. cond test (ListEnds []) NoList) (tail_ends (unit ∷ units) e)
  where
    no_comma : (unit == 44) ≡ false
    no_comma = elim (tail_first unit units e) [
      | inl blank ↦ ap (λ u. u == 44) blank
      | inr (inl tab) ↦ ap (λ u. u == 44) tab
      | inr (inr (inl return)) ↦ ap (λ u. u == 44) return
      | inr (inr (inr remark)) ↦ ap (λ u. u == 44) remark
    ]

-- lines by the grammar are scanned
pub last_line_scanned : (line bytes : List ℕ) → IsLastLine line bytes → list_at Before line ≡ ListEnds bytes
last_line_scanned line [] l = absurd l
last_line_scanned line (byte ∷ []) (blanks, pair, end, e, h, p, ended) =
    ap (list_at Before) e ∙ blanks_before blanks (pair ++ end) h ∙ pair_scanned pair end byte p ∙ ap (onto_list (byte ∷ [])) (end_scanned end ended)
last_line_scanned line (byte ∷ next ∷ bytes) (blanks, pair, rest, e, h, p, more) =
    ap (list_at Before) e ∙ blanks_before blanks (pair ++ 44 ∷ rest) h ∙ pair_scanned pair (44 ∷ rest) byte p ∙ ap (onto_list (byte ∷ [])) (last_line_scanned rest (next ∷ bytes) more)

pub broken_line_scanned : (line bytes : List ℕ) → IsBrokenLine line bytes → list_at Before line ≡ ListGoesOn bytes
broken_line_scanned line [] (blanks, end, e, h, ended) =
    ap (list_at Before) e ∙ blanks_before blanks (92 ∷ end) h ∙ ap (λ test. cond test (ListGoesOn []) NoList) (tail_ends end ended)
broken_line_scanned line (byte ∷ bytes) (blanks, pair, rest, e, h, p, more) =
    ap (list_at Before) e ∙ blanks_before blanks (pair ++ 44 ∷ rest) h ∙ pair_scanned pair (44 ∷ rest) byte p ∙ ap (onto_list (byte ∷ [])) (broken_line_scanned rest bytes more)

-- what a scan says of a line, and of what is behind a pair
abbrev pub IsListScanned : List ℕ → ListScan → Type 0
IsListScanned line (ListEnds bytes) = IsLastLine line bytes
IsListScanned line (ListGoesOn bytes) = IsBrokenLine line bytes
IsListScanned line NoList = Unit {0}

abbrev IsBehindScanned : List ℕ → ListScan → Type 0
IsBehindScanned rest (ListEnds []) = IsTail rest
IsBehindScanned rest (ListEnds (byte ∷ bytes)) = (more : List ℕ) × (rest ≡ 44 ∷ more) × IsLastLine more (byte ∷ bytes)
IsBehindScanned rest (ListGoesOn bytes) = (more : List ℕ) × (rest ≡ 44 ∷ more) × IsBrokenLine more bytes
IsBehindScanned rest NoList = Unit {0}

one_blank : (unit : ℕ) (line : List ℕ) (scan : ListScan) → is_blank unit ≡ true → IsListScanned line scan → IsListScanned (unit ∷ line) scan
one_blank unit line (ListEnds []) h l = l
one_blank unit line (ListEnds (byte ∷ [])) h (blanks, pair, end, e, b, p, ended) = (unit ∷ blanks, pair, end, ap (λ us. unit ∷ us) e, (h, b), p, ended)
one_blank unit line (ListEnds (byte ∷ next ∷ bytes)) h (blanks, pair, rest, e, b, p, more) = (unit ∷ blanks, pair, rest, ap (λ us. unit ∷ us) e, (h, b), p, more)
one_blank unit line (ListGoesOn []) h (blanks, end, e, b, ended) = (unit ∷ blanks, end, ap (λ us. unit ∷ us) e, (h, b), ended)
one_blank unit line (ListGoesOn (byte ∷ bytes)) h (blanks, pair, rest, e, b, p, more) = (unit ∷ blanks, pair, rest, ap (λ us. unit ∷ us) e, (h, b), p, more)
one_blank unit line NoList h l = tt

one_pair : (first second high low : ℕ) (rest : List ℕ) (scan : ListScan) → digit_of first ≡ Some high → digit_of second ≡ Some low → IsBehindScanned rest scan → IsListScanned (first ∷ second ∷ rest) (onto_list ((16 * high + low) ∷ []) scan)
one_pair first second high low rest scan h l s = go scan s
  where
    pair : IsPair (first ∷ second ∷ []) (16 * high + low)
    pair = record { first = first; second = second; high = high; low = low; parsed = refl; high_is = h; low_is = l; value = refl }

    go : (scan : ListScan) → IsBehindScanned rest scan → IsListScanned (first ∷ second ∷ rest) (onto_list ((16 * high + low) ∷ []) scan)
    go (ListEnds []) ended = ([], first ∷ second ∷ [], rest, refl, tt, pair, ended)
    go (ListEnds (byte ∷ bytes)) (more, e, further) = ([], first ∷ second ∷ [], more, ap (λ us. first ∷ second ∷ us) e, tt, pair, further)
    go (ListGoesOn bytes) (more, e, further) = ([], first ∷ second ∷ [], more, ap (λ us. first ∷ second ∷ us) e, tt, pair, further)
    go NoList s = tt

two_digits : (first second : ℕ) (rest : List ℕ) (scan : ListScan) → IsBehindScanned rest scan → IsListScanned (first ∷ second ∷ rest) (onto_pair (digit_of first) (digit_of second) scan)
two_digits first second rest scan s = by_digits (digit_of first) (digit_of second) refl refl
  where
    by_digits : (high low : Option ℕ) → digit_of first ≡ high → digit_of second ≡ low → IsListScanned (first ∷ second ∷ rest) (onto_pair high low scan)
    by_digits (Some high) (Some low) h l = one_pair first second high low rest scan h l s
    by_digits (Some high) None h l = tt
    by_digits None low h l = tt

comma_behind : (comma : ℕ) (more : List ℕ) (scan : ListScan) → comma ≡ 44 → IsListScanned more scan → IsBehindScanned (comma ∷ more) scan
comma_behind comma more (ListEnds []) e l = absurd l
comma_behind comma more (ListEnds (byte ∷ bytes)) e l = (more, ap (λ u. u ∷ more) e, l)
comma_behind comma more (ListGoesOn bytes) e l = (more, ap (λ u. u ∷ more) e, l)
comma_behind comma more NoList e l = tt

behind_scanned : (unit : ℕ) (more : List ℕ) → IsListScanned more (list_at Before more) → IsBehindScanned (unit ∷ more) (list_at Behind (unit ∷ more))
behind_scanned unit more l =
    by_test (IsBehindScanned (unit ∷ more)) (unit == 44) (list_at Before more) (cond (ends_statement (unit ∷ more)) (ListEnds []) NoList) (λ comma. comma_behind unit more (list_at Before more) (same_unit unit 44 comma) l)
    (λ other. by_test (IsBehindScanned (unit ∷ more)) (ends_statement (unit ∷ more)) (ListEnds []) NoList (λ ended. tails (unit ∷ more) ended) (λ no. tt))

end_of_nothing : IsTail []
end_of_nothing = inl (record { blanks = []; are_blanks = tt; parsed = inl refl })

at_unit : (unit : ℕ) (units : List ℕ) → IsListScanned units (list_at Before units) → IsListScanned (unit ∷ units) (list_at (Within (digit_of unit)) units) → IsListScanned (unit ∷ units) (list_at Before (unit ∷ units))
at_unit unit units behind within =
    by_test (IsListScanned (unit ∷ units)) (is_blank unit) (list_at Before units) (cond (unit == 92) (cond (ends_statement units) (ListGoesOn []) NoList) (list_at (Within (digit_of unit)) units))
    (λ blank. one_blank unit units (list_at Before units) blank behind)
    (λ other. by_test (IsListScanned (unit ∷ units)) (unit == 92) (cond (ends_statement units) (ListGoesOn []) NoList) (list_at (Within (digit_of unit)) units)
    (λ backslash. by_test (IsListScanned (unit ∷ units)) (ends_statement units) (ListGoesOn []) NoList (λ ended. ([], units, ap (λ u. u ∷ units) (same_unit unit 92 backslash), tt, tails units ended)) (λ no. tt))
    (λ digit. within))

-- the line is spelled by what was scanned of it
pub list_scanned : (line : List ℕ) → IsListScanned line (list_at Before line)
list_scanned [] = tt
list_scanned (unit ∷ []) = at_unit unit [] tt tt
list_scanned (unit ∷ second ∷ []) = at_unit unit (second ∷ []) (list_scanned (second ∷ [])) (two_digits unit second [] (ListEnds []) end_of_nothing)
list_scanned (unit ∷ second ∷ comma ∷ rest) =
    at_unit unit (second ∷ comma ∷ rest) (list_scanned (second ∷ comma ∷ rest)) (two_digits unit second (comma ∷ rest) (list_at Behind (comma ∷ rest)) (behind_scanned comma rest (list_scanned rest)))
