-- Lines that name a key, by the grammar and as they are scanned.
use Rattle.std.proofs.Common.{◌≡◌, ◌≢◌, ℕ, suc, ◌==◌, Bool, true, false, cond, List, [], ◌∷◌, ◌++◌, length, drop, None, refl, sym, ◌∙◌, ap, subst, inl, inr, append_assoc, arith}
use Rattle.std.specs.Prelude.{◌⊎◌, reverse}
use Rattle.std.proofs.lemmas.List.{length-reverse, reverse-append, reverse-reverse}
use Rattle.reg_file.specs.Scanning.{from_bracket}
use Rattle.reg_file.specs.Reading.{skip_separator, without_separator, key_between, closed_key, key_scan, first_scan, line_scan}
use Rattle.reg_file.specs.Grammar.{HasNoBracket, IsTail, IsPath, IsKeyLine}
use Rattle.reg_file.specs.declared.statement.Statement.TheVariants.{CreateKey, DeleteKey}
use Rattle.reg_file.specs.declared.scan.Scan.TheVariants.{Nothing, Complete, NotUnderstood}
use Rattle.reg_file.proofs.Scans.{other_than}
use Rattle.reg_file.proofs.BlankRuns.{by_test, same_unit, true_is_not_false, is_or_not, skipped_to, tail_ends, not_tail}

-- units without a bracket, from the last to the first
no_bracket_append : (xs ys : List ℕ) → HasNoBracket xs → HasNoBracket ys → HasNoBracket (xs ++ ys)
no_bracket_append [] ys h k = k
no_bracket_append (x ∷ xs) ys h k = (h.0, no_bracket_append xs ys h.1 k)

reverse_first : (x : ℕ) (xs : List ℕ) → reverse (x ∷ xs) ≡ reverse xs ++ x ∷ []
reverse_first x xs = reverse-append (x ∷ []) xs

no_bracket_reverse : (xs : List ℕ) → HasNoBracket xs → HasNoBracket (reverse xs)
no_bracket_reverse [] h = h
no_bracket_reverse (x ∷ xs) h = subst HasNoBracket (sym (reverse_first x xs)) (no_bracket_append (reverse xs) (x ∷ []) (no_bracket_reverse xs h.1) (h.0, tt))

back_of : (inside end : List ℕ) → reverse (inside ++ 93 ∷ end) ≡ reverse end ++ 93 ∷ reverse inside
back_of inside end =
    reverse-append inside (93 ∷ end) ∙ ap (λ xs. xs ++ reverse inside) (reverse_first 93 end) ∙ append_assoc (reverse end) (93 ∷ []) (reverse inside)

-- the last bracket is the first one from the back
no_bracket_skipped : (back rest : List ℕ) → HasNoBracket back → from_bracket (back ++ 93 ∷ rest) ≡ 93 ∷ rest
no_bracket_skipped [] rest h = refl
no_bracket_skipped (unit ∷ back) rest h = ap (λ test. cond test (unit ∷ (back ++ 93 ∷ rest)) (from_bracket (back ++ 93 ∷ rest))) (other_than unit 93 h.0) ∙ no_bracket_skipped back rest h.1

bracket_last : (inside end : List ℕ) → HasNoBracket end → from_bracket (reverse (inside ++ 93 ∷ end)) ≡ 93 ∷ reverse inside
bracket_last inside end h = ap from_bracket (back_of inside end) ∙ no_bracket_skipped (reverse end) (reverse inside) (no_bracket_reverse end h)

behind_bracket : (inside end : List ℕ) → drop (suc (length inside)) (inside ++ 93 ∷ end) ≡ end
behind_bracket [] end = refl
behind_bracket (unit ∷ inside) end = behind_bracket inside end

-- a key is scanned by what stands between the brackets
pub key_scanned : (inside end : List ℕ) → IsTail end → HasNoBracket end → key_scan (inside ++ 93 ∷ end) ≡ key_between inside
key_scanned inside end tail h =
    let line = inside ++ 93 ∷ end in
    ap (λ back. closed_key back (drop (length back) line)) (bracket_last inside end h)
    ∙ ap (closed_key (93 ∷ reverse inside)) (ap (λ n. drop (suc n) line) (length-reverse inside) ∙ behind_bracket inside end)
    ∙ ap (λ test. cond test (key_between (reverse (reverse inside))) NotUnderstood) (tail_ends end tail) ∙ ap key_between (reverse-reverse inside)

pub key_line_scanned : (old : Bool) (line inside : List ℕ) → IsKeyLine line inside → line_scan old None line ≡ key_between inside
key_line_scanned old line inside k =
    let behind = inside ++ 93 ∷ k.end in
    ap (line_scan old None) k.parsed ∙ ap (first_scan old) (skipped_to k.before 91 behind k.before_blanks refl) ∙ at_bracket behind ∙ key_scanned inside k.end k.is_tail k.last
  where
    at_bracket : (behind : List ℕ) → first_scan old (91 ∷ behind) ≡ key_scan behind
    at_bracket behind = ap (λ test. cond test Nothing (key_scan behind)) (not_tail 91 behind (λ e. omega (arith, e)) (λ e. omega (arith, e)))

-- the end of a path
path_trimmed : (written path : List ℕ) → IsPath written path → without_separator written ≡ path
path_trimmed written path (inl more) =
    ap without_separator more ∙ ap (λ xs. reverse (skip_separator xs)) (reverse-append path (92 ∷ [])) ∙ reverse-reverse path
path_trimmed written path (inr (same, last)) = ap without_separator same ∙ from_back (reverse path) refl
  where
    from_back : (back : List ℕ) → reverse path ≡ back → without_separator path ≡ path
    from_back [] e = ap (λ xs. reverse (skip_separator xs)) e ∙ ap reverse (sym e) ∙ reverse-reverse path
    from_back (unit ∷ back) e =
        let other : unit ≢ 92 = λ backslash. last (reverse back) (sym (reverse-reverse path) ∙ ap reverse e ∙ reverse_first unit back ∙ ap (λ u. reverse back ++ u ∷ []) backslash) in
        ap (λ xs. reverse (skip_separator xs)) e ∙ ap (λ test. reverse (cond test back (unit ∷ back))) (other_than unit 92 other) ∙ ap reverse (sym e) ∙ reverse-reverse path

pub created : (written path : List ℕ) → ((rest : List ℕ) → written ≢ 45 ∷ rest) → IsPath written path → key_between written ≡ Complete (CreateKey path)
created [] path other p = ap (λ xs. Complete (CreateKey xs)) (path_trimmed [] path p)
created (unit ∷ units) path other p =
    ap (λ test. cond test (Complete (DeleteKey (without_separator units))) (Complete (CreateKey (without_separator (unit ∷ units))))) (other_than unit 45 (λ e. other units (ap (λ u. u ∷ units) e)))
    ∙ ap (λ xs. Complete (CreateKey xs)) (path_trimmed (unit ∷ units) path p)

pub deleted : (written path : List ℕ) → IsPath written path → key_between (45 ∷ written) ≡ Complete (DeleteKey path)
deleted written path p = ap (λ xs. Complete (DeleteKey xs)) (path_trimmed written path p)

-- and what is scanned so is a path
no_last : (front : List ℕ) (unit : ℕ) → ◌≡◌ {A = List ℕ} [] (front ++ unit ∷ []) → ⊥
no_last [] unit e = cc
no_last (x ∷ front) unit e = cc

pub path_is : (written : List ℕ) → IsPath written (without_separator written)
path_is written = from_back (reverse written) refl
  where
    from_back : (back : List ℕ) → reverse written ≡ back → IsPath written (without_separator written)
    from_back [] e =
        let empty : written ≡ [] = sym (reverse-reverse written) ∙ ap reverse e in
        inr (empty ∙ ap without_separator (sym empty), λ front f. no_last front 92 (sym (ap without_separator empty) ∙ f))
    from_back (unit ∷ back) e = elim (is_or_not (unit == 92)) [
      | inl backslash ↦
          let path : without_separator written ≡ reverse back = ap (λ xs. reverse (skip_separator xs)) e ∙ ap (λ test. reverse (cond test back (unit ∷ back))) backslash in
          inl (sym (reverse-reverse written) ∙ ap reverse e ∙ reverse_first unit back ∙ ap (λ u. reverse back ++ u ∷ []) (same_unit unit 92 backslash) ∙ ap (λ xs. xs ++ 92 ∷ []) (sym path))
      | inr other ↦
          let path : without_separator written ≡ written = ap (λ xs. reverse (skip_separator xs)) e ∙ ap (λ test. reverse (cond test back (unit ∷ back))) other ∙ ap reverse (sym e) ∙ reverse-reverse written in
          inr (sym path, λ front f. both (unit == 92) (ap (λ u. u == 92) (last unit back (reverse front) (sym e ∙ ap reverse (sym path ∙ f) ∙ reverse-append front (92 ∷ [])))) other)
    ]
      where
        last : (u : ℕ) (xs ys : List ℕ) → u ∷ xs ≡ 92 ∷ ys → u ≡ 92
        last u xs ys e = cc

        both : (test : Bool) → test ≡ true → test ≡ false → ⊥
        both test h k = bad (sym h ∙ k)
          where
            bad : true ≡ false → ⊥
            bad b = cc

-- what stands behind the last bracket
pub record IsBracketed (line back : List ℕ) : Type 0 where
  pub end : List ℕ
  pub parsed : line ≡ reverse back ++ 93 ∷ end
  pub behind : drop (suc (length back)) line ≡ end
  pub last : HasNoBracket end

record SkipsTo (back rest : List ℕ) : Type 0 where
  skipped : List ℕ
  none : HasNoBracket skipped
  parsed : back ≡ skipped ++ rest

skips_to : (back : List ℕ) → SkipsTo back (from_bracket back)
skips_to [] = record { skipped = []; none = tt; parsed = refl }
skips_to (unit ∷ units) =
    by_test (SkipsTo (unit ∷ units)) (unit == 93) (unit ∷ units) (from_bracket units) (λ bracket. record { skipped = []; none = tt; parsed = refl })
    (λ other. one_more (skips_to units) (λ e. true_is_not_false (unit == 93) (ap (λ u. u == 93) e) other))
  where
    one_more : SkipsTo units (from_bracket units) → unit ≢ 93 → SkipsTo (unit ∷ units) (from_bracket units)
    one_more s other = record { skipped = unit ∷ s.skipped; none = (other, s.none); parsed = ap (λ xs. unit ∷ xs) s.parsed }

pub bracket_first : (back : List ℕ) (unit : ℕ) (rest : List ℕ) → from_bracket back ≡ unit ∷ rest → unit ≡ 93
bracket_first [] unit rest e = cc
bracket_first (other ∷ units) unit rest e = elim (is_or_not (other == 93)) [
  | inl bracket ↦
      let same : other ∷ units ≡ unit ∷ rest = sym (ap (λ test. cond test (other ∷ units) (from_bracket units)) bracket) ∙ e in
      first same ∙ same_unit other 93 bracket
  | inr differs ↦ bracket_first units unit rest (sym (ap (λ test. cond test (other ∷ units) (from_bracket units)) differs) ∙ e)
]
  where
    first : other ∷ units ≡ unit ∷ rest → unit ≡ other
    first e = cc

pub bracketed : (line back : List ℕ) → from_bracket (reverse line) ≡ 93 ∷ back → IsBracketed line back
bracketed line back e =
    let s = skips_to (reverse line) in
    let end = reverse s.skipped in
    let whole : reverse line ≡ s.skipped ++ 93 ∷ back = s.parsed ∙ ap (λ xs. s.skipped ++ xs) e in
    let parsed : line ≡ reverse back ++ 93 ∷ end = sym (reverse-reverse line) ∙ ap reverse whole ∙ back_of s.skipped back in
    record {
      end = end;
      parsed = parsed;
      behind = ap (drop (suc (length back))) parsed ∙ ap (λ n. drop (suc n) (reverse back ++ 93 ∷ end)) (sym (length-reverse back)) ∙ behind_bracket (reverse back) end;
      last = no_bracket_reverse s.skipped s.none;
    }
