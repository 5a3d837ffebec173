-- Files by the grammar, and as they are parsed.
use Rattle.std.proofs.Common.{◌≡◌, ◌≢◌, ℕ, ◌+◌, Bool, true, false, cond, List, [], ◌∷◌, ◌++◌, map, length, Option, Some, None, refl, sym, ◌∙◌, ap, subst, inl, inr}
use Rattle.std.specs.Prelude.{◌⊎◌, codes}
use Rattle.std.proofs.lemmas.List.{append-nil}
use Rattle.reg_file.specs.Scanning.{skip_blanks, strip}
use Rattle.reg_file.specs.Headers.{ends_behind, is_header, header_of}
use Rattle.reg_file.specs.Files.{onto_file, file_from, behind_header, lines_file}
use Rattle.reg_file.specs.Grammar.{IsLineEnd, key_behind, entry_lines, numbered, header_text, IsHeader, IsFile, Stands, IsStopped, IsNoHeader}
use Rattle.reg_file.specs.declared.statement.NumberedStatement.{NumberedStatement}
use Rattle.reg_file.specs.declared.fault.Fault.{Fault}
use Rattle.reg_file.specs.declared.fault.FaultKind.TheVariants as kind
use Rattle.reg_file.specs.declared.file.RegFile.{RegFile}
use Rattle.reg_file.proofs.BlankRuns.{is_or_not, skipped_to, skips, line_ends, ends, stripped, strips}
use Rattle.reg_file.proofs.EntryRuns.{texts, entries_run}
use Rattle.reg_file.proofs.FilePrefix.{Prefix, IsRest, prefix, stands}

-- the header, by what stands behind its blanks
abbrev header_by : Bool → List ℕ → Option Bool
header_by old word = cond old (Some true) (cond (ends_behind (strip (codes "Windows Registry Editor Version 5.00") word)) (Some false) None)

-- a header by the grammar is one
ends_at : (text rest : List ℕ) → IsLineEnd rest → ends_behind (strip text (text ++ rest)) ≡ true
ends_at text rest e = ap ends_behind (stripped text rest) ∙ line_ends rest e

pub header_is : (old : Bool) (line : List ℕ) → IsHeader old line → header_of line ≡ Some old
header_is true line h =
    let begins : skip_blanks line ≡ codes "REGEDIT4" ++ h.end = ap skip_blanks h.parsed ∙ skipped_to h.blanks 82 (codes "EGEDIT4" ++ h.end) h.are_blanks refl in
    ap (λ word. header_by (ends_behind (strip (codes "REGEDIT4") word)) word) begins ∙ ap (λ test. header_by test (codes "REGEDIT4" ++ h.end)) (ends_at (codes "REGEDIT4") h.end h.is_end)
header_is false line h =
    let begins : skip_blanks line ≡ codes "Windows Registry Editor Version 5.00" ++ h.end = ap skip_blanks h.parsed ∙ skipped_to h.blanks 87 (codes "indows Registry Editor Version 5.00" ++ h.end) h.are_blanks refl in
    ap (λ word. header_by (ends_behind (strip (codes "REGEDIT4") word)) word) begins
    ∙ ap (λ test. cond test (Some false) None) (ends_at (codes "Windows Registry Editor Version 5.00") h.end h.is_end)

-- and what is one is so by the grammar
header_with : (text line : List ℕ) → is_header text line ≡ true → (end : List ℕ) × (skip_blanks line ≡ text ++ end) × IsLineEnd end
header_with text line h = at_rest (strip text (skip_blanks line)) refl h
  where
    at_rest : (found : Option (List ℕ)) → strip text (skip_blanks line) ≡ found → ends_behind found ≡ true → (end : List ℕ) × (skip_blanks line ≡ text ++ end) × IsLineEnd end
    at_rest None e h = absurd (bad h)
      where
        bad : false ≡ true → ⊥
        bad k = cc
    at_rest (Some end) e h = (end, strips text (skip_blanks line) end e, ends end h)

header_made : (old : Bool) (line : List ℕ) → is_header (header_text old) line ≡ true → IsHeader old line
header_made old line h =
    let found = header_with (header_text old) line h in
    let s = skips line in
    record { blanks = s.blanks; end = found.0; parsed = s.parsed ∙ ap (λ xs. s.blanks ++ xs) found.1; are_blanks = s.are_blanks; is_end = found.2 }

pub is_the_header : (old : Bool) (line : List ℕ) → header_of line ≡ Some old → IsHeader old line
is_the_header old line e = elim (is_or_not (is_header (codes "REGEDIT4") line)) [
  | inl first ↦
      let same : true ≡ old = some true old (sym (ap (λ test. cond test (Some true) (cond (is_header (codes "Windows Registry Editor Version 5.00") line) (Some false) None)) first) ∙ e) in
      subst (λ form. IsHeader form line) same (header_made true line first)
  | inr other ↦
      let rest : cond (is_header (codes "Windows Registry Editor Version 5.00") line) (Some false) None ≡ Some old = sym (ap (λ test. cond test (Some true) (cond (is_header (codes "Windows Registry Editor Version 5.00") line) (Some false) None)) other) ∙ e in
      elim (is_or_not (is_header (codes "Windows Registry Editor Version 5.00") line)) [
        | inl second ↦ subst (λ form. IsHeader form line) (some false old (sym (ap (λ test. cond test (Some false) None) second) ∙ rest)) (header_made false line second)
        | inr none ↦ absurd (nothing old (sym (ap (λ test. cond test (Some false) None) none) ∙ rest))
      ]
]
  where
    some : (a b : Bool) → ◌≡◌ {A = Option Bool} (Some a) (Some b) → a ≡ b
    some a b h = cc

    nothing : (a : Bool) → ◌≡◌ {A = Option Bool} None (Some a) → ⊥
    nothing a h = cc

abbrev whole : List NumberedStatement → RegFile
whole statements = record { statements = statements; fault = None }

-- a file by the grammar is parsed
pub read_file : (lines : List (List ℕ)) (statements : List NumberedStatement) → IsFile lines statements → lines_file (map Some lines) ≡ record { statements = statements; fault = None }
read_file lines statements f =
    let left = texts (entry_lines f.entries) in
    ap (λ all. lines_file (map Some all)) f.parsed ∙ ap (λ header. behind_header header left) (header_is f.old f.header f.is_header)
    ∙ ap (file_from f.old false 2 None) (sym (append-nil left)) ∙ entries_run f.old false 2 f.entries [] f.are_entries
    ∙ ap (λ all. whole all) (append-nil (numbered 2 f.entries)) ∙ ap (λ all. whole all) (sym f.spelled)

-- no lines are two files
same_statements : (a b : List NumberedStatement) → ◌≡◌ {A = RegFile} (record { statements = a; fault = None }) (record { statements = b; fault = None }) → a ≡ b
same_statements a b e = ap (λ file. file.statements) e

pub one_file : (lines : List (List ℕ)) (statements others : List NumberedStatement) → IsFile lines statements → IsFile lines others → statements ≡ others
one_file lines statements others f g = same_statements statements others (sym (read_file lines statements f) ∙ read_file lines others g)

-- what is parsed to its end is a file by the grammar
no_fault : (statements : List NumberedStatement) (fault : Fault) (file : RegFile) → file.fault ≡ Some fault → file ≡ whole statements → ⊥
no_fault statements fault file e f = bad (sym e ∙ ap (λ x. x.fault) f)
  where
    bad : ◌≡◌ {A = Option Fault} (Some fault) None → ⊥
    bad h = cc

pub parsed_file : (lines : List (Option (List ℕ))) (statements : List NumberedStatement) → lines_file lines ≡ record { statements = statements; fault = None } → (all : List (List ℕ)) × (lines ≡ map Some all) × IsFile all statements
parsed_file [] statements e = absurd (no_fault statements (record { line = 1; kind = kind.NoHeader }) (lines_file []) refl e)
parsed_file (None ∷ left) statements e = absurd (no_fault statements (record { line = 1; kind = kind.NotText }) (lines_file (None ∷ left)) refl e)
parsed_file (Some header ∷ left) statements e = by_header (header_of header) refl e
  where
    with_entries : (old : Bool) → header_of header ≡ Some old → (p : Prefix old false 2 left) → IsRest old (key_behind false p.entries) (2 + length (entry_lines p.entries)) p.rest p.file → onto_file (numbered 2 p.entries) p.file ≡ whole statements → (all : List (List ℕ)) × (Some header ∷ left ≡ map Some all) × IsFile all statements
    with_entries old h p (inl (none, file)) f =
        let spelled : statements ≡ numbered 2 p.entries = sym (ap (λ x. x.statements) f) ∙ ap (λ x. numbered 2 p.entries ++ x.statements) file ∙ append-nil (numbered 2 p.entries) in (
          header ∷ entry_lines p.entries,
          ap (λ xs. Some header ∷ xs) (p.parsed ∙ ap (λ xs. texts (entry_lines p.entries) ++ xs) none ∙ append-nil (texts (entry_lines p.entries))),
          record { old = old; header = header; entries = p.entries; parsed = refl; is_header = is_the_header old header h; are_entries = p.are_entries; spelled = spelled },
        )
    with_entries old h p (inr (what, file, runs, details)) f =
        absurd (no_fault statements (record { line = 2 + length (entry_lines p.entries); kind = what }) (onto_file (numbered 2 p.entries) p.file) (ap (λ x. x.fault) file) f)

    by_header : (found : Option Bool) → header_of header ≡ found → behind_header found left ≡ whole statements → (all : List (List ℕ)) × (Some header ∷ left ≡ map Some all) × IsFile all statements
    by_header None h f = absurd (no_fault statements (record { line = 1; kind = kind.NoHeader }) (behind_header None left) refl f)
    by_header (Some old) h f = let p = prefix old false 2 left in with_entries old h p p.is_rest (sym p.runs ∙ f)

-- and what is parsed up to a fault has that fault there
abbrev ended : List NumberedStatement → Fault → RegFile
ended statements fault = record { statements = statements; fault = Some fault }

the_fault : (a b : Fault) (file : RegFile) (statements : List NumberedStatement) → file.fault ≡ Some a → file ≡ ended statements b → b ≡ a
the_fault a b file statements e f = some (sym (ap (λ x. x.fault) f) ∙ e)
  where
    some : ◌≡◌ {A = Option Fault} (Some b) (Some a) → b ≡ a
    some h = cc

pub stopped_file : (lines : List (Option (List ℕ))) (statements : List NumberedStatement) (fault : Fault) → lines ≢ [] → lines_file lines ≡ record { statements = statements; fault = Some fault } → IsStopped lines statements fault ⊎ IsNoHeader lines statements fault
stopped_file [] statements fault some e = absurd (some refl)
stopped_file (None ∷ left) statements fault some e =
    let same = the_fault (record { line = 1; kind = kind.NotText }) fault (lines_file (None ∷ left)) statements refl e in
    inr (record { none = sym (ap (λ x. x.statements) e); number = ap (λ x. x.line) same; line = None; more = left; parsed = refl; is = inl (refl, ap (λ x. x.kind) same) })
stopped_file (Some header ∷ left) statements fault some e = by_header (header_of header) refl e
  where
    with_entries : (old : Bool) → header_of header ≡ Some old → (p : Prefix old false 2 left) → IsRest old (key_behind false p.entries) (2 + length (entry_lines p.entries)) p.rest p.file → onto_file (numbered 2 p.entries) p.file ≡ ended statements fault → IsStopped (Some header ∷ left) statements fault
    with_entries old h p (inl (none, file)) f = absurd (bad (sym (ap (λ x. x.fault) file) ∙ ap (λ x. x.fault) f))
      where
        bad : ◌≡◌ {A = Option Fault} None (Some fault) → ⊥
        bad k = cc
    with_entries old h p (inr (what, file, runs, details)) f =
        let number = 2 + length (entry_lines p.entries) in
        let same = the_fault (record { line = number; kind = what }) fault (onto_file (numbered 2 p.entries) p.file) statements (ap (λ x. x.fault) file) f in
        let spelled : statements ≡ numbered 2 p.entries = sym (ap (λ x. x.statements) f) ∙ ap (λ x. numbered 2 p.entries ++ x.statements) file ∙ append-nil (numbered 2 p.entries) in
        record {
          old = old;
          header = header;
          entries = p.entries;
          left = p.rest;
          parsed = ap (λ xs. Some header ∷ xs) p.parsed;
          is_header = is_the_header old header h;
          are_entries = p.are_entries;
          spelled = spelled;
          number = ap (λ x. x.line) same;
          stands = subst (Stands old (key_behind false p.entries) p.rest) (sym (ap (λ x. x.kind) same)) (stands old (key_behind false p.entries) number p.rest what runs details);
        }

    no_header : header_of header ≡ None → (old : Bool) → IsHeader old header → ⊥
    no_header h old is = bad (sym h ∙ header_is old header is)
      where
        bad : ◌≡◌ {A = Option Bool} None (Some old) → ⊥
        bad k = cc

    by_header : (found : Option Bool) → header_of header ≡ found → behind_header found left ≡ ended statements fault → IsStopped (Some header ∷ left) statements fault ⊎ IsNoHeader (Some header ∷ left) statements fault
    by_header None h f =
        let same = the_fault (record { line = 1; kind = kind.NoHeader }) fault (behind_header None left) statements refl f in
        inr (record { none = sym (ap (λ x. x.statements) f); number = ap (λ x. x.line) same; line = Some header; more = left; parsed = refl; is = inr (header, refl, ap (λ x. x.kind) same, no_header h) })
    by_header (Some old) h f = let p = prefix old false 2 left in inl (with_entries old h p p.is_rest (sym p.runs ∙ f))
