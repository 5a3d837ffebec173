-- Lines are entries up to a fault, or up to their end.
use Rattle.std.proofs.Common.{◌≡◌, ℕ, zero, suc, ◌+◌, ◌≤◌, Bool, true, false, cond, ◌==◌, ◌&&◌, not, List, [], ◌∷◌, ◌++◌, length, Option, Some, None, refl, sym, ◌∙◌, ap, subst, inl, inr, append_assoc, arith}
use Rattle.std.specs.Prelude.{◌⊎◌}
use Rattle.reg_file.specs.Files.{stopped, onto_file, key_after, wants_key, judged, after_turn, stop, file_from}
use Rattle.reg_file.specs.Grammar.{Entry, IsEntry, key_behind_entry, AreEntries, key_behind, entry_lines, one_numbered, numbered, BeginsNoEntry, Stands}
use Rattle.reg_file.specs.declared.statement.Statement.{Statement}
use Rattle.reg_file.specs.declared.statement.NumberedStatement.{NumberedStatement}
use Rattle.reg_file.specs.declared.scan.Scan.{Scan}
use Rattle.reg_file.specs.declared.scan.Scan.TheVariants as scan
use Rattle.reg_file.specs.declared.fault.Fault.{Fault}
use Rattle.reg_file.specs.declared.fault.FaultKind.{FaultKind}
use Rattle.reg_file.specs.declared.fault.FaultKind.TheVariants as kind
use Rattle.reg_file.specs.declared.turn.Item.{Item}
use Rattle.reg_file.specs.declared.turn.Turn.TheVariants.{Done}
use Rattle.reg_file.specs.declared.file.RegFile.{RegFile}
use Rattle.reg_file.proofs.BlankRuns.{is_or_not}
use Rattle.reg_file.proofs.GrammarToScan.{Comes, statement_comes, blank_comes}
use Rattle.reg_file.proofs.EntryRuns.{texts, texts_append, rest_file, behind, room_behind, lines_come, onto_file_more, length_both}
use Rattle.reg_file.proofs.EntryWalk.{Details, EntryEnds, FaultStops, walk_entry}

-- entries, and then the end or a fault
abbrev pub IsRest : Bool → Bool → ℕ → List (Option (List ℕ)) → RegFile → Type 0
IsRest old has_key number left file =
    ((left ≡ []) × (file ≡ record { statements = []; fault = None }))
    ⊎ ((what : FaultKind) × (file ≡ stopped (record { line = number; kind = what })) × (file_from old has_key number None left ≡ stopped (record { line = number; kind = what })) × Details old has_key [] left what)

pub record Prefix (old has_key : Bool) (number : ℕ) (left : List (Option (List ℕ))) : Type 0 where
  pub entries : List Entry
  pub rest : List (Option (List ℕ))
  pub file : RegFile
  pub parsed : left ≡ texts (entry_lines entries) ++ rest
  pub are_entries : AreEntries old has_key entries
  pub runs : file_from old has_key number None left ≡ onto_file (numbered number entries) file
  pub is_rest : IsRest old (key_behind has_key entries) (number + length (entry_lines entries)) rest file

first_entry : (old has_key : Bool) (number : ℕ) (left : List (Option (List ℕ))) (e : EntryEnds old has_key number number None [] left) → Prefix old (key_behind_entry e.statement has_key) (number + length e.tail) e.rest → Prefix old has_key number left
first_entry old has_key number left e p =
    let entry : Entry = record { lines = e.tail; statement = e.statement } in
    record {
      entries = entry ∷ p.entries;
      rest = p.rest;
      file = p.file;
      parsed = e.parsed ∙ ap (λ xs. texts e.tail ++ xs) p.parsed ∙ sym (append_assoc (texts e.tail) (texts (entry_lines p.entries)) p.rest) ∙ ap (λ xs. xs ++ p.rest) (sym (texts_append e.tail (entry_lines p.entries)));
      are_entries = (e.is_entry, e.placed, p.are_entries);
      runs = e.runs ∙ ap (onto_file (one_numbered number e.statement)) p.runs ∙ onto_file_more (one_numbered number e.statement) (numbered (number + length e.tail) p.entries) p.file;
      is_rest = subst (λ n. IsRest old (key_behind (key_behind_entry e.statement has_key) p.entries) n p.rest p.file) (length_both e.tail (entry_lines p.entries) number) p.is_rest;
    }

nothing_more : (old has_key : Bool) (number : ℕ) (left : List (Option (List ℕ))) → left ≡ [] → Prefix old has_key number left
nothing_more old has_key number left e =
    record { entries = []; rest = left; file = record { statements = []; fault = None }; parsed = refl; are_entries = tt; runs = ap (file_from old has_key number None) e; is_rest = inl (e, refl) }

faulty : (old has_key : Bool) (number : ℕ) (left : List (Option (List ℕ))) → FaultStops old has_key number number None [] left → Prefix old has_key number left
faulty old has_key number left f =
    let here : number + 0 ≡ number = omega arith in
    record {
      entries = [];
      rest = left;
      file = stopped (record { line = number; kind = f.what });
      parsed = refl;
      are_entries = tt;
      runs = f.runs;
      is_rest = subst (λ n. IsRest old has_key n left (stopped (record { line = number; kind = f.what }))) (sym here) (inr (f.what, refl, f.runs, f.details));
    }

prefix_within : (most : ℕ) (old has_key : Bool) (number : ℕ) (left : List (Option (List ℕ))) → length left ≤ most → Prefix old has_key number left
prefix_within zero old has_key number [] h = nothing_more old has_key number [] refl
prefix_within zero old has_key number (line ∷ left) h = absurd (omega (arith, h))
prefix_within (suc most) old has_key number left h = elim (walk_entry old has_key number left) [
  | inl e ↦ let shorter = e.shorter in first_entry old has_key number left e (prefix_within most old (key_behind_entry e.statement has_key) (number + length e.tail) e.rest (omega (arith, shorter, h)))
  | inr (inl f) ↦ faulty old has_key number left f
  | inr (inr none) ↦ nothing_more old has_key number left none.0
]

pub prefix : (old has_key : Bool) (number : ℕ) (left : List (Option (List ℕ))) → Prefix old has_key number left
prefix old has_key number left = prefix_within (length left) old has_key number left (omega arith)

-- a fault isn't before the lines that it is found in
later_rest : (old has_key : Bool) (number : ℕ) (rest : List (Option (List ℕ))) (file : RegFile) (fault : Fault) → IsRest old has_key number rest file → file.fault ≡ Some fault → fault.line ≡ number
later_rest old has_key number rest file fault (inl (e, f)) g = absurd (bad (sym (ap (λ x. x.fault) f) ∙ g))
  where
    bad : ◌≡◌ {A = Option Fault} None (Some fault) → ⊥
    bad h = cc
later_rest old has_key number rest file fault (inr (what, f, runs, details)) g = ap (λ x. x.line) (same (sym g ∙ ap (λ x. x.fault) f))
  where
    same : ◌≡◌ {A = Option Fault} (Some fault) (Some (record { line = number; kind = what })) → fault ≡ record { line = number; kind = what }
    same h = cc

fault_later : (old has_key : Bool) (number : ℕ) (left : List (Option (List ℕ))) (fault : Fault) → file_from old has_key number None left ≡ stopped fault → number ≤ fault.line
fault_later old has_key number left fault e =
    let p = prefix old has_key number left in
    let at : fault.line ≡ number + length (entry_lines p.entries) = later_rest old (key_behind has_key p.entries) (number + length (entry_lines p.entries)) p.rest p.file fault p.is_rest (ap (λ x. x.fault) (sym p.runs ∙ e)) in
    omega (arith, at)

-- what is not understood, or reaches a line that is no text, begins no entry
abbrev IsBeginning : FaultKind → Type 0
IsBeginning kind.NoHeader = ⊥
IsBeginning kind.NotText = Unit {0}
IsBeginning kind.NotUnderstood = Unit {0}
IsBeginning kind.NoKey = ⊥
IsBeginning kind.TooLarge = ⊥

same_fault : (a b : Fault) → stopped a ≡ stopped b → a ≡ b
same_fault a b e = some (ap (λ x. x.fault) e)
  where
    some : ◌≡◌ {A = Option Fault} (Some a) (Some b) → a ≡ b
    some h = cc

other_kind : (first number : ℕ) (a what : FaultKind) → (IsBeginning a → ⊥) → IsBeginning what → stopped (record { line = first; kind = a }) ≡ stopped (record { line = number; kind = what }) → ⊥
other_kind first number a what never begins e =
    never (subst IsBeginning (sym (ap (λ x. x.kind) (same_fault (record { line = first; kind = a }) (record { line = number; kind = what }) e))) begins)

not_done : (statement : NumberedStatement) (rest : RegFile) (fault : Fault) → onto_file (statement ∷ []) rest ≡ stopped fault → ⊥
not_done statement rest fault e = some (ap (λ x. x.statements) e)
  where
    some : ◌≡◌ {A = List NumberedStatement} (statement ∷ rest.statements) [] → ⊥
    some h = cc

module _ (old has_key : Bool) (number : ℕ) (what : FaultKind) (begins : IsBeginning what) where
  -- lines that come to something are no such fault
  no_such_end : (lines : List (List ℕ)) (more : List (Option (List ℕ))) (found : Scan) → Comes old None lines found → (behind old has_key number None lines more found ≡ stopped (record { line = number; kind = what }) → ⊥) → file_from old has_key number None (texts lines ++ more) ≡ stopped (record { line = number; kind = what }) → ⊥
  no_such_end lines more found c never e = never (sym (lines_come old has_key number None lines more found c) ∙ e)

  judged_no : (rest : Bool → Option Item → RegFile) (room : ℕ) (statement : Statement) → after_turn rest (judged number has_key room statement) ≡ stopped (record { line = number; kind = what }) → ⊥
  judged_no rest room statement e = by_tests (wants_key statement && not has_key) (room == 0) e
    where
      by_tests : (none full : Bool) → after_turn rest (cond none (stop number kind.NoKey) (cond full (stop number kind.TooLarge) (Done (key_after statement has_key) (record { line = number; statement = statement })))) ≡ stopped (record { line = number; kind = what }) → ⊥
      by_tests true full f = other_kind number number kind.NoKey what (λ b. b) begins f
      by_tests false true f = other_kind number number kind.TooLarge what (λ b. b) begins f
      by_tests false false f = not_done (record { line = number; statement = statement }) (rest (key_after statement has_key) None) (record { line = number; kind = what }) f

  pub begins_none : (left : List (Option (List ℕ))) → file_from old has_key number None left ≡ stopped (record { line = number; kind = what }) → BeginsNoEntry old left
  begins_none left e lines statement more parsed entry = by_entry statement entry (ap (file_from old has_key number None) (sym parsed) ∙ e)
    where
      by_entry : (found : Option Statement) → IsEntry old lines found → file_from old has_key number None (texts lines ++ more) ≡ stopped (record { line = number; kind = what }) → ⊥
      by_entry None (line, one, blank) f =
          no_such_end lines more scan.Nothing (subst (λ all. Comes old None all scan.Nothing) (sym one) (blank_comes old line blank))
          (λ g. let later = fault_later old has_key (number + length lines) more (record { line = number; kind = what }) g in let count : length lines ≡ 1 = ap length one in omega (arith, later, count)) f
      by_entry (Some found) s f = no_such_end lines more (scan.Complete found) (statement_comes old lines found s) (judged_no (rest_file old (number + length lines) more) (room_behind None lines) found) f

-- what a fault stands at
pub stands : (old has_key : Bool) (number : ℕ) (left : List (Option (List ℕ))) (what : FaultKind) → file_from old has_key number None left ≡ stopped (record { line = number; kind = what }) → Details old has_key [] left what → Stands old has_key left what
stands old has_key number left kind.NoHeader e d = d
stands old has_key number left kind.NotText e d = (d, begins_none old has_key number kind.NotText tt left e)
stands old has_key number left kind.NotUnderstood e d = begins_none old has_key number kind.NotUnderstood tt left e
stands old has_key number left kind.NoKey e d = d
stands old has_key number left kind.TooLarge e d = d
