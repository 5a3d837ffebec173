-- The lines of a file up to a fault are entries of the grammar.
use Rattle.std.proofs.Common.{◌≡◌, ◌≢◌, ℕ, ◌+◌, ◌-◌, ◌<◌, ◌==◌, ◌&&◌, not, Bool, true, false, cond, List, [], ◌∷◌, ◌++◌, length, Option, Some, None, refl, sym, ◌∙◌, ap, subst, inl, inr, append_assoc, arith}
use Rattle.std.specs.Prelude.{◌⊎◌}
use Rattle.std.proofs.lemmas.Bool.Decides.{Decides-eqb}
use Rattle.std.proofs.lemmas.List.{append-nil}
use Rattle.refusals.specs.declared.limits.TheConstants.{MOST_ELEMENT_BYTES}
use Rattle.reg_file.specs.Reading.{line_scan}
use Rattle.reg_file.specs.Files.{stopped, onto_file, key_after, wants_key, first_of, pending_of, room_after, stop, judged, scanned, after_turn, file_from}
use Rattle.reg_file.specs.Grammar.{IsEntry, IsStatement, units_of, IsPlaced, key_behind_entry, one_numbered, MayGoOn}
use Rattle.reg_file.specs.declared.statement.Statement.{Statement}
use Rattle.reg_file.specs.declared.scan.Pending.{Pending}
use Rattle.reg_file.specs.declared.scan.Scan.{Scan}
use Rattle.reg_file.specs.declared.scan.Scan.TheVariants as scan
use Rattle.reg_file.specs.declared.fault.FaultKind.{FaultKind}
use Rattle.reg_file.specs.declared.fault.FaultKind.TheVariants as kind
use Rattle.reg_file.specs.declared.turn.Item.{Item}
use Rattle.reg_file.specs.declared.turn.Turn.TheVariants.{Done}
use Rattle.reg_file.proofs.BlankRuns.{is_or_not}
use Rattle.reg_file.proofs.ScanToGrammar.{Ends, Means, may_go_on, first_line_means, further_line_means}
use Rattle.reg_file.proofs.EntryRuns.{texts, rest_file, next_item, line_goes_on}

-- what a fault stands at, behind lines of the same entry
abbrev pub Behind : Bool → (List (List ℕ) → Statement → Type 0) → List (List ℕ) → List (Option (List ℕ)) → Type 0
Behind old Holds lines left =
    (tail : List (List ℕ)) × (statement : Statement) × (more : List (Option (List ℕ))) × (left ≡ texts tail ++ more) × IsStatement old (lines ++ tail) statement × Holds (lines ++ tail) statement

abbrev pub NoTextBehind : Bool → List (List ℕ) → List (Option (List ℕ)) → Type 0
NoTextBehind old lines left = (tail : List (List ℕ)) × (more : List (Option (List ℕ))) × (left ≡ texts tail ++ None ∷ more) × MayGoOn old (lines ++ tail)

abbrev pub Wants : List (List ℕ) → Statement → Type 0
Wants lines statement = wants_key statement ≡ true

abbrev pub Large : List (List ℕ) → Statement → Type 0
Large lines statement = MOST_ELEMENT_BYTES < units_of lines

abbrev pub Details : Bool → Bool → List (List ℕ) → List (Option (List ℕ)) → FaultKind → Type 0
Details old has_key lines left kind.NoHeader = ⊥
Details old has_key lines left kind.NotText = NoTextBehind old lines left
Details old has_key lines left kind.NotUnderstood = Unit {0}
Details old has_key lines left kind.NoKey = (has_key ≡ false) × Behind old Wants lines left
Details old has_key lines left kind.TooLarge = Behind old Large lines left

-- an entry ends, a fault stops, or nothing is left
pub record EntryEnds (old has_key : Bool) (first number : ℕ) (item : Option Item) (lines : List (List ℕ)) (left : List (Option (List ℕ))) : Type 0 where
  pub tail : List (List ℕ)
  pub statement : Option Statement
  pub rest : List (Option (List ℕ))
  pub parsed : left ≡ texts tail ++ rest
  pub is_entry : IsEntry old (lines ++ tail) statement
  pub placed : IsPlaced has_key (lines ++ tail) statement
  pub shorter : length rest < length left
  pub runs : file_from old has_key number item left ≡ onto_file (one_numbered first statement) (file_from old (key_behind_entry statement has_key) (number + length tail) None rest)

pub record FaultStops (old has_key : Bool) (first number : ℕ) (item : Option Item) (lines : List (List ℕ)) (left : List (Option (List ℕ))) : Type 0 where
  pub what : FaultKind
  pub runs : file_from old has_key number item left ≡ stopped (record { line = first; kind = what })
  pub details : Details old has_key lines left what

abbrev pub Walk : Bool → Bool → ℕ → ℕ → Option Item → List (List ℕ) → List (Option (List ℕ)) → Type 0
Walk old has_key first number item lines left = EntryEnds old has_key first number item lines left ⊎ FaultStops old has_key first number item lines left ⊎ ((left ≡ []) × (item ≡ None))

-- one line more
module _ (old has_key : Bool) (first number : ℕ) (item : Option Item) (lines : List (List ℕ)) (line : List ℕ) (left : List (Option (List ℕ))) (pending : Pending) where
  longer : (tail : List (List ℕ)) → (lines ++ line ∷ []) ++ tail ≡ lines ++ line ∷ tail
  longer tail = append_assoc lines (line ∷ []) tail

  behind_more : (Holds : List (List ℕ) → Statement → Type 0) → Behind old Holds (lines ++ line ∷ []) left → Behind old Holds lines (Some line ∷ left)
  behind_more Holds (tail, statement, more, e, s, h) =
      (line ∷ tail, statement, more, ap (λ xs. Some line ∷ xs) e, subst (λ all. IsStatement old all statement) (longer tail) s, subst (λ all. Holds all statement) (longer tail) h)

  details_more : (what : FaultKind) → Details old has_key (lines ++ line ∷ []) left what → Details old has_key lines (Some line ∷ left) what
  details_more kind.NoHeader d = d
  details_more kind.NotText (tail, more, e, g) = (line ∷ tail, more, ap (λ xs. Some line ∷ xs) e, subst (MayGoOn old) (longer tail) g)
  details_more kind.NotUnderstood d = tt
  details_more kind.NoKey (h, b) = (h, behind_more Wants b)
  details_more kind.TooLarge b = behind_more Large b

  walk_more : file_from old has_key number item (Some line ∷ left) ≡ file_from old has_key (number + 1) (Some (next_item number item line pending)) left
      → Walk old has_key first (number + 1) (Some (next_item number item line pending)) (lines ++ line ∷ []) left → Walk old has_key first number item lines (Some line ∷ left)
  walk_more runs (inl w) =
      let shorter = w.shorter in
      let count : number + 1 + length w.tail ≡ number + length (line ∷ w.tail) = omega arith in
      inl (record {
        tail = line ∷ w.tail;
        statement = w.statement;
        rest = w.rest;
        parsed = ap (λ xs. Some line ∷ xs) w.parsed;
        is_entry = subst (λ all. IsEntry old all w.statement) (longer w.tail) w.is_entry;
        placed = subst (λ all. IsPlaced has_key all w.statement) (longer w.tail) w.placed;
        shorter = omega (arith, shorter);
        runs = runs ∙ w.runs ∙ ap (λ n. onto_file (one_numbered first w.statement) (file_from old (key_behind_entry w.statement has_key) n None w.rest)) count;
      })
  walk_more runs (inr (inl f)) = inr (inl (record { what = f.what; runs = runs ∙ f.runs; details = details_more f.what f.details }))
  walk_more runs (inr (inr (none, bad))) = absurd (some bad)
    where
      some : ◌≡◌ {A = Option Item} (Some (next_item number item line pending)) None → ⊥
      some e = cc

-- one line of an entry
module _ (old has_key : Bool) (first number : ℕ) (item : Option Item) (lines : List (List ℕ)) (line : List ℕ) (left : List (Option (List ℕ))) (first_is : first_of number item ≡ first) (room_is : room_after item line ≡ (MOST_ELEMENT_BYTES + 1) - units_of (lines ++ line ∷ [])) where
  taken : (found : Scan) → line_scan old (pending_of item) line ≡ found → file_from old has_key number item (Some line ∷ left) ≡ after_turn (rest_file old (number + 1) left) (scanned first has_key ((MOST_ELEMENT_BYTES + 1) - units_of (lines ++ line ∷ [])) found)
  taken found e =
      ap (λ scan. after_turn (rest_file old (number + 1) left) (scanned (first_of number item) has_key (room_after item line) scan)) e
      ∙ ap (λ room. after_turn (rest_file old (number + 1) left) (scanned (first_of number item) has_key room found)) room_is
      ∙ ap (λ n. after_turn (rest_file old (number + 1) left) (scanned n has_key ((MOST_ELEMENT_BYTES + 1) - units_of (lines ++ line ∷ [])) found)) first_is

  no_key : (wants key : Bool) → (wants && not key) ≡ true → (wants ≡ true) × (key ≡ false)
  no_key true false h = (refl, refl)
  no_key true true h = absurd (bad h)
    where
      bad : false ≡ true → ⊥
      bad e = cc
  no_key false key h = absurd (bad h)
    where
      bad : false ≡ true → ⊥
      bad e = cc

  key_there : (wants key : Bool) → (wants && not key) ≡ false → wants ≡ true → key ≡ true
  key_there true true h e = refl
  key_there true false h e = absurd (bad h)
    where
      bad : true ≡ false → ⊥
      bad k = cc
  key_there false key h e = absurd (bad e)
    where
      bad : false ≡ true → ⊥
      bad k = cc

  -- the statement that the line ends
  statement_ends : (statement : Statement) → line_scan old (pending_of item) line ≡ scan.Complete statement → IsStatement old (lines ++ line ∷ []) statement → Walk old has_key first number item lines (Some line ∷ left)
  statement_ends statement e s = elim (is_or_not (wants_key statement && not has_key)) [
    | inl none ↦
        let both = no_key (wants_key statement) has_key none in
        inr (inl (record {
          what = kind.NoKey;
          runs = taken (scan.Complete statement) e ∙ ap (λ test. after_turn (rest_file old (number + 1) left) (cond test (stop first kind.NoKey) (cond (room == 0) (stop first kind.TooLarge) (Done (key_after statement has_key) (record { line = first; statement = statement }))))) none;
          details = (both.1, (line ∷ [], statement, left, refl, s, both.0));
        }))
    | inr key ↦
        let judge : judged first has_key room statement ≡ cond (room == 0) (stop first kind.TooLarge) (Done (key_after statement has_key) (record { line = first; statement = statement })) = ap (λ test. cond test (stop first kind.NoKey) (cond (room == 0) (stop first kind.TooLarge) (Done (key_after statement has_key) (record { line = first; statement = statement })))) key in
        elim (is_or_not (room == 0)) [
          | inl full ↦
              let zero_room : room ≡ 0 = (Decides-eqb room 0).0 full in
              inr (inl (record {
                what = kind.TooLarge;
                runs = taken (scan.Complete statement) e ∙ ap (after_turn (rest_file old (number + 1) left)) (judge ∙ ap (λ test. cond test (stop first kind.TooLarge) (Done (key_after statement has_key) (record { line = first; statement = statement }))) full);
                details = (line ∷ [], statement, left, refl, s, omega (arith, zero_room));
              }))
          | inr some ↦
              let some_room : room ≢ 0 = λ z. no_zero z some in
              inl (record {
                tail = line ∷ [];
                statement = Some statement;
                rest = left;
                parsed = refl;
                is_entry = s;
                placed = (key_there (wants_key statement) has_key key, omega (arith, some_room));
                shorter = omega arith;
                runs = taken (scan.Complete statement) e ∙ ap (after_turn (rest_file old (number + 1) left)) (judge ∙ ap (λ test. cond test (stop first kind.TooLarge) (Done (key_after statement has_key) (record { line = first; statement = statement }))) some);
              })
        ]
  ]
    where
      room : ℕ
      room = (MOST_ELEMENT_BYTES + 1) - units_of (lines ++ line ∷ [])

      no_zero : room ≡ 0 → (room == 0) ≡ false → ⊥
      no_zero z h = bad (sym ((Decides-eqb room 0).1 z) ∙ h)
        where
          bad : true ≡ false → ⊥
          bad k = cc

units_behind : (lines : List (List ℕ)) (line next : List ℕ) → units_of ((lines ++ line ∷ []) ++ next ∷ []) ≡ units_of (lines ++ line ∷ []) + (length next + 1)
units_behind [] line next = omega arith
units_behind (first ∷ []) line next = omega arith
units_behind (first ∷ second ∷ lines) line next = let more = units_behind (second ∷ lines) line next in omega (arith, more)

-- the lines of an entry, from one of them on
pub walk : (left : List (Option (List ℕ))) (old has_key : Bool) (first number : ℕ) (item : Option Item) (lines : List (List ℕ)) → first_of number item ≡ first
    → ((line : List ℕ) → room_after item line ≡ (MOST_ELEMENT_BYTES + 1) - units_of (lines ++ line ∷ []))
    → ((line : List ℕ) → Means old (lines ++ line ∷ []) (line_scan old (pending_of item) line)) → MayGoOn old lines → Walk old has_key first number item lines left
walk [] old has_key first number None lines f r m g = inr (inr (refl, refl))
walk [] old has_key first number (Some item) lines f r m g =
    inr (inl (record { what = kind.NotUnderstood; runs = ap (λ n. stopped (record { line = n; kind = kind.NotUnderstood })) f; details = tt }))
walk (None ∷ left) old has_key first number item lines f r m g =
    inr (inl (record { what = kind.NotText; runs = ap (λ n. stopped (record { line = n; kind = kind.NotText })) f; details = ([], left, refl, subst (MayGoOn old) (sym (append-nil lines)) g) }))
walk (Some line ∷ left) old has_key first number item lines f r m g =
    at_scan (λ pending ending. walk left old has_key first (number + 1) (Some (next_item number item line pending)) (lines ++ line ∷ []) f (more_room pending) (λ next. further_line_means old (lines ++ line ∷ []) next pending ending) (may_go_on old (lines ++ line ∷ []) pending ending))
    (line_scan old (pending_of item) line) refl (m line)
  where
    more_room : (pending : Pending) (next : List ℕ) → room_after (Some (next_item number item line pending)) next ≡ (MOST_ELEMENT_BYTES + 1) - units_of ((lines ++ line ∷ []) ++ next ∷ [])
    more_room pending next = let here = r line in let more = units_behind lines line next in omega (arith, here, more)

    at_scan : ((pending : Pending) → Ends old (lines ++ line ∷ []) pending → Walk old has_key first (number + 1) (Some (next_item number item line pending)) (lines ++ line ∷ []) left) → (found : Scan)
        → line_scan old (pending_of item) line ≡ found → Means old (lines ++ line ∷ []) found → Walk old has_key first number item lines (Some line ∷ left)
    at_scan go scan.Nothing e means =
        inl (record {
          tail = line ∷ [];
          statement = None;
          rest = left;
          parsed = refl;
          is_entry = means;
          placed = tt;
          shorter = omega arith;
          runs = taken old has_key first number item lines line left f (r line) scan.Nothing e;
        })
    at_scan go (scan.Complete statement) e means = statement_ends old has_key first number item lines line left f (r line) statement e means
    at_scan go (scan.GoesOn pending) e means = walk_more old has_key first number item lines line left pending (line_goes_on old has_key number item line left pending e) (go pending means)
    at_scan go scan.NotUnderstood e means = inr (inl (record { what = kind.NotUnderstood; runs = taken old has_key first number item lines line left f (r line) scan.NotUnderstood e; details = tt }))

-- the lines of an entry, from its first one on
pub walk_entry : (old has_key : Bool) (number : ℕ) (left : List (Option (List ℕ))) → Walk old has_key number number None [] left
walk_entry old has_key number left = walk left old has_key number number None [] refl (λ line. refl) (λ line. first_line_means old line) (inl refl)
