-- The entries of an export: its statements, and the lines of each.
use Rattle.std.proofs.Common.{◌≡◌, ℕ, ◌+◌, Bool, true, false, List, [], ◌∷◌, ◌++◌, map, length, Option, Some, None, refl, sym, ◌∙◌, ap, ap₂, subst, inl, inr, arith, append_assoc, append-nil}
use Rattle.std.specs.List.{AllByRecursion, flat_map}
use Rattle.std.specs.FinMap as finite
use Rattle.std.proofs.lemmas.List.{length-append, map-append}
use Rattle.std.proofs.lemmas.Grind.{flat_map-append}
use Rattle.reg_tree_parts.specs.declared.value.Value.{Value}
use Rattle.key_walk.specs.KeyRows.{NamedRow}
use Rattle.reg_export.specs.RegTexts.{reg_path, reg_value_line, reg_key_lines, reg_hive_lines}
use Rattle.reg_file.specs.Grammar.{HasNoZero, IsKeyLine, Entry, IsEntry, AreEntries, entry_lines, numbered, one_numbered}
use Rattle.reg_file.specs.declared.statement.Statement.{Statement}
use Rattle.reg_file.specs.declared.statement.Statement.TheVariants.{CreateKey}
use Rattle.reg_file.specs.declared.statement.NumberedStatement.{NumberedStatement}
use Rattle.reg_round_trip.specs.Statements.{value_statement, key_statements, export_statements}
use Rattle.reg_round_trip.specs.Exports.{IsPrefixText, IsValueOfLimits, IsKeyOfLimits, IsHiveOfLimits}
use Rattle.reg_round_trip.proofs.Units.{all_both, not_true}
use Rattle.reg_round_trip.proofs.TextLines.{text_of, returned_lines, return_tail}
use Rattle.reg_round_trip.proofs.Values.{value_lines, value_text}
use Rattle.reg_round_trip.proofs.TextFacts.{AreTexts}
use Rattle.reg_round_trip.proofs.ValueLines.{value_read, value_texts, value_length}
use Rattle.reg_round_trip.proofs.Paths.{path_no_separator, path_no_minus, path_text}

-- the values of a key
abbrev pub values_of : NamedRow → List Value
values_of key = finite.values (let row = key.1 in row.values)

-- entries with their lines as they are written, without line ends
abbrev pub empty_entry : Entry
empty_entry = record { lines = [] ∷ []; statement = None }

abbrev pub value_entry : Value → Entry
value_entry value = record { lines = value_lines value; statement = Some (value_statement value) }

abbrev pub key_line : List ℕ → NamedRow → List ℕ
key_line prefix key = 91 ∷ (reg_path prefix key.0 ++ 93 ∷ [])

abbrev pub key_entries : List ℕ → NamedRow → List Entry
key_entries prefix key = record { lines = key_line prefix key ∷ []; statement = Some (CreateKey (reg_path prefix key.0)) } ∷ (map value_entry (values_of key) ++ empty_entry ∷ [])

abbrev pub hive_entries : List ℕ × List NamedRow → List Entry
hive_entries hive = flat_map (key_entries hive.0) hive.1

abbrev pub export_entries : List (List ℕ × List NamedRow) → List Entry
export_entries hives = flat_map hive_entries hives

-- the same, with the carriage returns that end their lines
abbrev pub entry_returned : Entry → Entry
entry_returned entry = record { lines = returned_lines entry.lines; statement = entry.statement }

-- lines of entries
pub lines_both : (front back : List Entry) → entry_lines (front ++ back) ≡ entry_lines front ++ entry_lines back
lines_both [] back = refl
lines_both (entry ∷ front) back = ap (λ ls. entry.lines ++ ls) (lines_both front back) ∙ sym (append_assoc entry.lines (entry_lines front) (entry_lines back))

pub lines_returned : (entries : List Entry) → entry_lines (map entry_returned entries) ≡ returned_lines (entry_lines entries)
lines_returned [] = refl
lines_returned (entry ∷ entries) = ap (λ ls. returned_lines entry.lines ++ ls) (lines_returned entries) ∙ sym (map-append (λ l. l ++ 13 ∷ []) entry.lines (entry_lines entries))

text_both : (front back : List (List ℕ)) → text_of (front ++ back) ≡ text_of front ++ text_of back
text_both front back = flat_map-append (λ l. l ++ 13 ∷ 10 ∷ []) front back

-- their text
abbrev entries_text : List Entry → List ℕ
entries_text entries = text_of (entry_lines entries)

entries_both : (front back : List Entry) → entries_text (front ++ back) ≡ entries_text front ++ entries_text back
entries_both front back = ap text_of (lines_both front back) ∙ text_both (entry_lines front) (entry_lines back)

values_text : (values : List Value) → entries_text (map value_entry values) ≡ flat_map reg_value_line values
values_text [] = refl
values_text (value ∷ values) = text_both (value_lines value) (entry_lines (map value_entry values)) ∙ ap₂ (λ xs ys. xs ++ ys) (value_text value) (values_text values)

key_text : (prefix : List ℕ) (key : NamedRow) → entries_text (key_entries prefix key) ≡ reg_key_lines prefix key
key_text prefix key =
    let path = reg_path prefix key.0 in
    let first : List ℕ = (91 ∷ (path ++ 93 ∷ [])) ++ 13 ∷ 10 ∷ [] in
    let values = flat_map reg_value_line (values_of key) in
    ap (λ xs. first ++ xs) (entries_both (map value_entry (values_of key)) (empty_entry ∷ []) ∙ ap (λ xs. xs ++ 13 ∷ 10 ∷ []) (values_text (values_of key)))
    ∙ sym (append_assoc first values (13 ∷ 10 ∷ []))

pub flat_text : {X : Type 0} (entries : X → List Entry) (text : X → List ℕ) → ((x : X) → entries_text (entries x) ≡ text x) → (xs : List X) → entries_text (flat_map entries xs) ≡ flat_map text xs
flat_text entries text h [] = refl
flat_text entries text h (x ∷ xs) = entries_both (entries x) (flat_map entries xs) ∙ ap₂ (λ ys zs. ys ++ zs) (h x) (flat_text entries text h xs)

pub export_text : (hives : List (List ℕ × List NamedRow)) → entries_text (export_entries hives) ≡ flat_map reg_hive_lines hives
export_text hives = flat_text hive_entries reg_hive_lines (λ hive. flat_text (key_entries hive.0) (reg_key_lines hive.0) (key_text hive.0) hive.1) hives

-- their statements
abbrev pub plain : NumberedStatement → Statement
plain numbered = numbered.statement

abbrev pub listed : Entry → List Statement
listed entry = one_listed entry.statement
  where
    one_listed : Option Statement → List Statement
    one_listed None = []
    one_listed (Some statement) = statement ∷ []

pub statements_plain : (number : ℕ) (entries : List Entry) → map plain (numbered number entries) ≡ flat_map listed entries
statements_plain number [] = refl
statements_plain number (entry ∷ entries) =
    map-append plain (one_numbered number entry.statement) (numbered (number + length entry.lines) entries) ∙ ap₂ (λ xs ys. xs ++ ys) (one entry.statement) (statements_plain (number + length entry.lines) entries)
  where
    one : (statement : Option Statement) → map plain (one_numbered number statement) ≡ listed (record { lines = entry.lines; statement = statement })
    one None = refl
    one (Some statement) = refl

returned_listed : (entries : List Entry) → flat_map listed (map entry_returned entries) ≡ flat_map listed entries
returned_listed [] = refl
returned_listed (entry ∷ entries) = ap (λ xs. listed entry ++ xs) (returned_listed entries)

values_listed : (values : List Value) → flat_map listed (map value_entry values) ≡ map value_statement values
values_listed [] = refl
values_listed (value ∷ values) = ap (λ xs. value_statement value ∷ xs) (values_listed values)

key_listed : (prefix : List ℕ) (key : NamedRow) → flat_map listed (key_entries prefix key) ≡ key_statements prefix key
key_listed prefix key =
    ap (λ xs. CreateKey (reg_path prefix key.0) ∷ xs)
    (flat_map-append listed (map value_entry (values_of key)) (empty_entry ∷ []) ∙ ap (λ xs. xs ++ []) (values_listed (values_of key)) ∙ append-nil (map value_statement (values_of key)))

flat_listed : {X : Type 0} (entries : X → List Entry) (statements : X → List Statement) → ((x : X) → flat_map listed (entries x) ≡ statements x) → (xs : List X) → flat_map listed (flat_map entries xs) ≡ flat_map statements xs
flat_listed entries statements h [] = refl
flat_listed entries statements h (x ∷ xs) = flat_map-append listed (entries x) (flat_map entries xs) ∙ ap₂ (λ ys zs. ys ++ zs) (h x) (flat_listed entries statements h xs)

pub export_listed : (hives : List (List ℕ × List NamedRow)) → flat_map listed (map entry_returned (export_entries hives)) ≡ export_statements hives
export_listed hives = returned_listed (export_entries hives) ∙ flat_listed hive_entries (λ hive. flat_map (key_statements hive.0) hive.1) (λ hive. flat_listed (key_entries hive.0) (key_statements hive.0) (key_listed hive.0) hive.1) hives

-- the grammar has them
empty_read : IsEntry false (returned_lines ([] ∷ [])) None
empty_read = (13 ∷ [], refl, return_tail)

abbrev GoOn : List Entry → Type 0
GoOn entries = (has_key : Bool) → AreEntries false has_key entries

values_read : (values : List Value) (rest : List Entry) → AllByRecursion IsValueOfLimits values → AllByRecursion (λ (v : Value). HasNoZero v.name) values → GoOn rest → AreEntries false true (map entry_returned (map value_entry values) ++ rest)
values_read [] rest v z go = go true
values_read (value ∷ values) rest v z go =
    (value_read value v.0 z.0, ((λ wants. refl), value_length value v.0), values_read values rest v.1 z.1 go)

key_read : (prefix : List ℕ) (key : NamedRow) (rest : List Entry) → IsPrefixText prefix → IsKeyOfLimits prefix key → AllByRecursion (λ (v : Value). HasNoZero v.name) (values_of key) → GoOn rest → GoOn (map entry_returned (key_entries prefix key) ++ rest)
key_read prefix key rest p k z go has_key =
    let path = reg_path prefix key.0 in
    let end = empty_entry ∷ [] in
    let values = map value_entry (values_of key) in
    let shape : (91 ∷ (path ++ 93 ∷ [])) ++ 13 ∷ [] ≡ 91 ∷ (path ++ 93 ∷ 13 ∷ []) = ap (λ xs. 91 ∷ xs) (append_assoc path (93 ∷ []) (13 ∷ [])) in
    let its_line : IsKeyLine ((91 ∷ (path ++ 93 ∷ [])) ++ 13 ∷ []) path = record { before = []; end = 13 ∷ []; parsed = shape; before_blanks = tt; is_tail = return_tail; last = ((λ e. absurd (omega (arith, e))), tt) } in
    let one = length-append (91 ∷ (path ++ 93 ∷ [])) (13 ∷ []) in
    let two = length-append path (93 ∷ []) in
    let short = k.short in
    let entries : map entry_returned (values ++ end) ++ rest ≡ map entry_returned values ++ (map entry_returned end ++ rest) =
    ap (λ xs. xs ++ rest) (map-append entry_returned values end) ∙ append_assoc (map entry_returned values) (map entry_returned end) rest in (
      ((91 ∷ (path ++ 93 ∷ [])) ++ 13 ∷ [], path, refl, its_line, path_no_minus prefix key.0 p, inr (refl, path_no_separator prefix key.0 p k.names)),
      ((λ wants. absurd (not_true wants)), omega (arith, one, two, short)),
      subst (AreEntries false true) (sym entries) (values_read (values_of key) (map entry_returned end ++ rest) k.values z (λ key_there. (empty_read, tt, go key_there))),
    )

-- no name of a value has the unit 0
abbrev pub KeyHasNoZero : NamedRow → Type 0
KeyHasNoZero key = AllByRecursion (λ (v : Value). HasNoZero v.name) (values_of key)

keys_read : (prefix : List ℕ) (keys : List NamedRow) (rest : List Entry) → IsPrefixText prefix → AllByRecursion (IsKeyOfLimits prefix) keys → AllByRecursion KeyHasNoZero keys → GoOn rest → GoOn (map entry_returned (flat_map (key_entries prefix) keys) ++ rest)
keys_read prefix [] rest p k z go has_key = go has_key
keys_read prefix (key ∷ keys) rest p k z go has_key =
    let entries : map entry_returned (key_entries prefix key ++ flat_map (key_entries prefix) keys) ++ rest ≡ map entry_returned (key_entries prefix key) ++ (map entry_returned (flat_map (key_entries prefix) keys) ++ rest) =
    ap (λ xs. xs ++ rest) (map-append entry_returned (key_entries prefix key) (flat_map (key_entries prefix) keys)) ∙ append_assoc (map entry_returned (key_entries prefix key)) (map entry_returned (flat_map (key_entries prefix) keys)) rest in
    subst (AreEntries false has_key) (sym entries) (key_read prefix key (map entry_returned (flat_map (key_entries prefix) keys) ++ rest) p k.0 z.0 (keys_read prefix keys rest p k.1 z.1 go) has_key)

pub export_read : (hives : List (List ℕ × List NamedRow)) (rest : List Entry) → AllByRecursion IsHiveOfLimits hives → AllByRecursion (λ hive. AllByRecursion KeyHasNoZero hive.1) hives → GoOn rest → GoOn (map entry_returned (export_entries hives) ++ rest)
export_read [] rest h z go has_key = go has_key
export_read (hive ∷ hives) rest h z go has_key =
    let its = h.0 in
    let entries : map entry_returned (hive_entries hive ++ export_entries hives) ++ rest ≡ map entry_returned (hive_entries hive) ++ (map entry_returned (export_entries hives) ++ rest) =
    ap (λ xs. xs ++ rest) (map-append entry_returned (hive_entries hive) (export_entries hives)) ∙ append_assoc (map entry_returned (hive_entries hive)) (map entry_returned (export_entries hives)) rest in
    subst (AreEntries false has_key) (sym entries) (keys_read hive.0 hive.1 (map entry_returned (export_entries hives) ++ rest) its.prefix its.keys z.0 (export_read hives rest h.1 z.1 go) has_key)

-- something holds of all names of a key
pub record KeyFits (G : List ℕ → Type 0) (key : NamedRow) : Type 0 where
  pub path : AllByRecursion G key.0
  pub values : AllByRecursion (λ (v : Value). G v.name) (values_of key)

-- it holds of the lines
module _ (G : List ℕ → Type 0) (t : AreTexts G) where
  abbrev AreFit : List Entry → Type 0
  AreFit entries = AllByRecursion G (entry_lines entries)

  fit_both : (front back : List Entry) → AreFit front → AreFit back → AreFit (front ++ back)
  fit_both front back f b = subst (AllByRecursion G) (sym (lines_both front back)) (all_both G (entry_lines front) (entry_lines back) f b)

  fit_flat : {X : Type 0} (Q : X → Type 0) (entries : X → List Entry) → ((x : X) → Q x → AreFit (entries x)) → (xs : List X) → AllByRecursion Q xs → AreFit (flat_map entries xs)
  fit_flat Q entries h [] all = tt
  fit_flat Q entries h (x ∷ xs) all = fit_both (entries x) (flat_map entries xs) (h x all.0) (fit_flat Q entries h xs all.1)

  values_fit : (values : List Value) → AllByRecursion IsValueOfLimits values → AllByRecursion (λ (v : Value). G v.name) values → AreFit (map value_entry values)
  values_fit [] v n = tt
  values_fit (value ∷ values) v n = all_both G (value_lines value) (entry_lines (map value_entry values)) (value_texts G t value v.0 n.0) (values_fit values v.1 n.1)

  key_fits : (prefix : List ℕ) → IsPrefixText prefix → (key : NamedRow) → IsKeyOfLimits prefix key × KeyFits G key → AreFit (key_entries prefix key)
  key_fits prefix p key k =
      let limits = k.0 in
      let fits = k.1 in
      let path = reg_path prefix key.0 in (
        t.both (91 ∷ []) (path ++ 93 ∷ []) (t.prints (91 ∷ []) (refl, tt)) (t.both path (93 ∷ []) (path_text G t prefix key.0 (t.prints prefix p.units) fits.path) (t.prints (93 ∷ []) (refl, tt))),
        fit_both (map value_entry (values_of key)) (empty_entry ∷ []) (values_fit (values_of key) limits.values fits.values) (t.prints [] tt, tt),
      )

  pub export_fits : (hives : List (List ℕ × List NamedRow)) → AllByRecursion (λ hive. IsPrefixText hive.0 × AllByRecursion (λ key. IsKeyOfLimits hive.0 key × KeyFits G key) hive.1) hives → AreFit (export_entries hives)
  export_fits hives all = fit_flat (λ hive. IsPrefixText hive.0 × AllByRecursion (λ key. IsKeyOfLimits hive.0 key × KeyFits G key) hive.1) hive_entries (λ hive h. fit_flat (λ key. IsKeyOfLimits hive.0 key × KeyFits G key) (key_entries hive.0) (key_fits hive.0 h.0) hive.1 h.1) hives all
