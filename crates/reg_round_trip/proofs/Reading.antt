-- An export is read as its statements.
use Rattle.std.proofs.Common.{◌≡◌, ◌≢◌, ℕ, ◌<◌, ◌^◌, Bool, true, false, not, List, [], ◌∷◌, ◌++◌, map, drop, Some, None, refl, sym, ◌∙◌, ap, inl, arith, append-nil, codes}
use Rattle.std.specs.Prelude.{◌==◌, All}
use Rattle.std.specs.List.{AllByRecursion, flat_map, list_all}
use Rattle.std.specs.Int.{w16, to_le_bytes}
use Rattle.std.proofs.lemmas.Bool.Decides.{Decides-eqb}
use Rattle.std.proofs.lemmas.Grind.{flat_map-append}
use Rattle.reg_names.specs.Printable.{is_printable}
use Rattle.reg_tree_parts.specs.declared.value.Value.{Value}
use Rattle.key_walk.specs.KeyRows.{NamedRow}
use Rattle.reg_export.specs.declared.encoding.Encoding.{Encoding}
use Rattle.reg_export.specs.declared.encoding.Encoding.TheVariants.{Utf8, Utf16}
use Rattle.reg_export.specs.NameTests.{are_chars, breaks_line, can_show, fits_line}
use Rattle.reg_export.specs.Scans.{shown_names}
use Rattle.reg_export.specs.Encodings.{encoded, mark}
use Rattle.reg_export.specs.CharLaws.{ascii_chars}
use Rattle.reg_export.specs.RegTexts.{reg_header, reg_units}
use Rattle.reg_export.specs.RegFiles.{file_names, reg_text}
use Rattle.reg_file.specs.Lines.{file_lines, unit_lines}
use Rattle.reg_file.specs.Files.{lines_file}
use Rattle.reg_file.specs.Grammar.{HasNoZero, IsLineEnd, Entry, AreEntries, entry_lines, numbered, IsFile}
use Rattle.reg_file.specs.declared.statement.NumberedStatement.{NumberedStatement}
use Rattle.reg_round_trip.specs.Statements.{export_statements}
use Rattle.reg_round_trip.specs.Exports.{IsPrefixText, IsBelowName, IsValueOfLimits, IsKeyOfLimits, IsHiveOfLimits, AreReadAs}
use Rattle.reg_round_trip.proofs.Units.{all_then, all_left, all_right, all_parts, all_mapped, all_pass, all_zip, both_true, not_true, not_false}
use Rattle.reg_round_trip.proofs.TextFacts.{AreTexts, each_unit, characters, printable_small}
use Rattle.reg_round_trip.proofs.TextLines.{text_of, returned_lines, return_ends, return_tail, lines_text, by_index}
use Rattle.reg_round_trip.proofs.Entries.{values_of, export_entries, entry_returned, lines_both, lines_returned, export_text, plain, listed, statements_plain, export_listed, KeyHasNoZero, export_read, KeyFits, export_fits}
use Rattle.reg_round_trip.proofs.Utf8Lines.{read_utf8}

abbrev Hives : Type 0
Hives = List (List ℕ × List NamedRow)

-- names that are shown, hive by hive and key by key
abbrev AllNames : (List ℕ → Type 0) → Hives → Type 0
AllNames P hives = AllByRecursion (λ hive. AllByRecursion (λ key. AllByRecursion P (shown_names key)) hive.1) hives

names_of : (P : List ℕ → Type 0) (hives : Hives) → AllByRecursion P (file_names hives) → AllNames P hives
names_of P hives all =
    all_then (λ hive. AllByRecursion P (flat_map shown_names hive.1)) (λ hive. AllByRecursion (λ key. AllByRecursion P (shown_names key)) hive.1) (λ hive a. all_parts P shown_names hive.1 a) hives (all_parts P (λ hive. flat_map shown_names hive.1) hives all)

-- a unit that breaks no line
unbroken : (u : ℕ) → not (breaks_line u) ≡ true → (u ≢ 0) × ((u == 10) ≡ false)
unbroken u h = ((λ z. not_false (sym h ∙ ap (λ v. not (breaks_line v)) z)), no_feed (u == 10) refl)
  where
    no_feed : (test : Bool) → (u == 10) ≡ test → test ≡ false
    no_feed false e = refl
    no_feed true e = absurd (not_false (sym h ∙ ap (λ v. not (breaks_line v)) ((Decides-eqb u 10).0 e)))

printable_feed : (u : ℕ) → is_printable u ≡ true → (u == 10) ≡ false
printable_feed u h = no_feed (u == 10) refl
  where
    no_feed : (test : Bool) → (u == 10) ≡ test → test ≡ false
    no_feed false e = refl
    no_feed true e = absurd (not_false (sym h ∙ ap is_printable ((Decides-eqb u 10).0 e)))

-- all names of a key by what its shown names are
key_names : (G Q : List ℕ → Type 0) → ((name : List ℕ) → Q name → G name) → (key : NamedRow) → AllByRecursion Q (shown_names key) → KeyFits G key
key_names G Q h key all =
    let names = map (λ (value : Value). value.name) (values_of key) in
    record {
      path = all_then Q G h key.0 (all_left Q key.0 names all);
      values = all_then (λ (v : Value). Q v.name) (λ (v : Value). G v.name) (λ v q. h v.name q) (values_of key) (all_mapped Q (λ (value : Value). value.name) (values_of key) (all_right Q key.0 names all));
    }

abbrev AreFitHives : (List ℕ → Type 0) → Hives → Type 0
AreFitHives G hives = AllByRecursion (λ hive. IsPrefixText hive.0 × AllByRecursion (λ key. IsKeyOfLimits hive.0 key × KeyFits G key) hive.1) hives

-- hives fit where their names do
fit_hives : (G Q : List ℕ → Type 0) → ((name : List ℕ) → Q name → G name) → (hives : Hives) → AllByRecursion IsHiveOfLimits hives → AllNames Q hives → AreFitHives G hives
fit_hives G Q h [] l n = tt
fit_hives G Q h (hive ∷ hives) l n =
    let its = l.0 in
    ((its.prefix, all_zip (IsKeyOfLimits hive.0) (λ key. AllByRecursion Q (shown_names key)) (λ key. IsKeyOfLimits hive.0 key × KeyFits G key) (λ key k q. (k, key_names G Q h key q)) hive.1 its.keys n.0), fit_hives G Q h hives l.1 n.1)

-- units of 16 bits, by the limits
abbrev AreWide : List ℕ → Type 0
AreWide units = AllByRecursion (λ u. u < 2 ^ 16) units

wide_names : (prefix : List ℕ) (key : NamedRow) → IsKeyOfLimits prefix key → KeyFits AreWide key
wide_names prefix key k = record {
  path = all_then IsBelowName AreWide (λ name b. b.units) key.0 k.names;
  values = all_then IsValueOfLimits (λ (v : Value). AreWide v.name) (λ v l. l.units) (values_of key) k.values;
}

wide_hives : (hives : Hives) → AllByRecursion IsHiveOfLimits hives → AreFitHives AreWide hives
wide_hives [] l = tt
wide_hives (hive ∷ hives) l =
    let its = l.0 in
    ((its.prefix, all_then (IsKeyOfLimits hive.0) (λ key. IsKeyOfLimits hive.0 key × KeyFits AreWide key) (λ key k. (k, wide_names hive.0 key k)) hive.1 its.keys), wide_hives hives l.1)

-- all lines
abbrev header : List ℕ
header = codes "Windows Registry Editor Version 5.00"

abbrev lines_of : Hives → List (List ℕ)
lines_of hives = header ∷ [] ∷ entry_lines (export_entries hives)

lines_fit : (G : List ℕ → Type 0) → AreTexts G → (hives : Hives) → AreFitHives G hives → AllByRecursion G (lines_of hives)
lines_fit G t hives fit = (t.prints header (all_pass is_printable header refl), (t.prints [] tt, export_fits G t hives fit))

units_are : (hives : Hives) → text_of (lines_of hives) ≡ reg_units hives
units_are hives = ap (λ xs. reg_header ++ xs) (export_text hives)

no_feeds : (lines : List (List ℕ)) → AllByRecursion (AllByRecursion (λ u. (u == 10) ≡ false)) lines → AllByRecursion (λ line. All (λ unit. (unit == 10) ≡ false) line) lines
no_feeds lines all = all_then (AllByRecursion (λ u. (u == 10) ≡ false)) (λ line. All (λ unit. (unit == 10) ≡ false) line) (λ line a. by_index (λ u. (u == 10) ≡ false) line a) lines all

-- the entries of a file, behind its header
abbrev last_entry : Entry
last_entry = record { lines = [] ∷ []; statement = None }

abbrev file_entries : Hives → List Entry
file_entries hives = record { lines = (13 ∷ []) ∷ []; statement = None } ∷ (map entry_returned (export_entries hives) ++ last_entry ∷ [])

file_lines_are : (hives : Hives) → returned_lines (lines_of hives) ++ [] ∷ [] ≡ (header ++ 13 ∷ []) ∷ entry_lines (file_entries hives)
file_lines_are hives =
    ap (λ ls. (header ++ 13 ∷ []) ∷ (13 ∷ []) ∷ ls) (ap (λ ls. ls ++ [] ∷ []) (sym (lines_returned (export_entries hives))) ∙ sym (lines_both (map entry_returned (export_entries hives)) (last_entry ∷ [])))

only_end : IsLineEnd []
only_end = record { blanks = []; are_blanks = tt; parsed = inl refl }

last_read : (has_key : Bool) → AreEntries false has_key (last_entry ∷ [])
last_read has_key = (([], refl, inl only_end), tt, tt)

entries_read : (hives : Hives) → AllByRecursion IsHiveOfLimits hives → AllByRecursion (λ hive. AllByRecursion KeyHasNoZero hive.1) hives → AreEntries false false (file_entries hives)
entries_read hives h z = ((13 ∷ [], refl, return_tail), tt, export_read hives (last_entry ∷ []) h z last_read false)

file_read : (hives : Hives) → AllByRecursion IsHiveOfLimits hives → AllByRecursion (λ hive. AllByRecursion KeyHasNoZero hive.1) hives → IsFile (returned_lines (lines_of hives) ++ [] ∷ []) (numbered 2 (file_entries hives))
file_read hives h z = record {
  old = false;
  header = header ++ 13 ∷ [];
  entries = file_entries hives;
  parsed = file_lines_are hives;
  is_header = record { blanks = []; end = 13 ∷ []; parsed = refl; are_blanks = tt; is_end = return_ends };
  are_entries = entries_read hives h z;
  spelled = refl;
}

statements_are : (hives : Hives) → map plain (numbered 2 (file_entries hives)) ≡ export_statements hives
statements_are hives =
    statements_plain 2 (file_entries hives) ∙ flat_map-append listed (map entry_returned (export_entries hives)) (last_entry ∷ []) ∙ append-nil (flat_map listed (map entry_returned (export_entries hives))) ∙ export_listed hives

-- names that fit lines have no unit 0
no_zeros : (hives : Hives) → AllNames (λ name. fits_line name ≡ true) hives → AllByRecursion (λ hive. AllByRecursion KeyHasNoZero hive.1) hives
no_zeros hives names = all_then (λ hive. AllByRecursion (λ key. AllByRecursion (λ name. fits_line name ≡ true) (shown_names key)) hive.1) (λ hive. AllByRecursion KeyHasNoZero hive.1)
    (λ hive keys. all_then (λ key. AllByRecursion (λ name. fits_line name ≡ true) (shown_names key)) KeyHasNoZero key_no_zero hive.1 keys) hives names
  where
    name_no_zero : (name : List ℕ) → fits_line name ≡ true → HasNoZero name
    name_no_zero name fits = all_then (λ u. not (breaks_line u) ≡ true) (λ u. u ≢ 0) (λ u h. (unbroken u h).0) name (all_pass (λ u. not (breaks_line u)) name fits)

    key_no_zero : (key : NamedRow) → AllByRecursion (λ name. fits_line name ≡ true) (shown_names key) → KeyHasNoZero key
    key_no_zero key all =
        let names = map (λ (value : Value). value.name) (values_of key) in
        all_then (λ (v : Value). fits_line v.name ≡ true) (λ (v : Value). HasNoZero v.name) (λ v f. name_no_zero v.name f) (values_of key) (all_mapped (λ name. fits_line name ≡ true) (λ (value : Value). value.name) (values_of key) (all_right (λ name. fits_line name ≡ true) key.0 names all))

name_feeds : (name : List ℕ) → fits_line name ≡ true → AllByRecursion (λ u. (u == 10) ≡ false) name
name_feeds name fits = all_then (λ u. not (breaks_line u) ≡ true) (λ u. (u == 10) ≡ false) (λ u h. (unbroken u h).1) name (all_pass (λ u. not (breaks_line u)) name fits)

-- what is known of reading
pub record ReadsText : Type 0 where
  pub wide : (units : List ℕ) → AllByRecursion (λ unit. unit < 2 ^ 16) units → file_lines (255 ∷ 254 ∷ flat_map (to_le_bytes w16) units) ≡ unit_lines units
  pub crlf : (lines : List (List ℕ)) → AllByRecursion (λ line. All (λ unit. (unit == 10) ≡ false) line) lines → unit_lines (flat_map (λ line. line ++ 13 ∷ 10 ∷ []) lines) ≡ map Some (map (λ line. line ++ 13 ∷ []) lines ++ [] ∷ [])
  pub read : (lines : List (List ℕ)) (statements : List NumberedStatement) → IsFile lines statements → lines_file (map Some lines) ≡ record { statements = statements; fault = None }

-- what a file that can show its names is read as
encoded_units : ReadsText → (encoding : Encoding) (hives : Hives) → AllByRecursion IsHiveOfLimits hives → can_show encoding (file_names hives) ≡ true → file_lines (reg_text encoding hives) ≡ unit_lines (text_of (lines_of hives))
encoded_units r encoding hives h can = by_encoding encoding can
  where
    wide_fit : AreWide (text_of (lines_of hives))
    wide_fit =
        let t = each_unit (λ u. u < 2 ^ 16) (λ u p. let small = printable_small u p in omega (arith, small)) in lines_text AreWide t (omega arith, (omega arith, tt)) (lines_of hives) (lines_fit AreWide t hives (wide_hives hives h))

    chars_fit : list_all are_chars (file_names hives) ≡ true → are_chars (text_of (lines_of hives)) ≡ true
    chars_fit e =
        let names = names_of (λ name. are_chars name ≡ true) hives (all_pass are_chars (file_names hives) e) in
        lines_text (λ units. are_chars units ≡ true) characters (ascii_chars (13 ∷ 10 ∷ []) (omega arith, (omega arith, tt))) (lines_of hives) (lines_fit (λ units. are_chars units ≡ true) characters hives (fit_hives (λ units. are_chars units ≡ true) (λ name. are_chars name ≡ true) (λ name are. are) hives h names))

    by_encoding : (encoding : Encoding) → can_show encoding (file_names hives) ≡ true → file_lines (reg_text encoding hives) ≡ unit_lines (text_of (lines_of hives))
    by_encoding Utf8 can =
        let both = both_true (list_all fits_line (file_names hives)) (list_all are_chars (file_names hives)) can in
        ap (λ units. file_lines (encoded Utf8 units)) (sym (units_are hives)) ∙ read_utf8 (drop 1 (text_of (lines_of hives))) wide_fit (chars_fit both.1)
    by_encoding Utf16 can = ap (λ units. file_lines (255 ∷ 254 ∷ flat_map (to_le_bytes w16) units)) (sym (units_are hives)) ∙ r.wide (text_of (lines_of hives)) wide_fit

-- in each encoding no name breaks a line
names_fit : (encoding : Encoding) (names : List (List ℕ)) → can_show encoding names ≡ true → list_all fits_line names ≡ true
names_fit Utf8 names can = (both_true (list_all fits_line names) (list_all are_chars names) can).0
names_fit Utf16 names can = can

pub export_is_read : ReadsText → (encoding : Encoding) (hives : Hives) → AllByRecursion IsHiveOfLimits hives → can_show encoding (file_names hives) ≡ true → AreReadAs (reg_text encoding hives) (export_statements hives)
export_is_read r encoding hives h can =
    let names = names_of (λ name. fits_line name ≡ true) hives (all_pass fits_line (file_names hives) (names_fit encoding (file_names hives) can)) in
    let NoFeeds : List ℕ → Type 0 = AllByRecursion (λ u. (u == 10) ≡ false) in
    let feeds = lines_fit NoFeeds (each_unit (λ u. (u == 10) ≡ false) printable_feed) hives (fit_hives NoFeeds (λ name. fits_line name ≡ true) name_feeds hives h names) in
    let lines = returned_lines (lines_of hives) ++ [] ∷ [] in
    let are_lines : file_lines (reg_text encoding hives) ≡ map Some lines = encoded_units r encoding hives h can ∙ r.crlf (lines_of hives) (no_feeds (lines_of hives) feeds) in
    let is_file = file_read hives h (no_zeros hives names) in
    record {
      lines = lines;
      numbered = numbered 2 (file_entries hives);
      are_lines = are_lines;
      is_file = is_file;
      is_parsed = ap lines_file are_lines ∙ r.read lines (numbered 2 (file_entries hives)) is_file;
      are_statements = statements_are hives;
    }
