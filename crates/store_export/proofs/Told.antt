-- How an export is told.
use Rattle.std.proofs.Common.{◌≡◌, ℕ, List, [], ◌∷◌, ◌++◌, true, if◌then◌else◌, Option, Some, None, Result, Ok, Err, OnOk, IfOk, IfErr, inl, inr, sym, ◌∙◌, ap, subst}
use Rattle.std.specs.Prelude.{slice_get}
use Rattle.std.specs.Io.KnownBytes.{Appends, Keeps}
use Rattle.refusals.specs.Refusals.{refusal_text}
use Rattle.reg_names.specs.Names.{folded_path}
use Rattle.reg_tree.specs.Maps.{TreeMap, is_there}
use Rattle.key_walk.specs.SubtreeRows.{rows_below}
use Rattle.reply_lines.specs.declared.status.Status.{Status}
use Rattle.store_export.specs.declared.request.ExportRequest.{ExportRequest}
use Rattle.store_export.specs.declared.report.ExportError.{ExportError}
use Rattle.store_export.specs.declared.report.ExportError.TheVariants as error
use Rattle.store_export.specs.Exports.{CannotShow, EndsEarly, HiveRows, MayRefuse, RowsRefused, ShowsAsked, ShowsRows, asked_rows, part_rows}
use Rattle.store_export.specs.Reports.{IsTold, ReportsTrees}

pub if_ok : {T E : Type 0} {P Q : T → Type 0} (answer : Result T E) → ((x : T) → P x → Q x) → IfOk answer P → IfOk answer Q
if_ok (Ok x) f p = f x p
if_ok (Err e) f p = tt

-- a text was written, and then nothing; or nothing, and then a text
appends_kept : (old mid new : Option (List ℕ)) (text : List ℕ) → Appends old mid text → Keeps mid new → Appends old new text
appends_kept None mid new text a k = tt
appends_kept (Some xs) None new text a k = absurd a
appends_kept (Some xs) (Some ys) None text a k = absurd k
appends_kept (Some xs) (Some ys) (Some zs) text a k = k ∙ a

pub kept_appends : (old mid new : Option (List ℕ)) (text : List ℕ) → Keeps old mid → Appends mid new text → Appends old new text
kept_appends None mid new text k a = tt
kept_appends (Some xs) None new text k a = absurd k
kept_appends (Some xs) (Some ys) None text k a = absurd a
kept_appends (Some xs) (Some ys) (Some zs) text k a = a ∙ ap (λ bytes. bytes ++ text) k

pub rows_kept : (request : ExportRequest) (rows : Option (List HiveRows)) (old mid new : Option (List ℕ)) → ShowsRows request rows old mid → Keeps mid new → ShowsRows request rows old new
rows_kept request None old mid new shown kept = absurd shown
rows_kept request (Some hives) old mid new shown kept = (shown.0, shown.1, appends_kept old mid new shown.0 shown.2 kept)

-- what was printed of trees, and told, is a report of them
pub trees_reported : {T : Type 0} (printed : Result T ExportError) (request : ExportRequest) (trees : List TreeMap) (old mid new : Option (List ℕ)) (its_status : Status)
    → OnOk printed (ShowsAsked request trees old mid) → IfErr printed (λ fault. EndsEarly (MayRefuse request trees) old mid fault) → IsTold printed mid new its_status → ReportsTrees request trees old new its_status
trees_reported (Ok done) request trees old mid new its_status shown refused told = inl (rows_kept request (asked_rows request trees) old mid new shown told.0, told.1)
trees_reported (Err (error.Refused why)) request trees old mid new its_status shown refused told =
    inr (why, refused.0, (kept_appends old mid new (refusal_text why ++ 10 ∷ []) refused.1 told.0, told.1))
trees_reported (Err error.CannotRead) request trees old mid new its_status shown refused told = absurd told
trees_reported (Err (error.Write fault)) request trees old mid new its_status shown refused told = absurd told

-- the keys of a part that is there
part_is : (hive : ℕ) (path : List (List ℕ)) (trees : List TreeMap) (tree : TreeMap) → slice_get trees hive ≡ Some tree → is_there tree path ≡ true
    → part_rows hive path (slice_get trees hive) ≡ Some ((hive, rows_below tree path) ∷ [])
part_is hive path trees tree there held = ap (part_rows hive path) there ∙ ap (λ b. if b then Some ((hive, rows_below tree path) ∷ []) else None) held

-- what is refused of them is refused of the part
pub part_refused : {T : Type 0} (printed : Result T ExportError) (request : ExportRequest) (hive : ℕ) (path names : List (List ℕ)) (trees : List TreeMap) (tree : TreeMap) (old new : Option (List ℕ))
    → slice_get trees hive ≡ Some tree → names ≡ path → is_there tree (folded_path names) ≡ true
    → IfErr printed (λ fault. EndsEarly (CannotShow request ((hive, rows_below tree (folded_path names)) ∷ [])) old new fault)
    → IfErr printed (λ fault. EndsEarly (RowsRefused request (part_rows hive (folded_path path) (slice_get trees hive))) old new fault)
part_refused printed request hive path names trees tree old new there same held refused =
    subst (λ ns. IfErr printed (λ fault. EndsEarly (RowsRefused request (part_rows hive (folded_path ns) (slice_get trees hive))) old new fault)) same
    (subst (λ rows. IfErr printed (λ fault. EndsEarly (RowsRefused request rows) old new fault)) (sym (part_is hive (folded_path names) trees tree there held)) refused)
