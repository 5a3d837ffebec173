-- What is told of statements that are tried, one after another.
use Rattle.std.proofs.Common.{◌≡◌, ℕ, ◌==◌, true, false, cond, List, [], ◌∷◌, ◌++◌, length, Option, refl, sym, ◌∙◌, ap, subst, append_assoc, append-nil}
use Rattle.std.specs.List.{flat_map, list_any}
use Rattle.reply_lines.specs.declared.status.Status.TheVariants as status
use Rattle.reg_prefixes.specs.declared.prefix.Prefix.{Prefix}
use Rattle.change_plan.specs.Plans.{Planned}
use Rattle.reg_file.specs.declared.statement.NumberedStatement.{NumberedStatement}
use Rattle.reg_apply.specs.declared.place.Place.{Place}
use Rattle.reg_apply.specs.declared.place.Denial.{Denial}
use Rattle.reg_apply.specs.declared.outcome.ApplyOutcome.{ApplyOutcome}
use Rattle.reg_apply.specs.Checks.{TellsDenial, TriesStatement, TriesStatements, check_status, check_text, is_refusal}
use Rattle.reg_apply.specs.Outcomes.{outcome_line}

pub one_tried : (prefixes : List Prefix) (hives : ℕ) (first : Option Place) (old : Planned) (front : List NumberedStatement) (current : Option Place) (told : List ApplyOutcome) (mid : Planned) (stop : NumberedStatement) (next : Option Place) (denial : Option Denial) (one : List ApplyOutcome) (new : Planned)
    → TriesStatements prefixes hives first old front current told mid → TriesStatement prefixes hives current mid stop.statement next denial new → TellsDenial stop.line denial one → TriesStatements prefixes hives first old (front ++ stop ∷ []) next (told ++ one) new
one_tried prefixes hives first old [] current told mid stop next denial one new tried tries tells = (
  next,
  denial,
  new,
  subst (λ c. TriesStatement prefixes hives c old stop.statement next denial new) tried.0 (subst (λ m. TriesStatement prefixes hives current m stop.statement next denial new) tried.2 tries),
  one,
  tells,
  [],
  (refl, refl, refl),
  ap (λ (t : List ApplyOutcome). t ++ one) tried.1 ∙ sym (append-nil one),
)
one_tried prefixes hives first old (its ∷ front) current told mid stop next denial one new tried tries tells = (
  tried.0,
  tried.1,
  tried.2,
  tried.3,
  tried.4,
  tried.5,
  tried.6 ++ one,
  one_tried prefixes hives tried.0 tried.2 front current tried.6 mid stop next denial one new tried.7 tries tells,
  ap (λ (t : List ApplyOutcome). t ++ one) tried.8 ∙ append_assoc tried.4 tried.6 one,
)

-- the text and the status of what is told
pub some_text : (told : List ApplyOutcome) → (length told == 0) ≡ false → flat_map outcome_line told ≡ check_text told
some_text [] some = absurd (let no : ⊥ = cc in no)
some_text (outcome ∷ told) some = refl

pub refused_status : (told : List ApplyOutcome) → list_any is_refusal told ≡ true → status.Refused ≡ check_status told
refused_status [] some = absurd (let no : ⊥ = cc in no)
refused_status (outcome ∷ told) some = sym (ap (λ b. cond b status.Refused status.Wrong) some)

pub wrong_status : (told : List ApplyOutcome) → (length told == 0) ≡ false → list_any is_refusal told ≡ false → status.Wrong ≡ check_status told
wrong_status [] some none = absurd (let no : ⊥ = cc in no)
wrong_status (outcome ∷ told) some none = sym (ap (λ b. cond b status.Refused status.Wrong) none)
