-- Each refusal's number is found in the table of refusals, and no two refusals but for their hive have one number.
use Rattle.std.proofs.Common.{◌≡◌, ℕ, Bool, true, false, ◌==◌, cond, List, [], ◌∷◌, find, Option, Some, refl, sym, ap, ◌∙◌, subst}
use mathlib.Core.Bool.{false≢true}
use Rattle.std.proofs.lemmas.Bool.{eqb-true}
use Rattle.std.proofs.lemmas.Option.{none-some}
use Rattle.refusals.specs.declared.refusal.Cause.{Cause}
use Rattle.refusals.specs.declared.refusal.Refusal.{Refusal}
use Rattle.refusals.specs.declared.refusal.Cause.TheVariants as cause
use Rattle.refusals.specs.declared.refusal.Refusal.TheVariants as refusal
use Rattle.refusals.specs.Refusals.{refusal_text}
use Rattle.hive_file_reader.specs.Readings.{of_hive}
use Rattle.regtx_c.specs.declared.texts.TheConstants.{REFUSALS}
use Rattle.regtx_c.specs.Codes.{refusal_code, damage_code}
use Rattle.regtx_c.specs.Texts.{IsTextOf}
use Rattle.regtx_c.specs.CodeNames.{is_damage, refusal_code_name, IsCodeName, TellsDamage}

abbrev pub found : ℕ → Option Refusal
found code = find (λ why. refusal_code why == code) REFUSALS

found_damage : (c : Cause) → found (damage_code c) ≡ Some (refusal.HiveDamaged 0 c)
found_damage cause.Truncated = refl
found_damage cause.BadBase = refl
found_damage cause.BadBin = refl
found_damage cause.BadCell = refl
found_damage cause.BadOffset = refl
found_damage cause.BadRecord = refl
found_damage cause.BadList = refl
found_damage cause.BadName = refl
found_damage cause.Shared = refl
found_damage cause.BadLog = refl
found_damage cause.NotClean = refl
found_damage cause.BadStore = refl
found_damage cause.TooLarge = refl

pub found_by_code : (why : Refusal) → found (refusal_code why) ≡ Some (of_hive 0 why)
found_by_code refusal.NoMemory = refl
found_by_code refusal.NotFound = refl
found_by_code refusal.HasSubkeys = refl
found_by_code refusal.BadName = refl
found_by_code refusal.TooDeep = refl
found_by_code refusal.TooLarge = refl
found_by_code refusal.Conflict = refl
found_by_code refusal.NotActive = refl
found_by_code refusal.NoSuchHandle = refl
found_by_code refusal.NoSeat = refl
found_by_code refusal.JournalFull = refl
found_by_code refusal.HistoryFull = refl
found_by_code refusal.DiskFault = refl
found_by_code refusal.Faulted = refl
found_by_code (refusal.HiveDamaged hive c) = found_damage c
found_by_code refusal.JournalDamaged = refl
found_by_code refusal.Unsupported = refl
found_by_code refusal.Fixed = refl

some_same : (x y : Refusal) → Some x ≡ Some y → x ≡ y
some_same x y is = cc

-- what is found has the number
passes : (code : ℕ) (b : Bool) (x : Refusal) (xs : List Refusal) (why : Refusal) → b ≡ (refusal_code x == code) → ((w : Refusal) → find (λ v. refusal_code v == code) xs ≡ Some w → (refusal_code w == code) ≡ true)
    → cond b (Some x) (find (λ v. refusal_code v == code) xs) ≡ Some why → (refusal_code why == code) ≡ true
passes code true x xs why test rest is = subst (λ (w : Refusal). (refusal_code w == code) ≡ true) (some_same x why is) (sym test)
passes code false x xs why test rest is = rest why is

has_code : (code : ℕ) (xs : List Refusal) (why : Refusal) → find (λ v. refusal_code v == code) xs ≡ Some why → (refusal_code why == code) ≡ true
has_code code [] why is = absurd (none-some why is)
has_code code (x ∷ xs) why is = passes code (refusal_code x == code) x xs why refl (has_code code xs) is

pub text_of_found : (code : ℕ) (why : Refusal) → found code ≡ Some why → IsTextOf code (refusal_text why)
text_of_found code why is = record {
  refused = λ other same. ap refusal_text (some_same why (of_hive 0 other) (sym is ∙ ap found (sym same) ∙ found_by_code other));
  other = λ none. absurd (none why (eqb-true (refusal_code why) code (has_code code REFUSALS why is)));
}

-- damage has one name, of whatever hive it is
named_alike : (why : Refusal) → refusal_code_name (of_hive 0 why) ≡ refusal_code_name why
named_alike refusal.NoMemory = refl
named_alike refusal.NotFound = refl
named_alike refusal.HasSubkeys = refl
named_alike refusal.BadName = refl
named_alike refusal.TooDeep = refl
named_alike refusal.TooLarge = refl
named_alike refusal.Conflict = refl
named_alike refusal.NotActive = refl
named_alike refusal.NoSuchHandle = refl
named_alike refusal.NoSeat = refl
named_alike refusal.JournalFull = refl
named_alike refusal.HistoryFull = refl
named_alike refusal.DiskFault = refl
named_alike refusal.Faulted = refl
named_alike (refusal.HiveDamaged hive c) = refl
named_alike refusal.JournalDamaged = refl
named_alike refusal.Unsupported = refl
named_alike refusal.Fixed = refl

pub name_of_found : (code : ℕ) (why : Refusal) → found code ≡ Some why → IsCodeName code (refusal_code_name why)
name_of_found code why is = record {
  refused = λ other same. ap refusal_code_name (some_same why (of_hive 0 other) (sym is ∙ ap found (sym same) ∙ found_by_code other)) ∙ named_alike other;
  other = λ none. absurd (none why (eqb-true (refusal_code why) code (has_code code REFUSALS why is)));
}

-- damage has the number of its cause
cause_of : (why : Refusal) → is_damage why ≡ true → (c : Cause) × (damage_code c ≡ refusal_code why)
cause_of refusal.NoMemory is = absurd (false≢true is)
cause_of refusal.NotFound is = absurd (false≢true is)
cause_of refusal.HasSubkeys is = absurd (false≢true is)
cause_of refusal.BadName is = absurd (false≢true is)
cause_of refusal.TooDeep is = absurd (false≢true is)
cause_of refusal.TooLarge is = absurd (false≢true is)
cause_of refusal.Conflict is = absurd (false≢true is)
cause_of refusal.NotActive is = absurd (false≢true is)
cause_of refusal.NoSuchHandle is = absurd (false≢true is)
cause_of refusal.NoSeat is = absurd (false≢true is)
cause_of refusal.JournalFull is = absurd (false≢true is)
cause_of refusal.HistoryFull is = absurd (false≢true is)
cause_of refusal.DiskFault is = absurd (false≢true is)
cause_of refusal.Faulted is = absurd (false≢true is)
cause_of (refusal.HiveDamaged hive c) is = (c, refl)
cause_of refusal.JournalDamaged is = absurd (false≢true is)
cause_of refusal.Unsupported is = absurd (false≢true is)
cause_of refusal.Fixed is = absurd (false≢true is)

pub damage_found : (code : ℕ) (why : Refusal) → found code ≡ Some why → (told : Bool) → told ≡ is_damage why → TellsDamage code told
damage_found code why is true so =
    let of = cause_of why (sym so) in (of.0, of.1 ∙ eqb-true (refusal_code why) code (has_code code REFUSALS why is))
damage_found code why is false so = λ damage.
    let same : why ≡ refusal.HiveDamaged 0 damage.0 = some_same why (refusal.HiveDamaged 0 damage.0) (sym is ∙ ap found (sym damage.1) ∙ found_damage damage.0) in
    false≢true (so ∙ ap is_damage same)
