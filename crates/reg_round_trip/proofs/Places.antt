-- Places and denials of `reg_apply`, which keeps the names of these types to itself: they are taken from what uses them.
use Rattle.std.proofs.Common.{◌≡◌, ℕ, List, [], Option, None, Result, Ok, Err, refl}
use Rattle.std.specs.Prelude.{IsOk, IsErr}
use Rattle.reg_prefixes.specs.declared.prefix.Prefix.{Prefix}
use Rattle.reg_file.specs.declared.statement.Statement.{Statement}
use Rattle.change_plan.specs.declared.edit.Edit.{Edit}
use Rattle.change_plan.specs.declared.edit.Edit.TheVariants.{RemoveKey}
use Rattle.refusals.specs.declared.refusal.Refusal.{Refusal}
use Rattle.reg_apply.specs.Statements.{asked, current_key, placed, placed_in, with_name}

abbrev place_type : {A D : Type 0} → (List Prefix → ℕ → Option A → Statement → Result (Edit × Option A) D) → Type 0
place_type {A} f = A

abbrev denial_type : {A D : Type 0} → (List Prefix → ℕ → Option A → Statement → Result (Edit × Option A) D) → Type 0
denial_type {D = D} f = D

abbrev pub Place : Type 0
Place = place_type asked

abbrev pub Denial : Type 0
Denial = denial_type asked

pub not_ok : (A : Type 0) {D : Type 0} (e : D) → IsOk {T = A} (Err e) → ⊥
not_ok A e h = cc

abbrev ok_value : {A D : Type 0} → (r : Result A D) → IsOk r → A
ok_value {A} (Ok x) h = x
ok_value {A} (Err e) h = absurd (not_ok A e h)

-- the key at a path of a hive
abbrev pub place_at : ℕ → List (List ℕ) → Place
place_at hive path = ok_value (placed hive (Ok path)) refl

pub not_err : {A : Type 0} (D : Type 0) (x : A) → IsErr {T = A} {E = D} (Ok x) → ⊥
not_err D x h = cc

abbrev err_value : {A D : Type 0} → (r : Result A D) → IsErr r → D
err_value {D = D} (Ok x) h = absurd (not_err D x h)
err_value {D = D} (Err e) h = e

-- a denial for this refusal
abbrev pub refused : Refusal → Denial
refused why = err_value (with_name (Err why) (λ name. Ok (RemoveKey 0 [], None))) refl

-- a denial since no key is current, or since there is no such hive
abbrev pub no_key : Denial
no_key = err_value (current_key None) refl

abbrev pub no_hive : Denial
no_hive = err_value (placed_in 0 None) refl

-- they differ
pub key_apart : (why : Refusal) → no_key ≡ refused why → ⊥
key_apart why e = cc

pub hive_apart : (why : Refusal) → no_hive ≡ refused why → ⊥
hive_apart why e = cc

pub same_refusal : (why other : Refusal) → refused why ≡ refused other → why ≡ other
same_refusal why other e = cc
