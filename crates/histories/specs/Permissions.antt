-- Who may ask for events.
use Rattle.std.specs.Prelude.{ℕ, Bool, cond, Option, Some, None, refl}
use Rattle.std.specs.Coded.{Coded, code_by, coded×, coded_bool, coded_ℕ}

-- whether one may ask for events, and for how many it has asked
pub record Right : Type 0 where
  pub held : Bool
  pub asked : ℕ

abbrev pub right_code : Coded Right
right_code = code_by (Bool × ℕ) (coded× coded_bool coded_ℕ) (λ r. (r.held, r.asked)) (λ p. record { held = p.0; asked = p.1 }) (λ _. refl)

-- how many parts of the ledger a permission has: all of them if one owner alone may ask, and else one
abbrev pub parts_each : Bool → ℕ → ℕ
parts_each sole parts = cond sole parts 1

abbrev pub asked_by : {S : Type 0} → (S → ℕ) → Option S → ℕ
asked_by amount None = 0
asked_by amount (Some share) = amount share

-- how many permissions are left, and how many events were asked for with those that came back
pub record Pool : Type 0 where
  pub left : ℕ
  pub asked : ℕ

abbrev pub pool_code : Coded Pool
pool_code = code_by (ℕ × ℕ) (coded× coded_ℕ coded_ℕ) (λ r. (r.left, r.asked)) (λ p. record { left = p.0; asked = p.1 }) (λ _. refl)
