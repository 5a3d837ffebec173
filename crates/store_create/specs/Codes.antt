-- How what an import shows is split into its parts.
use Rattle.std.specs.Prelude.{ℕ, List, Result, refl}
use Rattle.std.specs.Coded.{Coded, code_by, coded×, coded_ℕ, coded_list, coded_result}
use Rattle.refusals.specs.declared.refusal.Refusal.{Refusal}
use Rattle.refusals.specs.contracts.refusal.Refusal as refusal
use Rattle.store_create.specs.Imports.{Taken}

abbrev pub taken_code : Coded Taken
taken_code =
    code_by (ℕ × Result (List (List ℕ)) Refusal) (coded× coded_ℕ (coded_result (coded_list (coded_list coded_ℕ)) refusal.the_row.coded))
    (λ t. (t.count, t.outcome)) (λ p. record { count = p.0; outcome = p.1 }) (λ _. refl)
