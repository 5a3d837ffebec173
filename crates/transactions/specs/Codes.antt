-- How tables of transactions are distinguished: by their parts.
use Rattle.std.specs.Prelude.{ℕ, List, refl}
use Rattle.std.specs.Coded.{Coded, code_by, coded×, coded_ℕ}
use Rattle.reg_tree.specs.Maps.{TreeMap}
use Rattle.store_model.specs.Codes.{trees_code, tx_slots_code}
use Rattle.store_model.specs.Transactions.{TxSlots}
use Rattle.transactions.specs.Tables.{Table}

abbrev pub table_code : Coded Table
table_code =
    code_by (List TreeMap × (ℕ × (TxSlots × (ℕ × (ℕ × ℕ))))) (coded× trees_code (coded× coded_ℕ (coded× tx_slots_code (coded× coded_ℕ (coded× coded_ℕ coded_ℕ)))))
    (λ t. (t.trees, (t.number, (t.tx_slots, (t.begun, (t.hives, t.aside)))))) (λ p. record { trees = p.0; number = p.1.0; tx_slots = p.1.1.0; begun = p.1.1.1.0; hives = p.1.1.1.1.0; aside = p.1.1.1.1.1 }) (λ _. refl)
