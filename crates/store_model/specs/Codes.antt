-- How trees and transactions are distinguished: by their parts.
use Rattle.std.specs.Prelude.{ℕ, List, refl}
use Rattle.std.specs.Coded.{Coded, code_by, coded×, coded_ℕ, coded_list, coded_option}
use Rattle.std.specs.FinMap as finite
use Rattle.reg_tree_parts.specs.Rows.{row_code}
use Rattle.reg_tree.specs.Maps.{TreeMap}
use Rattle.reg_tree.specs.declared.op.Op.{Op}
use Rattle.reg_tree.specs.contracts.op.Op as op
use Rattle.store_model.specs.Transactions.{Transaction, TxSlots}
use Rattle.store_model.specs.declared.handle.Outcome.{Outcome}
use Rattle.store_model.specs.contracts.handle.Outcome as outcome

abbrev pub trees_code : Coded (List TreeMap)
trees_code = coded_list (finite.code (coded_list (coded_list coded_ℕ)) row_code)

abbrev pub transaction_code : Coded Transaction
transaction_code =
    code_by (ℕ × (List ℕ × (ℕ × (Outcome × (List Op × ℕ)))))
    (coded× coded_ℕ (coded× (coded_list coded_ℕ) (coded× coded_ℕ (coded× outcome.the_row.coded (coded× (coded_list op.the_row.coded) coded_ℕ)))))
    (λ t. (t.session, (t.id, (t.generation, (t.outcome, (t.ops, t.moment))))))
    (λ p. record { session = p.0; id = p.1.0; generation = p.1.1.0; outcome = p.1.1.1.0; ops = p.1.1.1.1.0; moment = p.1.1.1.1.1 }) (λ _. refl)

abbrev pub tx_slots_code : Coded TxSlots
tx_slots_code = coded_list (coded_option transaction_code)
