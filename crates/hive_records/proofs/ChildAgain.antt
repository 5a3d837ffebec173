-- The law of keys, met by a key of an image that was written by hand.
use Rattle.std.proofs.Common.{◌≡◌, [], ◌∷◌, true, refl, Ok, arith}
use Rattle.hive_records.specs.KeyNodes.{keys_in}
use Rattle.hive_records.specs.Example.{full_cells, child_row}
use Rattle.hive_records.specs.KeyEncodings.{RowFits, KeyNodeFieldsFit}
use Rattle.hive_records.specs.Wholes.{child_fields}
use Rattle.hive_records.proofs.KeysAgain.{security_again, no_class}
use Rattle.hive_records.proofs.WholesAgain.{no_values, no_subkeys}
use Rattle.hive_records.proofs.NodesAgain.{key_again}

row_fits : RowFits child_row
row_fits = record { units = (omega arith, tt); no_backslash = refl; name = omega arith; class = omega arith; flags = omega arith; not_spelling = refl; not_predefined = refl; time = omega arith }

places_fit : KeyNodeFieldsFit child_fields
places_fit = record { subkey_total = omega arith; subkey_list = omega arith; value_count = omega arith; values = omega arith; security = omega arith; class = omega arith }

pub child_again : keys_in true full_cells 120 ≡ Ok (record { name = 0x41 ∷ []; row = child_row; subkey_list = []; own = 120 ∷ []; lent = 280 ∷ [] })
child_again = key_again true full_cells 120 child_row child_fields [] (280 ∷ []) [] [] [] row_fits places_fit ([], refl) (no_class full_cells _)
    (security_again full_cells 280 0 0 0 (9 ∷ 8 ∷ []) (omega arith) (omega arith) ([], refl)) (no_values true full_cells _) (no_subkeys full_cells _)
