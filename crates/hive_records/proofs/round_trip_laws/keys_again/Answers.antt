use Rattle.hive_records.proofs.NodesAgain.{key_again}
use Rattle.hive_records.proofs.round_trip_laws.keys_again.Goals as goal

pub returns : goal.returns
returns c = λ split cells at row its class lent values lists subkey_list fits near h a b d e. key_again split cells at row its class lent values lists subkey_list fits near h a b d e
