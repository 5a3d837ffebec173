use Rattle.hive_flush_model.proofs.Sums.{same, front}
use Rattle.hive_flush_model.proofs.laws.right_sums_agree.Goals as goal

pub returns : goal.returns
returns c = record { same = λ sector long. same sector long; front = λ file long. front file long }
