use Rattle.change_codec.proofs.Operations.{op_law}
use Rattle.change_codec.proofs.Lengths.{op_length}
use Rattle.change_codec.proofs.laws.operation.Goals as goal

pub returns : goal.returns
returns c = record { encoding = λ hives most. op_law hives most; length = λ op. op_length op }
