use Rattle.crash_model.proofs.OnePrefix.{only_one}
use Rattle.crash_model.proofs.KeepSteps.{safe}
use Rattle.crash_model.proofs.one_prefix.Goals as goal

pub returns : goal.returns
returns g c = record {
  exists = λ r most hives state kept. safe r most hives state kept;
  only = λ r most hives s held n m ts us. only_one r most hives s held n m ts us;
}
