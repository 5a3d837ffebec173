use Rattle.hive_load.proofs.OneEncoding.{known_encoding}
use Rattle.hive_load.proofs.laws.one_encoding.Goals as goal

pub returns : goal.returns
returns c = λ bytes root minor tree tiles cells shows some. known_encoding bytes root minor tree tiles cells shows some
