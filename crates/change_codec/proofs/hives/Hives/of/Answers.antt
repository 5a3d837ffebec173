use Rattle.std.proofs.Common.{◌∙◌, ap, sym}
use Rattle.std.proofs.lemmas.Option.{none-some}
use Rattle.change_codec.specs.Changes.{hives_read}
use Rattle.change_codec.proofs.hives.Hives.of.Goals as goal

pub invariant_of-result : goal.invariant_of-result
invariant_of-result c = λ none. none-some _ (sym none ∙ c.ops_in-left.ensures.1)

pub returns : goal.returns
returns c = ap hives_read c.ops_in-left.ensures.1
