use Rattle.std.proofs.Common.{refl}
use Rattle.hive_edit.proofs.FoundValues.{value_at_index}
use Rattle.hive_edit.proofs.values.find_value.Goals as goal

pub returns-clause-found : goal.returns-clause-found
returns-clause-found c = (
  refl,
  λ root minor tree path found.
      value_at_index c.args.image.now.bytes root minor tree path c.args.key _ c.in_ok-index.index c.get.result c.in-Ok.cell.now c.in-Ok-read.node c.in-Ok-cell.list.now found c.in-Ok.ensures.found.1 c.in-Ok-read.ensures.1 c.in-Ok-cell.ensures.found.1 c.in_ok-index.ensures.0 c.get.ensures c.in_ok-index.ensures.1,
)
