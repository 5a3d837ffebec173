use Rattle.hive_edit.proofs.FoundKeys.{slot_found}
use Rattle.hive_edit.proofs.keys.find_subkey.Goals as goal

pub returns : goal.returns
returns c = λ root minor tree path found. slot_found c.args.image.now.bytes root minor tree path c.args.key _ c.in-Ok.cell.now c.in-Ok-read.node c.in_ok-slot.slot found c.in-Ok.ensures.found.1 c.in-Ok-read.ensures.1 c.if-node-eq0.false c.in_ok-slot.ensures.0 c.in_ok-slot.ensures.1
