use Rattle.hive_cells.proofs.CellFills.{two_parts}
use Rattle.hive_cells.proofs.image.put_filled.Goals as goal

pub returns-clause-encoding : goal.returns-clause-encoding
returns-clause-encoding c = two_parts c.args.bytes.now c.put_bytes.new.bytes c.put_zeros.new.bytes c.args.source.now _ c.args.from c.args.to c.requires.room c.requires.within c.put_bytes.ensures.written.len c.put_bytes.ensures.encoding c.put_zeros.ensures.written c.put_zeros.ensures.zeros
