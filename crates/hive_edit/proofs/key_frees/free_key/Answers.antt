use Rattle.std.proofs.Common.{ap, Ok}
use Rattle.hive_cells.specs.Tiles.{cell_data}
use Rattle.hive_edit.proofs.KeyFrees.{all_freed}
use Rattle.hive_edit.proofs.key_frees.free_key.Goals as goal

pub returns-in-Done-clause-freed : goal.returns-in-Done-clause-freed
returns-in-Done-clause-freed c = λ is root tree path found. all_freed c.args.image.now.bytes root tree path c.args.key found c.free_values.new.image.bytes c.free_node.new.image.bytes
    (c.in_ok-free_values.ensures.freed (ap Ok c.in-Done.is) root tree path found) (c.free_node.ensures.freed is (cell_data c.args.image.now.bytes c.args.key) c.in-Some.ensures)
