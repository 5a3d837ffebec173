use Rattle.hive_cells.proofs.image.Image.merges_from.Goals as goal

pub returns-in-None-clause-freed : goal.returns-in-None-clause-freed
returns-in-None-clause-freed c new from f = f.merges.none_before c.in-None.ensures
