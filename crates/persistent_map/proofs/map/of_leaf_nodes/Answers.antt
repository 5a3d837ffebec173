use Rattle.std.proofs.Common.{◌∙◌}
use Rattle.persistent_map.proofs.map.of_leaf_nodes.Goals as goal

pub returns-clause-entries : goal.returns-clause-entries
returns-clause-entries g c = c.in_ok-made.ensures.entries ∙ c.in_ok-level_4.ensures.entries ∙ c.in_ok-level_3.ensures.entries ∙ c.in_ok-level_2.ensures.entries
