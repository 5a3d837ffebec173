use Rattle.persistent_map.proofs.Copies.{added_values}
use Rattle.persistent_map.proofs.map_node.extend.Goals as goal

pub returns : goal.returns
returns g c = added_values c.args.made.now.items c.extend_with_clones.new.self.items c.args.items.now c.in_ok-extend_with_clones.ensures.items
