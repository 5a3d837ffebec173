use Rattle.std.proofs.Common.{Some, sym, ◌∙◌, ap}
use Rattle.std.specs.Option.{option_map}
use Rattle.persistent_map.specs.Listings.{entries}
use Rattle.reg_tree_parts.specs.Nodes.{root_name, spelled_root}
use Rattle.reg_tree_parts.proofs.NodeLists.{names_at}
use Rattle.reg_tree_parts.proofs.node.Node.subkey.Goals as goal

pub at-requires : goal.at-requires
at-requires c = c.self.invariant.fits

pub returns-in-Some : goal.returns-in-Some
returns-in-Some c = rw (← c.self.view_is, names_at c.self.inside.key (entries root_name c.self.inside.subkeys) c.self.invariant.nodes c.args.index)
    (ap Some (c.name.ensures ∙ sym c.key.ensures.spelled) ∙ ap (option_map spelled_root) c.in-Some.ensures)

pub returns-in-None : goal.returns-in-None
returns-in-None c = rw (← c.self.view_is, names_at c.self.inside.key (entries root_name c.self.inside.subkeys) c.self.invariant.nodes c.args.index) (ap (option_map spelled_root) c.in-None.ensures)
