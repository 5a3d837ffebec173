use Rattle.std.proofs.Common.{refl}
use Rattle.persistent_map.specs.Listings.{entries}
use Rattle.reg_tree_parts.specs.Nodes.{root_name}
use Rattle.reg_tree_parts.proofs.Subkeys.{subkeys_again, smaller_if, has_subkeys}
use Rattle.reg_tree_parts.proofs.node.Node.subkey_at.Goals as goal

pub at-requires : goal.at-requires
at-requires c = c.self.invariant.fits

pub returns-clause-at : goal.returns-clause-at
returns-clause-at c = rw (← c.self.view_is, subkeys_again c.self.inside.key (entries root_name c.self.inside.subkeys) c.self.invariant.nodes c.self.invariant.rises) c.at.ensures

pub returns-clause-smaller : goal.returns-clause-smaller
returns-clause-smaller c = rw (← c.self.view_is) (smaller_if c.self.inside.key (entries root_name c.self.inside.subkeys) c.args.index c.at.result c.at.ensures)

pub returns-clause-has : goal.returns-clause-has
returns-clause-has c = rw (← c.self.view_is) (has_subkeys c.self.inside.key c.self.inside.subkeys.repr (entries root_name c.self.inside.subkeys) refl c.self.invariant.nodes c.self.invariant.rises)
