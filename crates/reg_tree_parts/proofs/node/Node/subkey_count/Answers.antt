use Rattle.std.proofs.Common.{◌∙◌, refl, ap, sym, length}
use Rattle.persistent_map.specs.Listings.{entries}
use Rattle.reg_tree_parts.specs.Nodes.{root_name}
use Rattle.reg_tree_parts.proofs.NodeLists.{length-names}
use Rattle.reg_tree_parts.proofs.Subkeys.{subkeys_again, has_subkeys}
use Rattle.reg_tree_parts.proofs.node.Node.subkey_count.Goals as goal

pub len-requires : goal.len-requires
len-requires c = c.self.invariant.fits

pub returns-clause-names : goal.returns-clause-names
returns-clause-names c = rw (← c.self.view_is) (c.len.ensures ∙ length-names c.self.inside.key (entries root_name c.self.inside.subkeys) c.self.invariant.nodes)

pub returns-clause-subkeys : goal.returns-clause-subkeys
returns-clause-subkeys c = rw (← c.self.view_is) (c.len.ensures ∙ ap length (sym (subkeys_again c.self.inside.key (entries root_name c.self.inside.subkeys) c.self.invariant.nodes c.self.invariant.rises)))

pub returns-clause-has : goal.returns-clause-has
returns-clause-has c = rw (← c.self.view_is) (has_subkeys c.self.inside.key c.self.inside.subkeys.repr (entries root_name c.self.inside.subkeys) refl c.self.invariant.nodes c.self.invariant.rises)
