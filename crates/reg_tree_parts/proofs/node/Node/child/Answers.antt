use Rattle.std.proofs.Common.{Some, None}
use Rattle.persistent_map.specs.Listings.{entries}
use Rattle.reg_tree_parts.specs.Nodes.{root_name}
use Rattle.reg_names.specs.Names.{folded}
use Rattle.reg_tree_parts.proofs.NodeLists.{rows_of_found, names_of_found}
use Rattle.reg_tree_parts.proofs.node.Node.child.Goals as goal

pub find-requires : goal.find-requires
find-requires c = record { fits = c.self.invariant.fits; sorted = c.self.invariant.rises }

pub returns-in-Some-clause-found : goal.returns-in-Some-clause-found
returns-in-Some-clause-found c = rw (← c.self.view_is) (rows_of_found (entries root_name c.self.inside.subkeys) c.self.invariant.rises c.self.inside.key (folded c.args.name.now) (Some c.in-Some.child.now) c.in-Some.ensures.found)

pub returns-in-Some-clause-names : goal.returns-in-Some-clause-names
returns-in-Some-clause-names c = rw (← c.self.view_is) (names_of_found (entries root_name c.self.inside.subkeys) c.self.invariant.rises c.self.inside.key (folded c.args.name.now) (Some c.in-Some.child.now) c.in-Some.ensures.found)

pub returns-in-None-clause-none : goal.returns-in-None-clause-none
returns-in-None-clause-none c = rw (← c.self.view_is) (rows_of_found (entries root_name c.self.inside.subkeys) c.self.invariant.rises c.self.inside.key (folded c.args.name.now) None c.in-None.ensures.found)
