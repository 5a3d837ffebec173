use Rattle.std.proofs.Common.{[], append-nil, sym, ◌∙◌, ap}
use Rattle.std.specs.Arc.{arc_value}
use Rattle.reg_names.specs.Names.{folded_path}
use Rattle.reg_tree_parts.specs.Nodes.{row_at}
use Rattle.reg_tree.proofs.Rows.{row_is, subkeys_are}
use Rattle.reg_tree.proofs.tree.Tree.node.Goals as goal

pub returns-in-Some-clause-found : goal.returns-in-Some-clause-found
returns-in-Some-clause-found c rest = rw (← c.self.view_is, row_is _ c.self.invariant.node, ← c.deref.ensures) (c.in-Some.ensures.found rest)

pub returns-in-Some-clause-key : goal.returns-in-Some-clause-key
returns-in-Some-clause-key c = rw (← c.self.view_is, row_is _ c.self.invariant.node, ← c.deref.ensures)
    (ap (row_at c.deref.result.now) (sym (append-nil (folded_path c.args.path.now))) ∙ c.in-Some.ensures.found [])

pub returns-in-Some-clause-names : goal.returns-in-Some-clause-names
returns-in-Some-clause-names c = rw (← c.self.view_is, subkeys_are (arc_value c.self.inside.root) c.self.invariant.node (folded_path c.args.path.now), ← c.deref.ensures) c.in-Some.ensures.names

pub returns-in-None-clause-none : goal.returns-in-None-clause-none
returns-in-None-clause-none c rest = rw (← c.self.view_is, row_is _ c.self.invariant.node, ← c.deref.ensures) (c.in-None.ensures.none rest)

pub returns-in-None-clause-missing : goal.returns-in-None-clause-missing
returns-in-None-clause-missing c = rw (← c.self.view_is, row_is _ c.self.invariant.node, ← c.deref.ensures)
    (ap (row_at c.deref.result.now) (sym (append-nil (folded_path c.args.path.now))) ∙ c.in-None.ensures.none [])
