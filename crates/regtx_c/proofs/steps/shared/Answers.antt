-- A node with the same row and the same subkeys is the same.
use Rattle.std.proofs.Common.{Some, sym, ap, ◌∙◌}
use Rattle.regtx_c.proofs.Ways.{same_node}
use Rattle.regtx_c.proofs.steps.shared.Goals as goal

pub returns-clause-same : goal.returns-clause-same
returns-clause-same c =
    let new = c.in_ok-same in
    same_node c.args.key.now new.same c.key.ensures.node new.ensures.node (new.ensures.here ∙ ap Some c.in_ok-row.ensures ∙ sym c.key.ensures.here) new.ensures.below
