-- What the bytes hold is the file's tree, and want of memory may always be told.
use Rattle.regtx_c.proofs.Openings.{holds_parts, refused_memory}
use Rattle.regtx_c.proofs.opening.loaded.Goals as goal

pub returns-clause-refused : goal.returns-clause-refused
returns-clause-refused c = refused_memory c.args.copy.items

pub returns-in-Ok-boxed-clause-holds : goal.returns-in-Ok-boxed-clause-holds
returns-in-Ok-boxed-clause-holds c =
    let held = c.in-Ok.held in
    rw c.in-Ok-boxed.ensures.tree (holds_parts c.args.copy.items held.bins.items held.block held.tree c.in-Ok.ensures.has c.in-Ok.ensures.tree)
