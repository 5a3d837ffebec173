use Rattle.std.proofs.Common.{rules}
use Rattle.client_frames.proofs.Inputs.{exactly, read_after, read_none}
use Rattle.client_frames.proofs.frame_reader.read_frame.Goals as goal

pub returns-in_err-head-clause-exact : goal.returns-in_err-head-clause-exact
returns-in_err-head-clause-exact g c =
    let known = g.R.Read.remaining c.args.reader.now in
    exactly known c.from_residual.result (read_none known c.from_residual.result (search rules) (search rules))

pub returns-clause-exact : goal.returns-clause-exact
returns-clause-exact g c =
    let known = g.R.Read.remaining c.args.reader.now in
    let mid = g.R.Read.remaining c.read_head.new.reader in
    let after = g.R.Read.remaining c.read_rest.new.reader in
    exactly known c.read_rest.result (read_after known mid after c.in_ok-head.head c.read_rest.result c.in_ok-head.ensures.head.1 c.read_rest.ensures.frame c.read_rest.ensures.refused)
