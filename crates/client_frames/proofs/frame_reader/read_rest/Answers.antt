use Rattle.std.proofs.Common.{rules}
use Rattle.client_frames.proofs.Inputs.{piece_refused}
use Rattle.client_frames.proofs.frame_reader.read_rest.Goals as goal

pub returns-in_err-piece-in-Data-clause-refused : goal.returns-in_err-piece-in-Data-clause-refused
returns-in_err-piece-in-Data-clause-refused g c =
    piece_refused (g.R.Read.remaining c.args.reader.now) c.args.head c.in-Data.place c.in-Data.count c.from_residual.result c.in-Data.is c.requires (search rules)
