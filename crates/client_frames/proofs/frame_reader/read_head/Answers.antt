use Rattle.std.proofs.Common.{take}
use Rattle.client_frames.proofs.Inputs.{no_head}
use Rattle.client_frames.proofs.frame_reader.read_head.Goals as goal

pub returns-clause-refused : goal.returns-clause-refused
returns-clause-refused g c =
    rw c.ok_or.ensures.value (no_head (g.R.Read.remaining c.args.reader.now) (g.R.Read.remaining c.read_text.new.reader) c.parse_head.result (take c.in_ok-len.len c.read_text.new.text) c.in_ok-len.ensures.text.1 c.in_ok-len.ensures.text.0 c.parse_head.ensures)
