use Rattle.client_frames.proofs.Apart.{one_reading}
use Rattle.client_frames.proofs.laws.bytes_have_one_reading.Goals as goal

pub returns : goal.returns
returns c = one_reading
