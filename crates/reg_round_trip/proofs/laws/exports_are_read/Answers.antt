use Rattle.reg_round_trip.proofs.Reading.{export_is_read}
use Rattle.reg_round_trip.proofs.laws.exports_are_read.Goals as goal

pub returns : goal.returns
returns c = λ encoding hives limits can. export_is_read (record { wide = c.text_is_read.ensures.wide; crlf = c.text_is_read.ensures.crlf; read = c.files_are_parsed.ensures.read }) encoding hives limits can
