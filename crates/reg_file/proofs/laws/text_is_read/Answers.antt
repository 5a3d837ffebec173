use Rattle.reg_file.proofs.EncodedLines.{read_ascii, read_wide, read_odd, read_crlf}
use Rattle.reg_file.proofs.laws.text_is_read.Goals as goal

pub returns-clause-ascii : goal.returns-clause-ascii
returns-clause-ascii c = read_ascii

pub returns-clause-wide : goal.returns-clause-wide
returns-clause-wide c = read_wide

pub returns-clause-odd : goal.returns-clause-odd
returns-clause-odd c = read_odd

pub returns-clause-crlf : goal.returns-clause-crlf
returns-clause-crlf c = read_crlf
