use Rattle.std.proofs.Common.{◌≡◌, false, length}
use Rattle.reg_file.specs.Scanning.{quote_at, onto_quote}
use Rattle.reg_file.proofs.quote.read_quote.Given as goal

abbrev pub invariant-loop-unit : goal.invariant-loop-unit
invariant-loop-unit l = onto_quote l.text (quote_at l.escaped l.rest) ≡ onto_quote l.fn.text (quote_at false l.line)

abbrev pub decreases-loop-unit : goal.decreases-loop-unit
decreases-loop-unit l = length l.rest
