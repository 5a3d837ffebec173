use Rattle.std.proofs.Common.{◌≡◌}
use Rattle.std.specs.Option.{option_copied}
use Rattle.script_syntax.specs.Words.{units_of}
use Rattle.script_syntax.proofs.Escapes.{units_from, left}
use Rattle.script_syntax.proofs.word_parser.text.Given as goal

abbrev pub invariant-loop-rest : goal.invariant-loop-rest
invariant-loop-rest l = units_from l.units.items (option_copied l.rest) ≡ units_of l.word

abbrev pub decreases-loop-rest : goal.decreases-loop-rest
decreases-loop-rest l = left (option_copied l.rest)
