use Rattle.std.proofs.Common.{◌≡◌, ◌≤◌, length, take, drop}
use Rattle.reg_prefixes.specs.Words.{parted, onto_text}
use Rattle.reg_prefixes.proofs.word.parted.Given as goal

-- no place is named behind any of the first bytes
abbrev pub invariant-loop-unit : goal.invariant-loop-unit
invariant-loop-unit l = record { rest : l.rest ≡ drop l.at l.word; within : l.at ≤ length l.word; parted : parted l.word ≡ onto_text (take l.at l.word) (parted l.rest) }

abbrev pub decreases-loop-unit : goal.decreases-loop-unit
decreases-loop-unit l = length l.rest
