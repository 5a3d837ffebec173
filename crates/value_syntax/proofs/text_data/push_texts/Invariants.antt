use Rattle.std.proofs.Common.{◌≡◌, ℕ, List, ◌++◌, false}
use Rattle.value_syntax.specs.Steps.{written_before}
use Rattle.value_syntax.proofs.text_data.push_texts.Given as goal

-- whatever characters follow, all is written in the end
abbrev pub invariant-loop-c : goal.invariant-loop-c
invariant-loop-c l = (rest : List ℕ) → written_before l.bytes.items l.is_held rest ≡ written_before l.fn.bytes.items false (l.yielded ++ rest)
