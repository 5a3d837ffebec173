use Rattle.std.proofs.Common.{ℕ, List, Option}
use Rattle.script_loop.specs.Runs.{EndsLoop, end_after}
use Rattle.script_loop.proofs.line_loop.run_lines.Given as goal

-- however the loop ends from here, that is how it ends from the first line, with the refusals so far
abbrev pub invariant-loop-number : goal.invariant-loop-number
invariant-loop-number g l =
    let A = g.A.Answerer in
    let remaining = g.R.Read.remaining in
    let contents = g.W.Write.contents in
    (ended : _) (new : _) (rest after : Option (List ℕ)) → EndsLoop A.answers A.stops A.is_none A.unanswered l.answerer l.number (remaining l.reader) (contents l.writer) ended new rest after
    → EndsLoop A.answers A.stops A.is_none A.unanswered l.fn.answerer l.fn.first (remaining l.fn.reader) (contents l.fn.writer) (end_after l.has_refusal ended) new rest after
