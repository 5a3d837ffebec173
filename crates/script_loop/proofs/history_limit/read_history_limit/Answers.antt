use Rattle.std.proofs.Common.{◌≡◌, ◌∙◌, Some, ap}
use Rattle.script_syntax.specs.Lines.{line_of}
use Rattle.script_syntax.specs.Grammar.{BytesParseTo}
use Rattle.script_syntax.specs.declared.line.Line.TheVariants.{History}
use Rattle.script_loop.proofs.history_limit.read_history_limit.Goals as goal

-- by the grammar a history has room for 1 to 1,048,576 changes
pub invariant_of-result : goal.invariant_of-result
invariant_of-result c =
    let limit = c.in-Ok-History.limit in
    let parsed : line_of c.args.bytes.now ≡ Some (History limit) = c.in-Ok-History.ensures ∙ ap Some c.in-Ok-History.field-0-is in
    let words : BytesParseTo c.args.bytes.now (History limit) = c.parses_what_is_printed.ensures.parsed c.args.bytes.now (History limit) parsed in
    (words.1, words.2)
