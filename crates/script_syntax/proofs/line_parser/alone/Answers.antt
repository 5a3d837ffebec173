use Rattle.std.proofs.Common.{◌∙◌, ap}
use Rattle.std.specs.Option.{option_copied}
use Rattle.word_syntax.specs.Parts.{parts_of}
use Rattle.script_syntax.specs.Lines.{alone}
use Rattle.script_syntax.proofs.WordLists.{not_alone}
use Rattle.script_syntax.proofs.line_parser.alone.Goals as goal

pub returns-in-Some : goal.returns-in-Some
returns-in-Some c = ap (λ rest. alone c.args.line (parts_of 32 (option_copied rest))) c.in-Some.is ∙ not_alone c.args.line c.in-Some.field-0.now
