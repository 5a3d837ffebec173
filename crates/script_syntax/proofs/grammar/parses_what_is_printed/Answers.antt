use Rattle.script_syntax.proofs.ParsedLines.{read_line, parsed_line, one_line}
use Rattle.script_syntax.proofs.grammar.parses_what_is_printed.Goals as goal

pub returns-clause-read : goal.returns-clause-read
returns-clause-read c = read_line

pub returns-clause-parsed : goal.returns-clause-parsed
returns-clause-parsed c = parsed_line

pub returns-clause-one : goal.returns-clause-one
returns-clause-one c = one_line
