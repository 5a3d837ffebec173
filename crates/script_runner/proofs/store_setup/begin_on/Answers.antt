use Rattle.std.proofs.Common.{Some, ◌∙◌, ap}
use Rattle.script_syntax.specs.declared.line.Line.TheVariants.{Hives}
use Rattle.script_runner.proofs.store_setup.begin_on.Goals as goal

pub store_in_session_0-requires-clause-some : goal.store_in_session_0-requires-clause-some
store_in_session_0-requires-clause-some c = (c.parses_what_is_printed.ensures.parsed c.args.bytes.now (Hives c.in-Ok-Hives.count) (c.in-Ok-Hives.ensures ∙ ap Some c.in-Ok-Hives.field-0-is)).1

pub store_in_session_0-requires-clause-few : goal.store_in_session_0-requires-clause-few
store_in_session_0-requires-clause-few c = (c.parses_what_is_printed.ensures.parsed c.args.bytes.now (Hives c.in-Ok-Hives.count) (c.in-Ok-Hives.ensures ∙ ap Some c.in-Ok-Hives.field-0-is)).2
