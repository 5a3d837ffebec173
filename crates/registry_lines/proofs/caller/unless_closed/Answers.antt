use Rattle.std.proofs.Common.{refl}
use Rattle.store_model.specs.declared.event.Event.TheVariants as event
use Rattle.published_trees.specs.declared.rule.TheConstants.{MOST_READERS}
use Rattle.registry_lines.proofs.caller.unless_closed.Goals as goal

pub returns-in_default-clause-refused : goal.returns-in_default-clause-refused
returns-in_default-clause-refused c sole origin trees number hives was is id denied = c.refusal_of.ensures sole origin trees number hives was is (event.Begin MOST_READERS id) refl denied
