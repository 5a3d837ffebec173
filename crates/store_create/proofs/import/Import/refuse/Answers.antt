use Rattle.std.proofs.Common.{◌+◌, ap, refl}
use Rattle.store_create.specs.Imports.{Taken}
use Rattle.store_create.proofs.Takings.{taken_without_memory}
use Rattle.store_create.proofs.import.Import.refuse.Goals as goal

pub returns-clause-taken : goal.returns-clause-taken
returns-clause-taken c = λ files known has.
    taken_without_memory files known c.args.self.now _ has (ap (λ (t : Taken). t.count + 1) c.self.view_is) c.args.why c.requires.memory refl
