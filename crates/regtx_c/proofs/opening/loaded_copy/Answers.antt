-- A copy has the file's bytes, and want of memory may always be told.
use Rattle.std.proofs.Common.{ℕ, List, IfOk, IfErr, subst}
use Rattle.hive_file_reader.specs.Hives.{FileHoldsShallowTree}
use Rattle.hive_file_reader.specs.Readings.{ShallowFileRefusedAs}
use Rattle.regtx_c.proofs.Openings.{refused_memory}
use Rattle.regtx_c.proofs.opening.loaded_copy.Goals as goal

pub returns-in_default-clause-refused : goal.returns-in_default-clause-refused
returns-in_default-clause-refused c = refused_memory c.args.file.now

pub returns-clause-holds : goal.returns-clause-holds
returns-clause-holds c = subst (λ (bytes : List ℕ). IfOk c.loaded.result (λ block. FileHoldsShallowTree bytes block.value.tree)) c.in-Ok.ensures c.loaded.ensures.holds

pub returns-clause-refused : goal.returns-clause-refused
returns-clause-refused c = subst (λ (bytes : List ℕ). IfErr c.loaded.result (ShallowFileRefusedAs 0 bytes)) c.in-Ok.ensures c.loaded.ensures.refused
