use Rattle.std.proofs.Common.{List, ℕ, subst}
use Rattle.hive_emit.specs.SecurityTables.{HasDescriptorAt}
use Rattle.hive_emit.proofs.security.SecurityTable.count.Goals as goal

pub returns-in-Some-clause-counts : goal.returns-in-Some-clause-counts
returns-in-Some-clause-counts c = c.count_again.ensures.counts c.args.descriptor.now (subst (λ (d : List ℕ). HasDescriptorAt c.args.self.now c.in-Some.place d) c.bytes.ensures c.in-Some.ensures.kept)
