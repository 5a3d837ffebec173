use Rattle.std.proofs.Common.{List, ℕ, length, sym, ◌∙◌, subst}
use Rattle.hive_emit.proofs.Leaves.{is_zero}
use Rattle.hive_emit.specs.SecurityTables.{tallies, one_with, Counts}
use Rattle.hive_emit.proofs.Counting.{counts_none}
use Rattle.hive_emit.proofs.Owns.{nothing}
use Rattle.hive_emit.proofs.security.SecurityTable.count_key.Goals as goal

pub returns-then-is_empty-clause-counts : goal.returns-then-is_empty-clause-counts
returns-then-is_empty-clause-counts c = counts_none (tallies c.args.self.now) c.args.key.now (sym (c.bytes.ensures ∙ c.descriptor.ensures) ∙ nothing c.bytes.result.now (is_zero (length c.bytes.result.now) c.if-is_empty.ensures))

pub returns-clause-counts : goal.returns-clause-counts
returns-clause-counts c = subst (λ (e : List ℕ). Counts (tallies c.args.self.now) (tallies c.count.new.self) 1 (λ d. one_with d e)) c.descriptor-2.ensures c.in_ok-count.ensures.counts
