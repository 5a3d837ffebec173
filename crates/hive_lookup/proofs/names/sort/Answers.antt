use Rattle.std.proofs.lemmas.List.Sorted.{IsPermutation-sym}
use Rattle.hive_lookup.proofs.Distinct.{distinct_moved}
use Rattle.hive_lookup.proofs.names.sort.Goals as goal

pub returns-clause-yes : goal.returns-clause-yes
returns-clause-yes c = λ e. distinct_moved c.sort_unstable.new.self c.args.names.now (IsPermutation-sym c.args.names.now c.sort_unstable.new.self c.sort_unstable.ensures.permutation) (c.are_distinct.ensures.yes e)

pub returns-clause-no : goal.returns-clause-no
returns-clause-no c = λ e h. c.are_distinct.ensures.no e (distinct_moved c.args.names.now c.sort_unstable.new.self c.sort_unstable.ensures.permutation h)
