use Rattle.std.proofs.Common.{inl, refl}
use Rattle.store_hive.proofs.recovered_tree.told_of_hive.Goals as goal

pub returns-then-not-is_of_files-clause-told : goal.returns-then-not-is_of_files-clause-told
returns-then-not-is_of_files-clause-told g c = inl (refl, λ i names. absurd (c.is_of_files.ensures c.if-not-is_of_files.true i names))
