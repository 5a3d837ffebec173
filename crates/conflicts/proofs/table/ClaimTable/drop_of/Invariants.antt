use Rattle.std.proofs.Common.{◌≡◌, vec_len, length}
use Rattle.conflicts.specs.Holders.{without_owner}
use Rattle.conflicts.specs.ClaimIndexes.{claims_of, AreInIndexes}
use Rattle.conflicts.proofs.table.ClaimTable.drop_of.Given as goal

abbrev pub invariant-loop-listed : goal.invariant-loop-listed
invariant-loop-listed l = record {
  in_indexes : AreInIndexes (vec_len l.self-inside.added) l.self-inside.index l.self-inside.owned.keys l.self-inside.kept.entries;
  others : without_owner (claims_of l.self-inside.kept.entries) l.owner.0 ≡ without_owner (claims_of l.initial.self-inside.kept.entries) l.owner.0;
}

abbrev pub decreases-loop-listed : goal.decreases-loop-listed
decreases-loop-listed l = length l.self-inside.owned.keys
