use Rattle.hive_records.proofs.stored_name.StoredName.unit.Goals as goal

pub pair_at-requires : goal.pair_at-requires
pair_at-requires c = rw c.if-self.false at c.requires

pub returns-else-self : goal.returns-else-self
returns-else-self c = rw c.if-self.false c.pair_at.ensures
