use Rattle.std.proofs.Common.{refl}
use Rattle.change_codec.specs.Encoding.{element_at}
use Rattle.change_codec.proofs.laws.examples.Goals as goal

pub returns : goal.returns
unfolding element_at
returns c = record { created = refl; created_read = refl; changed = refl; changed_read = refl; padded = refl; without_operations = refl; other_kind = refl; no_such_hive = refl }
