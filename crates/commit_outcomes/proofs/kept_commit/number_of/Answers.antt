use Rattle.std.proofs.Common.{nat_lt, slice_index, arith}
use Rattle.std.proofs.lemmas.Bool.{lt-ltb}
use Rattle.commit_outcomes.proofs.UnitNames.{all_at}
use Rattle.commit_outcomes.proofs.kept_commit.number_of.Goals as goal

pub returns-then-bytes-eq-NUMBER_BYTES-clause-bytes : goal.returns-then-bytes-eq-NUMBER_BYTES-clause-bytes
returns-then-bytes-eq-NUMBER_BYTES-clause-bytes c =
    all_at (λ b. nat_lt b 256) c.args.bytes.now (λ k lt. let fits = c.type_inv.bytes k in lt-ltb (slice_index c.args.bytes.now k) 256 (omega (arith, fits)))
