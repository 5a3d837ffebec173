-- What an image with a savepoint is once a borrow of its bytes has ended.
use Rattle.std.specs.Prelude.{◌≡◌}
use Rattle.std.specs.Borrow.{MutBor, Fml}
use Rattle.std.specs.Io.BufRead.{Rests}
use Rattle.hive_savepoint.specs.Savepoints.{SavedBytes}
use Rattle.hive_savepoint.specs.contracts.image.SavepointImage.{the_row}

-- it is as it was
abbrev pub StaysAsLent : MutBor SavedBytes → Fml
StaysAsLent image = Rests the_row image (λ last. last ≡ image.now)
