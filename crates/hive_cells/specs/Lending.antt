-- What an image is once a borrow of its bytes has ended.
use Rattle.std.specs.Prelude.{◌≡◌}
use Rattle.std.specs.Borrow.{MutBor, Fml}
use Rattle.std.specs.Io.BufRead.{Rests}
use Rattle.hive_cells.specs.Bins.{Bins}
use Rattle.hive_cells.specs.contracts.image.Image.{the_row}

-- it is as it was
abbrev pub StaysAsLent : MutBor Bins → Fml
StaysAsLent image = Rests the_row image (λ last. last ≡ image.now)
