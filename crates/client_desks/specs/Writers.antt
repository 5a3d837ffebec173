-- Writers that hand on what is written.
use Rattle.std.specs.Prelude.{ℕ, List, Option}
use Rattle.std.specs.Io.KnownBytes.{append_known}
use Rattle.client_desks.specs.declared.piece_writer.PieceWriter.{PieceWriter}

-- what was written: the bytes of the pieces that the sink took, and those that were gathered since
abbrev pub written : {S : Type 0} → (S → Option (List ℕ)) → PieceWriter S → Option (List ℕ)
written taken writer = append_known (taken writer.sink) writer.gathered
