-- The first two lines of a script that makes its store.
use Rattle.std.specs.Prelude.{ℕ, List, Option, Some, None}
use Rattle.script_syntax.specs.Lines.{line_of}
use Rattle.script_syntax.specs.declared.line.Line.{Line}
use Rattle.script_syntax.specs.declared.line.Line.TheVariants.{Hives, History, At, Session, End, Plain, Begin, Inside, Commit, Rollback, Close, Outcome, Kept, Flush, Fold, Served, Lab}

-- `hives` is the first line and no other
abbrev pub first_line : Option Line → Option ℕ
first_line None = None
first_line (Some (Hives count)) = Some count
first_line (Some (History limit)) = None
first_line (Some (At moment)) = None
first_line (Some (Session number)) = None
first_line (Some (End number)) = None
first_line (Some (Plain request)) = None
first_line (Some (Inside label request)) = None
first_line (Some (Begin label id)) = None
first_line (Some (Commit label)) = None
first_line (Some (Rollback label)) = None
first_line (Some (Close label)) = None
first_line (Some (Outcome label)) = None
first_line (Some (Kept id)) = None
first_line (Some Flush) = None
first_line (Some Fold) = None
first_line (Some (Served line)) = None
first_line (Some (Lab line)) = None

-- `history` is the line after that and no other
abbrev pub second_line : Option Line → Option ℕ
second_line (Some (History limit)) = Some limit
second_line _ = None

-- how many hives the bytes of a script's first line ask for
abbrev pub hives_asked : List ℕ → Option ℕ
hives_asked bytes = first_line (line_of bytes)

-- how many changes the bytes of a script's second line let its history have, if they are `history`
abbrev pub history_asked : List ℕ → Option ℕ
history_asked bytes = second_line (line_of bytes)
