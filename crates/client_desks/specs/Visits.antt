-- A client that is there: what the broker may say of it, and what its session gets.
use Rattle.std.specs.Prelude.{◌≡◌, ◌≢◌, ℕ, List, [], ◌++◌, Option, Some, None}
use Rattle.client_desks.specs.Lines.{BeginTooLong, IsLine, IsLinePart, LineRest}
use Rattle.client_desks.specs.declared.order.InputEnd.TheVariants as end
use Rattle.client_desks.specs.declared.visit.LastReply.TheVariants.{HandedOn, Out}
use Rattle.client_desks.specs.declared.visit.ReplyTurn.{ReplyTurn}
use Rattle.client_desks.specs.declared.visit.ReplyTurn.TheVariants.{Now, Later, Never}
use Rattle.client_desks.specs.declared.visit.Said.{Said}
use Rattle.client_desks.specs.declared.visit.Said.TheVariants as said
use Rattle.client_desks.specs.declared.visit.Source.TheVariants.{Open, Ended, Gone}
use Rattle.client_desks.specs.declared.visit.Step.{Step}
use Rattle.client_desks.specs.declared.visit.Step.TheVariants as step
use Rattle.client_desks.specs.declared.visit.Visit.{Visit}

-- a client that came and has said nothing yet
abbrev pub newcomer : ℕ → Visit
newcomer place = record { place = place; source = Open; last_reply = HandedOn; piece = None; lines = [] }

-- what the broker says is due: bytes once it was told that the last ones were taken, and that a reply was handed on if
-- one is out; nothing but that and that the client has gone after its end; nothing after it has gone
abbrev pub IsInTurn : Visit → Said → Type 0
IsInTurn visit (said.Data piece) = (visit.source ≡ Open) × (visit.piece ≡ None)
IsInTurn visit said.More = (visit.source ≢ Gone) × (visit.last_reply ≡ Out)
IsInTurn visit said.End = visit.source ≡ Open
IsInTurn visit said.Gone = visit.source ≢ Gone

-- what is there after the broker has said so
abbrev pub after : Visit → Said → Visit
after visit (said.Data piece) = record visit { piece = Some piece }
after visit said.More = record visit { last_reply = HandedOn }
after visit said.End = record visit { source = Ended }
after visit said.Gone = record visit { source = Gone }

-- the bytes of a piece, if there is one
abbrev pub piece_bytes : Option (List ℕ) → List ℕ
piece_bytes None = []
piece_bytes (Some piece) = piece

-- what the client sent and its session hasn't got
abbrev pub bytes_left : Visit → List ℕ
bytes_left visit = visit.lines ++ piece_bytes visit.piece

-- how a session comes to its next line: it gets the first line of what was taken; or the piece that waits is taken; or
-- it waits; or none follows, for a reason
abbrev pub StepsTo : Step → Visit → LineRest → Visit → Type 0
StepsTo step.Line before line new =
    (before.source ≢ Gone) × IsLine line.rest × (line.place ≡ before.place)
    × (before.lines ≡ line.rest ++ new.lines) × (new ≡ record before { lines = new.lines })
StepsTo step.TookPiece before line new =
    (before.source ≢ Gone) × IsLinePart before.lines × ((piece : List ℕ) × (before.piece ≡ Some piece)
    × (new ≡ record before { piece = None; lines = before.lines ++ piece }))
StepsTo step.Wait before line new =
    (before.source ≡ Open) × IsLinePart before.lines × (before.piece ≡ None) × (new ≡ before)
StepsTo (step.End end.Ended) before line new =
    (before.source ≡ Ended) × (before.lines ≡ []) × (before.piece ≡ None) × (new ≡ before)
StepsTo (step.End end.HalfLine) before line new =
    (before.source ≡ Ended) × IsLinePart before.lines × (before.lines ≢ []) × (before.piece ≡ None) × (new ≡ before)
StepsTo (step.End end.Gone) before line new = (before.source ≡ Gone) × (new ≡ before)
StepsTo (step.End end.TooLong) before line new =
    (before.source ≢ Gone) × BeginTooLong before.lines × (new ≡ before)
StepsTo (step.End end.NoMemory) before line new = (before.source ≢ Gone) × (new ≡ before)
StepsTo (step.End end.Stopped) before line new = ⊥
StepsTo (step.End end.Rest) before line new = ⊥

-- the client may send more, and its session has got all that it sent
abbrev pub IsQuiet : Visit → Type 0
IsQuiet visit = (visit.source ≡ Open) × (visit.piece ≡ None) × (visit.lines ≡ [])

-- when a reply may be written: once the last one was handed on, and to nobody who has gone
abbrev pub BeginsReply : ReplyTurn → Visit → Visit → Type 0
BeginsReply Now before new =
    (before.source ≢ Gone) × (before.last_reply ≡ HandedOn) × (new ≡ record before { last_reply = Out })
BeginsReply Later before new = (before.source ≢ Gone) × (before.last_reply ≡ Out) × (new ≡ before)
BeginsReply Never before new = (before.source ≡ Gone) × (new ≡ before)
