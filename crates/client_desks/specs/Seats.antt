-- Who is at a desk, and what its session is told.
use Rattle.std.specs.Prelude.{◌≡◌, ◌≢◌, ◌⊎◌, ⊤, ℕ, Bool, true, false, Option, Some, None}
use Rattle.std.specs.List.{Contains}
use Rattle.client_desks.specs.Lines.{LineRest}
use Rattle.client_desks.specs.Orders.{IsRestDue}
use Rattle.client_desks.specs.Visits.{BeginsReply, IsInTurn, IsQuiet, StepsTo, after, bytes_left}
use Rattle.client_desks.specs.declared.order.Arrival.{Arrival}
use Rattle.client_desks.specs.declared.order.Arrival.TheVariants as arrival
use Rattle.client_desks.specs.declared.order.Bookmark.{Bookmark}
use Rattle.client_desks.specs.declared.order.InputEnd.TheVariants as end
use Rattle.client_desks.specs.declared.order.NewsWait.{NewsWait}
use Rattle.client_desks.specs.declared.order.NewsWait.TheVariants as wait
use Rattle.client_desks.specs.declared.order.Order.{Order}
use Rattle.client_desks.specs.declared.order.Order.TheVariants as order
use Rattle.client_desks.specs.declared.order.Rest.TheVariants as rest
use Rattle.client_desks.specs.declared.tray.Seat.{Seat}
use Rattle.client_desks.specs.declared.tray.Seat.TheVariants.{Unused, Left, Waiting, Served, Parked}
use Rattle.client_desks.specs.declared.visit.ReplyTurn.{ReplyTurn}
use Rattle.client_desks.specs.declared.visit.ReplyTurn.TheVariants as turn
use Rattle.client_desks.specs.declared.visit.Said.{Said}
use Rattle.client_desks.specs.declared.visit.Source.TheVariants.{Gone}
use Rattle.client_desks.specs.declared.visit.Step.{Step}
use Rattle.client_desks.specs.declared.visit.Step.TheVariants as step
use Rattle.client_desks.specs.declared.visit.Visit.{Visit}

-- no client is there
abbrev pub IsFree : Seat → Type 0
IsFree Unused = ⊤
IsFree Left = ⊤
IsFree (Waiting visit) = ⊥
IsFree (Served visit) = ⊥
IsFree (Parked visit bookmark) = ⊥

-- what the broker says of the client at a place is heard: if a client is there, whatever is due of it; of one whose
-- session has ended all, which is thrown away; and else nothing
abbrev pub IsTakenIn : Seat → ℕ → Said → Type 0
IsTakenIn Unused place said = ⊥
IsTakenIn Left place said = ⊤
IsTakenIn (Waiting visit) place said = (place ≡ visit.place) × IsInTurn visit said
IsTakenIn (Served visit) place said = (place ≡ visit.place) × IsInTurn visit said
IsTakenIn (Parked visit bookmark) place said = (place ≡ visit.place) × IsInTurn visit said

-- who is at the desk once that was heard
abbrev pub seat_after : Seat → Said → Seat
seat_after Unused said = Unused
seat_after Left said = Left
seat_after (Waiting visit) said = Waiting (after visit said)
seat_after (Served visit) said = Served (after visit said)
seat_after (Parked visit bookmark) said = Parked (after visit said) bookmark

-- what one that waits for a client is told, if it needn't wait, and who is at the desk then
abbrev pub Arrives : Order → Seat → Option Arrival → Seat → Type 0
Arrives order.Stop seat told new = (told ≡ Some arrival.Stop) × (new ≡ seat)
Arrives (order.Rest how) seat told new = (told ≡ Some arrival.Rest) × (new ≡ seat)
Arrives order.Serve Unused told new = (told ≡ None) × (new ≡ Unused)
Arrives order.Serve Left told new = (told ≡ None) × (new ≡ Left)
Arrives order.Serve (Waiting visit) told new = (told ≡ Some arrival.Client) × (new ≡ Served visit)
Arrives order.Serve (Served visit) told new = (told ≡ None) × (new ≡ Served visit)
Arrives order.Serve (Parked visit bookmark) told new =
    (told ≡ Some (arrival.Resumed bookmark.moment bookmark.line)) × (new ≡ Served visit)

-- no session serves a client who may yet read a reply
abbrev pub HasNoReader : Seat → Type 0
HasNoReader Unused = ⊤
HasNoReader Left = ⊤
HasNoReader (Waiting visit) = ⊤
HasNoReader (Served visit) = visit.source ≡ Gone
HasNoReader (Parked visit bookmark) = ⊤

-- a session that may rest, or may not, goes on, and comes to its next line so
abbrev pub SessionGoesOn : Order → Bool → Seat → Step → LineRest → Seat → Type 0
SessionGoesOn asked may_rest seat step line new =
    (asked ≢ order.Stop) × ¬ (IsRestDue asked may_rest) × ((visit : Visit) × (later : Visit) × (seat ≡ Served visit)
    × StepsTo step visit line later × (new ≡ Served later))

-- how a session that may rest, or may not, comes to its next line: a stop is told first, then that the client has gone,
-- then a rest that is due
abbrev pub SessionSteps : Order → Bool → Seat → Step → LineRest → Seat → Type 0
SessionSteps asked may_rest seat step.Line line new = SessionGoesOn asked may_rest seat step.Line line new
SessionSteps asked may_rest seat step.TookPiece line new = SessionGoesOn asked may_rest seat step.TookPiece line new
SessionSteps asked may_rest seat step.Wait line new = SessionGoesOn asked may_rest seat step.Wait line new
SessionSteps asked may_rest seat (step.End end.Ended) line new = SessionGoesOn asked may_rest seat (step.End end.Ended) line new
SessionSteps asked may_rest seat (step.End end.HalfLine) line new = SessionGoesOn asked may_rest seat (step.End end.HalfLine) line new
SessionSteps asked may_rest seat (step.End end.TooLong) line new = SessionGoesOn asked may_rest seat (step.End end.TooLong) line new
SessionSteps asked may_rest seat (step.End end.NoMemory) line new = SessionGoesOn asked may_rest seat (step.End end.NoMemory) line new
SessionSteps asked may_rest seat (step.End end.Stopped) line new = (asked ≡ order.Stop) × (new ≡ seat)
SessionSteps asked may_rest seat (step.End end.Gone) line new = (asked ≢ order.Stop) × HasNoReader seat × (new ≡ seat)
SessionSteps asked may_rest seat (step.End end.Rest) line new =
    IsRestDue asked may_rest × ¬ (HasNoReader seat) × (new ≡ seat)

-- a session's next line, or what ends it, needn't be waited for
abbrev pub HasLine : Order → Seat → Type 0
HasLine asked Unused = ⊥
HasLine asked Left = ⊥
HasLine asked (Waiting visit) = ⊥
HasLine asked (Served visit) =
    (asked ≢ order.Stop) × (asked ≢ order.Rest rest.Now) × (visit.source ≢ Gone) × Contains (bytes_left visit) 10
HasLine asked (Parked visit bookmark) = ⊥

-- a session has got all that its client sent, who may send more
abbrev pub HasQuietClient : Seat → Type 0
HasQuietClient Unused = ⊥
HasQuietClient Left = ⊥
HasQuietClient (Waiting visit) = ⊥
HasQuietClient (Served visit) = IsQuiet visit
HasQuietClient (Parked visit bookmark) = ⊥

-- How a session's wait for news ends, or that it goes on: first by its client; then by a rest or a stop that is asked for,
-- unless the session knows of it; then by news, if there are any.
abbrev pub WaitsForNews : Order → Seat → Bool → Bool → Option NewsWait → Type 0
WaitsForNews asked seat has_news knows_end (Some wait.Client) = ¬ (HasQuietClient seat)
WaitsForNews asked seat has_news knows_end (Some wait.Ending) =
    HasQuietClient seat × (asked ≢ order.Serve) × (knows_end ≡ false)
WaitsForNews asked seat has_news knows_end (Some wait.News) =
    HasQuietClient seat × ((asked ≡ order.Serve) ⊎ (knows_end ≡ true)) × (has_news ≡ true)
WaitsForNews asked seat has_news knows_end None =
    HasQuietClient seat × ((asked ≡ order.Serve) ⊎ (knows_end ≡ true)) × (has_news ≡ false)

-- when a session may write a reply. After a stop nobody tells any more that the last one was handed on
abbrev pub SessionReplies : Order → Seat → ReplyTurn → Seat → Type 0
SessionReplies asked seat turn.Now new =
    (visit : Visit) × (later : Visit) × (seat ≡ Served visit) × BeginsReply turn.Now visit later × (new ≡ Served later)
SessionReplies asked seat turn.Later new =
    (asked ≢ order.Stop) × ((visit : Visit) × (seat ≡ Served visit) × BeginsReply turn.Later visit visit) × (new ≡ seat)
SessionReplies asked seat turn.Never new =
    (HasNoReader seat ⊎ ((asked ≡ order.Stop) × ((visit : Visit) × (seat ≡ Served visit) × BeginsReply turn.Later visit visit)))
    × (new ≡ seat)

-- a session serves a client
abbrev pub IsServed : Seat → Type 0
IsServed Unused = ⊥
IsServed Left = ⊥
IsServed (Waiting visit) = ⊥
IsServed (Served visit) = ⊤
IsServed (Parked visit bookmark) = ⊥

-- the session has ended, and with it the client's visit
abbrev pub seat_left : Seat → Seat
seat_left Unused = Unused
seat_left Left = Left
seat_left (Waiting visit) = Waiting visit
seat_left (Served visit) = Left
seat_left (Parked visit bookmark) = Parked visit bookmark

-- the session has ended, and the client stays
abbrev pub seat_parked : Seat → Bookmark → Seat
seat_parked Unused mark = Unused
seat_parked Left mark = Left
seat_parked (Waiting visit) mark = Waiting visit
seat_parked (Served visit) mark = Parked visit mark
seat_parked (Parked visit bookmark) mark = Parked visit bookmark
