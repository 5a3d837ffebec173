-- What a served session answers to lines.
use Rattle.std.specs.Prelude.{◌≡◌, ◌⊎◌, ℕ, Bool, true, List, Some}
use Rattle.refusals.specs.declared.refusal.Refusal.{Refusal}
use Rattle.refusals.specs.declared.refusal.Refusal.TheVariants.{Conflict, NoMemory, NoSeat, Unsupported}
use Rattle.reg_tree.specs.Maps.{TreeMap}
use Rattle.reply_lines.specs.declared.reply.ReplyLine.{ReplyLine}
use Rattle.script_runner.specs.Plays.{is_refusal}
use Rattle.script_runner.specs.Scripts.{line_asked}
use Rattle.script_syntax.specs.declared.line.Line.{Line}
use Rattle.script_syntax.specs.declared.line.Line.TheVariants as line
use Rattle.engine_invariant.specs.Engines.{EngineView}
use Rattle.registry_lines.specs.Scripts.{Script, Answers, Flushes, IsFlushed, IsRefused, TellsKept}
use Rattle.store_server.specs.declared.served_kind.ServedKind.{ServedKind}
use Rattle.store_server.specs.declared.served_kind.ServedKind.TheVariants.{OfRun, Kept, Begin, Other}

-- what a line is to a served session
abbrev pub kind_of : Line → ServedKind
kind_of (line.Session number) = OfRun
kind_of (line.End number) = OfRun
kind_of line.Fold = OfRun
kind_of (line.Kept id) = Kept id
kind_of (line.Begin label id) = Begin label id
kind_of _ = Other

-- What is found of a unit's commit is told at once if it is a refusal. Else all that was accepted by then is made durable
-- first; or that is refused, and the refusal is told.
abbrev pub TellsDurablyKept : Bool → EngineView → List TreeMap → ℕ → ℕ → Script → List ℕ → ReplyLine → Script → Type 0
TellsDurablyKept sole origin trees number hives old id reported new =
    (TellsKept sole origin trees number hives old id reported new × (is_refusal reported ≡ true))
    ⊎ ((found : ReplyLine) × (mid : Script) × TellsKept sole origin trees number hives old id found mid
    × (((reported ≡ found) × IsFlushed sole origin trees number hives mid new) ⊎ (Flushes sole origin trees number hives mid reported new × (is_refusal reported ≡ true))))

-- why a served session may begin no transaction: another session has the unit of work active, this one has as many
-- transactions as it may, or there is no memory
abbrev pub IsBeginRefusal : Refusal → Type 0
IsBeginRefusal why = (why ≡ Conflict) ⊎ (why ≡ NoSeat) ⊎ (why ≡ NoMemory)

-- From old a line of this kind is answered so by a served session, which leaves new. What the line asks of a machine of the
-- registry is answered as in a run. A line of runs is refused, and a begin may be; that changes nothing.
abbrev pub AnswersKind : ServedKind → Bool → EngineView → List TreeMap → ℕ → ℕ → Script → Line → ReplyLine → Script → Type 0
AnswersKind OfRun sole origin trees number hives old asked reported new = IsRefused old Unsupported reported new
AnswersKind (Kept id) sole origin trees number hives old asked reported new = TellsDurablyKept sole origin trees number hives old id reported new
AnswersKind (Begin label id) sole origin trees number hives old asked reported new =
    Answers sole origin trees number hives old (line.Begin label id) reported new ⊎ ((why : Refusal) × IsBeginRefusal why × IsRefused old why reported new)
AnswersKind Other sole origin trees number hives old asked reported new = Answers sole origin trees number hives old asked reported new

abbrev pub AnswersServed : Bool → EngineView → List TreeMap → ℕ → ℕ → Script → Line → ReplyLine → Script → Type 0
AnswersServed sole origin trees number hives old asked reported new = AnswersKind (kind_of asked) sole origin trees number hives old asked reported new

-- from old these bytes are a line, which is answered so
abbrev pub AnswersBytes : Bool → EngineView → List TreeMap → ℕ → ℕ → Script → List ℕ → ReplyLine → Script → Type 0
AnswersBytes sole origin trees number hives old bytes reported new = (asked : Line) × (line_asked bytes ≡ Some asked) × AnswersServed sole origin trees number hives old asked reported new
