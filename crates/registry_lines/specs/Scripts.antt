-- What the lines of a script ask of a registry, and the replies to them.
use Rattle.std.specs.Prelude.{◌≡◌, ◌≢◌, ℕ, ◌==◌, ◌⊎◌, Bool, true, false, ◌&&◌, not, if◌then◌else◌, List, [], ◌∷◌, ◌++◌, Option, Some, None, Result, Ok, Err, ⊤}
use Rattle.refusals.specs.declared.refusal.Refusal.{Refusal}
use Rattle.refusals.specs.declared.refusal.Refusal.TheVariants.{Faulted, NoMemory, NoSuchHandle}
use Rattle.reg_tree.specs.Maps.{TreeMap}
use Rattle.script_runner.specs.Plays.{is_refusal}
use Rattle.script_runner.specs.Requests.{operation_of}
use Rattle.script_runner.specs.Scripts.{Names, SameNames}
use Rattle.script_runner.specs.declared.operation.Operation.{Operation}
use Rattle.script_syntax.specs.declared.line.Line.{Line}
use Rattle.script_syntax.specs.declared.line.Line.TheVariants.{Hives, History, At, Session, End, Plain, Begin, Inside, Commit, Rollback, Close, Outcome, Kept, Flush, Fold, Served, Lab}
use Rattle.reply_lines.specs.declared.reply.ReplyLine.{ReplyLine}
use Rattle.reply_lines.specs.declared.reply.ReplyLine.TheVariants as reply
use Rattle.histories.specs.Asked.{asked_in}
use Rattle.engine_invariant.specs.Engines.{EngineView}
use Rattle.histories.specs.Points.{entry_of}
use Rattle.published_trees.specs.declared.rule.TheConstants.{MOST_READERS}
use Rattle.store_model.specs.Machine.{is_of_device}
use Rattle.store_model.specs.declared.event.Event.{Event}
use Rattle.store_model.specs.declared.event.Event.TheVariants as event
use Rattle.store_model.specs.declared.event.Reply.{Reply}
use Rattle.store_model.specs.declared.event.Reply.TheVariants as answer
use Rattle.store_model.specs.declared.handle.Tx.{Tx}
use Rattle.ktm_calls.specs.Denials.{IsDenied, IsOpened, denial_of}
use Rattle.ktm_calls.specs.Kinds.{Told}
use Rattle.ktm_calls.specs.Moments.{NumberedSight, Sight, Tells}
use Rattle.ktm_calls.specs.declared.registry.Denied.{Denied}
use Rattle.registry_lines.specs.declared.script.LineAnswer.{LineAnswer}
use Rattle.registry_lines.specs.declared.script.LineAnswer.TheVariants as answered
use Rattle.registry_lines.specs.Heard.{GoesOn, Hears, HearsAlone, HearsDurably, HearsInside, HearsOutcome, IsHeard}
use Rattle.registry_lines.specs.Slots.{SameItems, PutsItem, TakesItem}

-- a script between two lines: the moment of what follows; the session in which it is asked, with the number that the
-- script gave it, and whether it is open; the sessions that are open beside it, by the numbers that the script gave them;
-- and the transaction that each label names
pub record Script : Type 0 where
  pub moment : ℕ
  pub current : ℕ
  pub is_open : Bool
  pub session : NumberedSight
  pub others : ℕ → Option ℕ
  pub labels : List ℕ → Option Tx

-- the session that a number of the script names, if it is open
abbrev pub session_named : Script → ℕ → Option ℕ
session_named script number = if script.is_open && (number == script.current) then Some script.session.number else script.others number

-- a fold ends nothing of the script: session 0 alone is open, in which what follows is asked, and no label names anything
pub record HasNothingToEnd (script : Script) : Type 0 where
  pub first : script.current ≡ 0
  pub is_open : script.is_open ≡ true
  pub alone : (number : ℕ) → number ≢ 0 → session_named script number ≡ None
  pub labels : (label : List ℕ) → script.labels label ≡ None

-- the number of a change that a reply tells, or 0
abbrev pub number_told : ReplyLine → ℕ
number_told (reply.Accepted number) = number
number_told (reply.Created levels number) = number
number_told (reply.Committed number) = number
number_told (reply.Flushed number) = number
number_told _ = 0

-- A script before its first line, at this moment: session 0 was just opened, after all that was seen before, and no label
-- names anything.
pub record IsBegun (sole : Bool) (origin : EngineView) (trees : List TreeMap) (number hives : ℕ) (was : Sight) (current : ℕ) (script : Script) : Type 0 where
  pub told : Told
  pub opened : IsOpened sole origin trees number hives was script.session told
  pub moment : script.moment ≡ current
  pub only : HasNothingToEnd script

-- a refusal that changes nothing
abbrev pub IsRefused : Script → Refusal → ReplyLine → Script → Type 0
IsRefused old refusal reported new = (reported ≡ reply.Refused refusal) × (new ≡ old)

-- memory for a name or a label may be refused
abbrev pub OrNoMemory : Script → ReplyLine → Script → Type 0 → Type 0
OrNoMemory old reported new heard = heard ⊎ IsRefused old NoMemory reported new

-- a name that isn't allowed is refused, and else what the request asks for is asked
abbrev pub IsNamed : Result Operation Refusal → (Operation → Type 0) → Script → ReplyLine → Script → Type 0
IsNamed (Ok asked) asks old reported new = asks asked
IsNamed (Err refusal) asks old reported new = IsRefused old refusal reported new

-- a label that names nothing is refused, and else its transaction is asked about
abbrev pub IsLabelled : Option Tx → (Tx → Type 0) → Script → ReplyLine → Script → Type 0
IsLabelled (Some tx) asks old reported new = asks tx
IsLabelled None asks old reported new = IsRefused old NoSuchHandle reported new

-- of the script only what its session has seen changes
abbrev pub InSession : Script → Script → Type 0
InSession old new = new ≡ record old { session = new.session }

abbrev pub Asks : Bool → EngineView → List TreeMap → ℕ → ℕ → Script → Event → ReplyLine → Script → Type 0
Asks sole origin trees number hives old event reported new = Hears sole origin trees number hives old.session event reported new.session × InSession old new

abbrev pub AsksDurably : Bool → EngineView → List TreeMap → ℕ → ℕ → Script → Event → (ℕ → ReplyLine) → ReplyLine → Script → Type 0
AsksDurably sole origin trees number hives old event tell reported new = HearsDurably sole origin trees number hives old.session event tell reported new.session × InSession old new

abbrev pub AsksAlone : Bool → EngineView → List TreeMap → ℕ → ℕ → Script → Operation → ReplyLine → Script → Type 0
AsksAlone sole origin trees number hives old asked reported new = HearsAlone sole origin trees number hives old.moment old.session asked reported new.session × InSession old new

abbrev pub AsksInside : Bool → EngineView → List TreeMap → ℕ → ℕ → Script → Tx → Operation → ReplyLine → Script → Type 0
AsksInside sole origin trees number hives old tx asked reported new = HearsInside sole origin trees number hives old.moment tx old.session asked reported new.session × InSession old new

-- Events that enter a session: the start of one, or, if it is open, the question whether the store is faulted, which is
-- asked as the begin of a transaction in no open session.
abbrev pub EntersSession : Event → Type 0
EntersSession (event.StartSession session) = ⊤
EntersSession (event.Begin session id) = session ≡ MOST_READERS
EntersSession _ = ⊥

-- Why no session is entered: such an event was refused so, or there was no memory for it.
abbrev pub MayNotEnter : Bool → EngineView → List TreeMap → ℕ → ℕ → Sight → Sight → Refusal → Type 0
MayNotEnter sole origin trees number hives was is why =
    (event : Event) × EntersSession event × (denied : Denied) × IsDenied sole origin trees number hives was is event denied × (denial_of denied ≡ Some why)

-- the store was asked whether it is faulted, and isn't
abbrev pub IsNotFaulted : Bool → EngineView → List TreeMap → ℕ → ℕ → Sight → Sight → Type 0
IsNotFaulted sole origin trees number hives was is =
    (id : List ℕ) × (told : Told) × Tells sole origin trees number hives was is (event.Begin MOST_READERS id) told × ¬ (told.reply ≡ answer.Refused Faulted)

-- what follows is asked in the session that this number of the script names from now on; each other number names what it
-- named
pub record MakesCurrent (old new : Script) (wanted : ℕ) : Type 0 where
  pub rest : new ≡ record old { current = wanted; is_open = true; session = new.session; others = new.others }
  pub names : PutsItem (session_named old) (session_named new) wanted new.session.number

-- the session goes on in which what follows is asked, and each number of the script names what it named
pub record KeepsSessions (old new : Script) : Type 0 where
  pub rest : new ≡ record old { session = new.session; others = new.others }
  pub goes_on : GoesOn old.session new.session
  pub names : SameItems (session_named old) (session_named new)

-- What follows is asked in this session from now on, by this number of the script. The one before it is among the others, if
-- it is open.
pub record Switches (old new : Script) (number handle : ℕ) : Type 0 where
  pub rest : new ≡ record old { current = number; is_open = true; session = record old.session { number = handle }; others = new.others }
  pub others : old.is_open ≡ true → PutsItem old.others new.others old.current old.session.number
  pub alone : old.is_open ≡ false → new.others ≡ old.others

-- this number of the script names no session from now on, and each other one what it named; if it was the current one,
-- what follows is asked in a session that isn't open
pub record EndsNamed (old new : Script) (wanted : ℕ) : Type 0 where
  pub rest : new ≡ record old { is_open = new.is_open; session = new.session; others = new.others }
  pub names : TakesItem (session_named old) (session_named new) wanted
  pub session : new.session.number ≡ (if old.is_open && (wanted == old.current) then MOST_READERS else old.session.number)
  pub is_open : new.is_open ≡ old.is_open && not (wanted == old.current)

-- The session that the number names is the current one: it was opened, or was open. Or none is entered.
abbrev pub Enters : Bool → EngineView → List TreeMap → ℕ → ℕ → Script → ℕ → ReplyLine → Script → Type 0
Enters sole origin trees number hives old wanted reported new =
    ((reported ≡ reply.Done) × MakesCurrent old new wanted × (session_named old wanted ≡ None) × (told : Told) × IsOpened sole origin trees number hives old.session.seen new.session told)
    ⊎ ((reported ≡ reply.Done) × MakesCurrent old new wanted × (session_named old wanted ≡ Some new.session.number) × IsNotFaulted sole origin trees number hives old.session.seen new.session.seen)
    ⊎ (KeepsSessions old new × (why : Refusal) × MayNotEnter sole origin trees number hives old.session.seen new.session.seen why × (reported ≡ reply.Refused why))

-- The session that the number names ends; or it names none.
abbrev pub Ends : Bool → EngineView → List TreeMap → ℕ → ℕ → Script → ℕ → ReplyLine → Script → Type 0
Ends sole origin trees number hives old wanted reported new =
    ((reported ≡ reply.Refused NoSuchHandle) × (session_named old wanted ≡ None) × KeepsSessions old new × (new.session ≡ old.session))
    ⊎ ((session : ℕ) × (session_named old wanted ≡ Some session) × IsHeard sole origin trees number hives old.session (event.EndSession session) reported new.session × EndsNamed old new wanted)

-- a transaction is begun, and the label names it from now on
pub record Begins (sole : Bool) (origin : EngineView) (trees : List TreeMap) (number hives : ℕ) (old : Script) (label id : List ℕ) (reported : ReplyLine) (new : Script) : Type 0 where
  pub tx : Tx
  pub told : Told
  pub tells : Tells sole origin trees number hives old.session.seen new.session.seen (event.Begin old.session.number id) told
  pub begun : told.reply ≡ answer.Begun tx
  pub goes_on : GoesOn old.session new.session
  pub done : reported ≡ reply.Done
  pub rest : new ≡ record old { session = new.session; labels = new.labels }
  pub names : Names old.labels new.labels label tx

-- no transaction is begun, and each label names what it named
pub record BeginsNothing (sole : Bool) (origin : EngineView) (trees : List TreeMap) (number hives : ℕ) (old : Script) (id : List ℕ) (reported : ReplyLine) (new : Script) : Type 0 where
  pub hears : Hears sole origin trees number hives old.session (event.Begin old.session.number id) reported new.session
  pub rest : new ≡ record old { session = new.session; labels = new.labels }
  pub names : SameNames old.labels new.labels

-- a unit's commit is told by what the current session has seen, or by the machine
abbrev pub TellsKept : Bool → EngineView → List TreeMap → ℕ → ℕ → Script → List ℕ → ReplyLine → Script → Type 0
TellsKept sole origin trees number hives old id reported new =
    (HearsOutcome sole origin trees number hives old.session id reported new.session × InSession old new) ⊎ Asks sole origin trees number hives old (event.OutcomeOf id) reported new

-- The current session goes on, nothing is asked for, and nothing else changes.
pub record AsksNothing (old new : Script) : Type 0 where
  pub goes_on : GoesOn old.session new.session
  pub quiet : new.session.seen.asked ≡ old.session.seen.asked
  pub rest : InSession old new

-- all that was accepted is made durable
abbrev pub Flushes : Bool → EngineView → List TreeMap → ℕ → ℕ → Script → ReplyLine → Script → Type 0
Flushes sole origin trees number hives old reported new = AsksDurably sole origin trees number hives old event.FlushAsk reply.Flushed reported new

-- all that was accepted is made durable, and that isn't refused
abbrev pub IsFlushed : Bool → EngineView → List TreeMap → ℕ → ℕ → Script → Script → Type 0
IsFlushed sole origin trees number hives old new = (flushed : ReplyLine) × Flushes sole origin trees number hives old flushed new × (is_refusal flushed ≡ false)

-- Nothing was asked for, if there is a sole asker. Or the question was whether the store is faulted.
abbrev pub MayProbe : Bool → Sight → Sight → Type 0
MayProbe sole was is =
    sole ≡ true → (asked_in is.history ≡ asked_in was.history)
    ⊎ ((id : List ℕ) × (told : Reply) × (after : EngineView) × (asked_in is.history ≡ asked_in was.history ++ entry_of (event.Begin MOST_READERS id) told after ∷ []))

-- the current session goes on, with no question but that one, and nothing else changes
abbrev pub SeesOn : Bool → Script → Script → Type 0
SeesOn sole old new = GoesOn old.session new.session × MayProbe sole old.session.seen new.session.seen × InSession old new

-- all that was accepted is made durable, and then the session may go on
abbrev pub FlushesThen : Bool → EngineView → List TreeMap → ℕ → ℕ → Script → ReplyLine → Script → Type 0
FlushesThen sole origin trees number hives old reported new = (mid : Script) × Flushes sole origin trees number hives old reported mid × SeesOn sole mid new

-- Why a step is refused that no line asked for: there is no memory. Or the device has failed: the machine of the registry
-- refused the question whether the store is faulted, for being so.
abbrev pub MayNotStep : Bool → EngineView → List TreeMap → ℕ → ℕ → Sight → Sight → Refusal → Type 0
MayNotStep sole origin trees number hives was is why = (why ≡ NoMemory) ⊎ ((is_of_device why ≡ true) × MayNotEnter sole origin trees number hives was is Faulted)

-- The history isn't folded: the flush before it is refused; or a step is that moves into the hives what they lack.
abbrev pub RefusesFold : Bool → EngineView → List TreeMap → ℕ → ℕ → Script → ReplyLine → Script → Type 0
RefusesFold sole origin trees number hives old reported new =
    (Flushes sole origin trees number hives old reported new × (is_refusal reported ≡ true))
    ⊎ ((mid : Script) × IsFlushed sole origin trees number hives old mid × SeesOn sole mid new × (why : Refusal) × MayNotStep sole origin trees number hives mid.session.seen new.session.seen why × (reported ≡ reply.Refused why))

-- From old, the line may be answered this reply over a registry whose list begins with these trees after this number,
-- and leave new. Its names are tested first: the path, then a value's name; then its label. A line `fold` is answered
-- here only if it is refused.
abbrev pub Answers : Bool → EngineView → List TreeMap → ℕ → ℕ → Script → Line → ReplyLine → Script → Type 0
Answers sole origin trees number hives old (Hives count) reported new = ⊥
Answers sole origin trees number hives old (History limit) reported new = ⊥
Answers sole origin trees number hives old (At moment) reported new = (reported ≡ reply.Done) × (new ≡ record old { moment = moment })
Answers sole origin trees number hives old (Session wanted) reported new = Enters sole origin trees number hives old wanted reported new
Answers sole origin trees number hives old (End wanted) reported new = Ends sole origin trees number hives old wanted reported new
Answers sole origin trees number hives old (Plain request) reported new =
    OrNoMemory old reported new (IsNamed (operation_of request) (λ asked. AsksAlone sole origin trees number hives old asked reported new) old reported new)
Answers sole origin trees number hives old (Inside label request) reported new =
    OrNoMemory old reported new (IsNamed (operation_of request) (λ asked. IsLabelled (old.labels label) (λ tx. AsksInside sole origin trees number hives old tx asked reported new) old reported new) old reported new)
Answers sole origin trees number hives old (Begin label id) reported new =
    OrNoMemory old reported new (Begins sole origin trees number hives old label id reported new ⊎ BeginsNothing sole origin trees number hives old id reported new)
Answers sole origin trees number hives old (Commit label) reported new =
    IsLabelled (old.labels label) (λ tx. AsksDurably sole origin trees number hives old (event.CommitAccept old.session.number tx old.moment) reply.Committed reported new) old reported new
Answers sole origin trees number hives old (Rollback label) reported new =
    IsLabelled (old.labels label) (λ tx. Asks sole origin trees number hives old (event.Rollback old.session.number tx) reported new) old reported new
Answers sole origin trees number hives old (Close label) reported new =
    IsLabelled (old.labels label) (λ tx. Asks sole origin trees number hives old (event.Close old.session.number tx) reported new) old reported new
Answers sole origin trees number hives old (Outcome label) reported new =
    IsLabelled (old.labels label) (λ tx. Asks sole origin trees number hives old (event.Outcome old.session.number tx) reported new) old reported new
Answers sole origin trees number hives old (Kept id) reported new = TellsKept sole origin trees number hives old id reported new
Answers sole origin trees number hives old Flush reported new = Flushes sole origin trees number hives old reported new
Answers sole origin trees number hives old Fold reported new = RefusesFold sole origin trees number hives old reported new
Answers sole origin trees number hives old (Served line) reported new = ⊥
Answers sole origin trees number hives old (Lab line) reported new = ⊥

-- a line is answered by a reply; or it is `fold`, for which all was made durable
abbrev pub AnswersLine : Bool → EngineView → List TreeMap → ℕ → ℕ → Script → Line → LineAnswer → Script → Type 0
AnswersLine sole origin trees number hives old asked (answered.Reply reported) new = Answers sole origin trees number hives old asked reported new
AnswersLine sole origin trees number hives old asked answered.ToFold new = (asked ≡ Fold) × IsFlushed sole origin trees number hives old new
