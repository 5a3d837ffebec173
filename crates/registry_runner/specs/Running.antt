-- The run of a script over the store that is on a disk: what is written, with which status, and what is left.
use Rattle.std.specs.Prelude.{◌≡◌, ◌⊎◌, ℕ, Bool, true, false, List, [], ◌++◌, ◌∷◌, ◌+◌, ◌<◌, if◌then◌else◌, Option, Some, None, Result, Ok, Err, IfOk, is_some, length}
use Rattle.std.specs.Io.KnownBytes.{Appends, Keeps}
use Rattle.refusals.specs.Refusals.{refusal_text}
use Rattle.refusals.specs.declared.refusal.Refusal.{Refusal}
use Rattle.refusals.specs.declared.refusal.Refusal.TheVariants.{NoMemory, DiskFault, Faulted}
use Rattle.reg_tree.specs.Maps.{TreeMap}
use Rattle.reg_tree.specs.Sequences.{after_elements}
use Rattle.reg_tree.specs.declared.element.Element.{Element}
use Rattle.reply_lines.specs.Replies.{reply_line}
use Rattle.reply_lines.specs.Statuses.{with_refusal}
use Rattle.script_syntax.specs.declared.line.Line.TheVariants.{Flush}
use Rattle.reply_lines.specs.declared.reply.ReplyLine.{ReplyLine}
use Rattle.reply_lines.specs.declared.status.Status.{Status}
use Rattle.reply_lines.specs.declared.status.Status.TheVariants.{Refused}
use Rattle.script_runner.specs.Plays.{is_refusal}
use Rattle.store_driver.specs.Openings.{IsOpenedOn, MayNotOpen}
use Rattle.script_runner.specs.Plays.{opened_text}
use Rattle.script_loop.specs.declared.end_of_script.EndOfScript.{EndOfScript}
use Rattle.recovery.specs.Recovered.{seen_in}
use Rattle.histories.specs.Asked.{asked_in}
use Rattle.histories.specs.Leaving.{LeavesHistory}
use Rattle.engine_invariant.specs.Engines.{EngineView}
use Rattle.histories.specs.Points.{HistoryEntry}
use Rattle.ktm_calls.specs.Denials.{denial_of}
use Rattle.ktm_calls.specs.Moments.{IsOf, SeesMore, Sight, no_sight}
use Rattle.ktm_calls.specs.declared.registry.Denied.{Denied}
use Rattle.commit_journal.specs.Store.{Store}
use Rattle.disk_model.specs.FileState.{FileState}
use Rattle.store_model.specs.Machine.{Machine}
use Rattle.registry_runner.specs.Parts.{Part, BeginsOrNot, FoldsAt, MayNotBegin, LiesLast, SeesAllAsked, start_text}
use Rattle.registry_runner.specs.Plays.{IsPlayedOn, PlaysOn, WereReadIf}
use Rattle.registry_lines.specs.Scripts.{Script, Answers, IsBegun, MayNotEnter, MayProbe}
use Rattle.registry_runner.specs.declared.parts.PartStart.{PartStart}
use Rattle.registry_runner.specs.declared.parts.PartEnd.{PartEnd}
use Rattle.registry_runner.specs.declared.parts.PartEnd.TheVariants.{RunEnded, ToFold}

-- a flush that no line asked for is reported if it is refused
abbrev pub flushed_text : ReplyLine → List ℕ
flushed_text reported = if is_refusal reported then reply_line reported else []

-- the last line, if something is left undone
abbrev pub undone_text : Option Refusal → List ℕ
undone_text None = []
undone_text (Some why) = refusal_text why ++ 10 ∷ []

-- What the end of a run reports of steps that no line asked for: that the device failed in one between two lines; else
-- what ended the flusher. `Faulted` says that the device failed earlier, which was reported then.
abbrev pub unless_faulted : Option Refusal → Option Refusal
unless_faulted (Some Faulted) = None
unless_faulted why = why

abbrev pub undone : {S : Type 0} → Bool → Result S Denied → Option Refusal
undone true flushed = Some DiskFault
undone false (Ok stopped) = None
undone false (Err why) = unless_faulted (denial_of why)

-- what may have ended the steps that no line asked for: nothing, a failure of the device, or want of memory
abbrev pub MayHaveEnded : Option Refusal → Type 0
MayHaveEnded ended = (ended ≡ None) ⊎ (ended ≡ Some DiskFault) ⊎ (ended ≡ Some NoMemory)

-- What the end of a run may report of them: the device has failed, if the question whether the store is faulted was
-- refused for that; or want of memory.
abbrev pub MayBeUndone : Bool → EngineView → List TreeMap → ℕ → ℕ → Sight → Sight → Option Refusal → Type 0
MayBeUndone sole origin trees number hives was seen undone =
    (undone ≡ None) ⊎ ((undone ≡ Some DiskFault) × MayNotEnter sole origin trees number hives was seen Faulted) ⊎ (undone ≡ Some NoMemory)

-- A script that reached this status ends in this part: all is flushed, which is reported if it is refused, and then what
-- is left undone. What was seen by then stands in the run's whole history, and nothing is asked for after it.
pub record HasEnded (whole : List HistoryEntry) (part : Part) (came_to : Status) (before after : Option (List ℕ)) (status : Status) : Type 0 where
  pub reported : ReplyLine
  pub last : Script
  pub flushed : Answers part.sole part.start part.trees part.number part.hives part.script Flush reported last
  pub seen : Sight
  pub later : SeesMore last.session.seen seen
  pub probes : MayProbe part.sole last.session.seen seen
  pub stands : LiesLast part.sole whole part.past part.start seen
  pub undone : Option Refusal
  pub may : MayBeUndone part.sole part.start part.trees part.number part.hives last.session.seen seen undone
  pub wrote : Appends before after (flushed_text reported ++ undone_text undone)
  pub status_is : status ≡ with_refusal (is_some undone) (with_refusal (is_refusal reported) came_to)

-- how a run ends whose lines left it so, with this status: as a script does; or with nothing more, as no part followed
abbrev pub EndsRun : List HistoryEntry → Result Part Refusal → Status → Option (List ℕ) → Option (List ℕ) → Status → Type 0
EndsRun whole (Ok part) came_to before after status = HasEnded whole part came_to before after status
EndsRun whole (Err why) came_to before after status = Keeps before after × (status ≡ came_to)

-- The store's number was reported; these lines were played over registries of the store, up to this end of the script;
-- and at the end all was flushed. Each line was answered in this whole history of the run, in the order of the lines.
pub record RunsOver (whole : List HistoryEntry) (limit : ℕ) (sole : Bool) (origin : EngineView) (trees : List TreeMap) (number hives : ℕ) (lines : List (List ℕ)) (end_of_script : Option EndOfScript) (before after : Option (List ℕ)) (status : Status) : Type 0 where
  pub opened : Option (List ℕ)
  pub told : Appends before opened (opened_text number)
  pub script : Script
  pub begun : IsBegun sole origin trees number hives no_sight 0 script
  pub text : List ℕ
  pub came_to : Status
  pub end : Result Part Refusal
  pub plays : PlaysOn whole limit (Ok (record { past = []; sole = sole; start = origin; trees = trees; number = number; hives = hives; script = script })) 1 lines end_of_script text came_to end
  pub played : Option (List ℕ)
  pub wrote : Appends opened played text
  pub ends : EndsRun whole end came_to played after status

-- nothing is read, and the reason is written
pub record IsReported (may : Refusal → Type 0) (before after : Option (List ℕ)) (status : Status) : Type 0 where
  pub why : Refusal
  pub may_be : may why
  pub reported : Appends before after (refusal_text why ++ 10 ∷ [])
  pub status_is : status ≡ Refused

-- A script over an opened store: it doesn't begin, and the reason is written; or it runs.
abbrev pub RunsOrNot : List HistoryEntry → ℕ → Bool → Option (List ℕ) → Bool → EngineView → List TreeMap → ℕ → ℕ → Option (List ℕ) → Option (List ℕ) → Status → Type 0
RunsOrNot whole limit can_read known sole origin trees number hives before after status =
    IsReported (MayNotBegin whole [] sole origin trees number hives) before after status
    ⊎ ((lines : List (List ℕ)) × (end_of_script : Option EndOfScript) × WereReadIf can_read known lines end_of_script × RunsOver whole limit sole origin trees number hives lines end_of_script before after status)

-- a machine is of a registry of the store that was opened on these trees after the change of this number: some changes
-- were folded, and its history begins after them
abbrev pub IsOfStore : List TreeMap → ℕ → ℕ → Machine → Type 0
IsOfStore trees number hives machine = (folded : List Element) × IsOf (after_elements trees folded) (number + length folded) hives machine

-- A store was opened on these files, and a script ran over registries of it. The disk as it was after the opening is
-- `first`: if it is faithful, the first registry's list begins with the number and the trees that the files recover. One
-- history leads from the engine over it to the engine as it was last, and to the disk that is handed back. If all could be
-- written, what was written and the status are those of a run over this engine, in this history: each line's event stands
-- in it with the reply that was written, and nothing else is asked for.
pub record OpensAndRuns {D E : Type 0} (is_faithful : D → Type 0) (states_of : D → ℕ → ℕ → FileState) (clock_of failures_of : D → ℕ) (files : ℕ → List ℕ) (disk : D) (can_read : Bool) (known before after : Option (List ℕ)) (told : Result Status E) : Type 0 where
  pub first : D
  pub store : Store
  pub number : ℕ
  pub begun : EngineView
  pub opened : IsOpenedOn (is_faithful first) files store number [] begun.machine
  pub history : List HistoryEntry
  pub last : EngineView
  pub owner : IsOfStore begun.machine.opened number begun.machine.bounds.hives last.machine
  pub left : LeavesHistory is_faithful states_of clock_of failures_of store first begun disk history last
  pub runs : IfOk told (λ status. RunsOrNot history begun.machine.bounds.changes can_read known true begun begun.machine.opened number begun.machine.bounds.hives before after status)

-- nothing in a history was asked for
abbrev pub IsUnasked : List HistoryEntry → Type 0
IsUnasked history = asked_in history ≡ []

-- A run that begins with one disk and hands back another: no store was opened, and the reason is written; or one was.
abbrev pub IsRun : {D E : Type 0} → (D → Type 0) → (D → ℕ → ℕ → FileState) → (D → ℕ) → (D → ℕ) → D → D → Bool → Option (List ℕ) → Option (List ℕ) → Option (List ℕ) → Result Status E → Type 0
IsRun is_faithful states_of clock_of failures_of old new can_read known before after told =
    IfOk told (IsReported (MayNotOpen (failures_of old < failures_of new) (is_faithful new) (seen_in (states_of old (clock_of old)))) before after)
    ⊎ OpensAndRuns is_faithful states_of clock_of failures_of (seen_in (states_of old (clock_of old))) new can_read known before after told

-- From here the lines were read to their end, and the run has ended; or no part follows, which is the last line.
abbrev pub GoesToEnd : List HistoryEntry → ℕ → Bool → Result Part Refusal → ℕ → Option (List ℕ) → Option (List ℕ) → Option (List ℕ) → Status → Type 0
GoesToEnd whole limit can_read (Err why) line known was is status = Appends was is (refusal_text why ++ 10 ∷ []) × (status ≡ Refused)
GoesToEnd whole limit can_read (Ok here) line known was is status =
    (end : Result Part Refusal) × (came_to : Status) × (played : Option (List ℕ)) × IsPlayedOn whole limit can_read (Ok here) line known was played came_to end × EndsRun whole end came_to played is status

-- A part was to begin after this past, on these trees after the change of this number: from there the run went to its
-- end.
abbrev pub RunsFrom : List HistoryEntry → List HistoryEntry → PartStart → Bool → EngineView → List TreeMap → ℕ → ℕ → Option (List ℕ) → Option (List ℕ) → Option (List ℕ) → Status → Type 0
RunsFrom whole past start sole origin trees number hives known was is status =
    (first : Result Part Refusal) × (told : Option (List ℕ)) × BeginsOrNot whole past sole origin trees number hives start.moment first × Appends was told (start_text start.kind first) × GoesToEnd whole start.limit start.can_read first start.line known told is status

-- The run ended in a part that was to begin so, and of which this was seen. Or the part's history is to be folded: however
-- the run goes to its end then, that is how it does from the part's beginning. In each case what was seen stands in the
-- whole history.
abbrev pub EndsPart : List HistoryEntry → List HistoryEntry → PartStart → Bool → EngineView → List TreeMap → ℕ → ℕ → Sight → Option (List ℕ) → Option (List ℕ) → PartEnd → Option (List ℕ) → Option (List ℕ) → Type 0
EndsPart whole past start sole origin trees number hives seen known was (RunEnded ran) rest is = LiesLast sole whole past origin seen → IfOk ran (λ status. RunsFrom whole past start sole origin trees number hives known was is status)
EndsPart whole past start sole origin trees number hives seen known was (ToFold next) rest is =
    (follows : Result Part Refusal) (told after : Option (List ℕ)) (status : Status) → FoldsAt whole past sole origin trees number hives seen next.moment follows → Appends is told (start_text next.kind follows) → GoesToEnd whole start.limit start.can_read follows next.line rest told after status
    → RunsFrom whole past start sole origin trees number hives known was after (with_refusal next.has_refusal status)

-- A part ends so over a registry that has this history of its own: something was seen of it, and wherever that history
-- comes in a run's whole one, the part ends so.
abbrev pub EndsPartAfter : List HistoryEntry → PartStart → Bool → EngineView → List TreeMap → ℕ → ℕ → Option (List ℕ) → Option (List ℕ) → PartEnd → Option (List ℕ) → Option (List ℕ) → Type 0
EndsPartAfter own start sole origin trees number hives known was end rest is =
    (seen : Sight) × SeesAllAsked sole origin seen own × ((whole past : List HistoryEntry) → EndsPart whole past start sole origin trees number hives seen known was end rest is)
