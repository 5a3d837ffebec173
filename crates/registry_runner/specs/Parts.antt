-- The parts of a script's run. Each calls a registry of its own, and the history is folded between two of them.
use Rattle.std.specs.Prelude.{◌≡◌, ℕ, ◌+◌, ◌-◌, ◌*◌, ◌≤◌, ◌⊎◌, Bool, true, List, [], ◌++◌, length, Result, Ok, Err}
use mathlib.Core.List.{IsPrefix}
use Rattle.refusals.specs.declared.refusal.Refusal.{Refusal}
use Rattle.refusals.specs.declared.refusal.Refusal.TheVariants.{NoMemory, NoSeat}
use Rattle.reg_tree.specs.Maps.{TreeMap}
use Rattle.reg_tree.specs.Sequences.{after_elements}
use Rattle.reply_lines.specs.Replies.{reply_line}
use Rattle.reply_lines.specs.declared.reply.ReplyLine.{ReplyLine}
use Rattle.reply_lines.specs.declared.reply.ReplyLine.TheVariants as reply
use Rattle.script_runner.specs.Plays.{opened_text}
use Rattle.histories.specs.Asked.{EndSessions, asked_in}
use Rattle.histories.specs.Histories.{end_of}
use Rattle.engine_invariant.specs.Engines.{EngineView}
use Rattle.histories.specs.Points.{HistoryEntry}
use Rattle.store_model.specs.Machine.{is_of_device}
use Rattle.ktm_calls.specs.Moments.{SeesMore, Sight, no_sight}
use Rattle.registry_lines.specs.Scripts.{Script, FlushesThen, IsBegun, IsFlushed, HasNothingToEnd, MayNotEnter, number_told}
use Rattle.registry_runner.specs.declared.parts.PartKind.{PartKind}
use Rattle.registry_runner.specs.declared.parts.PartKind.TheVariants.{Opened, Folded, Continued}

-- a part of a run between two lines: the run's history before the part, whether the run is the sole asker, where its
-- registry's history begins, the trees on which its list of changes begins, the number of the last change before that
-- list, how many hives calls may name, and the script
pub record Part : Type 0 where
  pub past : List HistoryEntry
  pub sole : Bool
  pub start : EngineView
  pub trees : List TreeMap
  pub number : ℕ
  pub hives : ℕ
  pub script : Script

abbrev pub with_script : Part → Script → Part
with_script part script = record part { script = script }

-- all that there is to see of a registry after this history: the changes that were accepted in it, and the history; and
-- how many events were asked for in it
abbrev pub sight_of : EngineView → List HistoryEntry → Sight
sight_of start history = record { list = (end_of start history).machine.accepted; history = history; asked = length (asked_in history) }

-- What was seen begins all that there is to see of a registry. If there is a sole asker, all that was asked for was seen,
-- but for the ends of sessions that were still open.
pub record SeesAllAsked (sole : Bool) (start : EngineView) (seen : Sight) (own : List HistoryEntry) : Type 0 where
  pub begins : SeesMore seen (sight_of start own)
  pub asked : sole ≡ true → (ends : List HistoryEntry) × EndSessions ends × (asked_in own ≡ asked_in seen.history ++ ends)

-- What was seen of a registry lies in the whole history of a run: the registry's own history comes there after this
-- past.
pub record LiesIn (sole : Bool) (whole past : List HistoryEntry) (start : EngineView) (seen : Sight) : Type 0 where
  pub own : List HistoryEntry
  pub sees : SeesAllAsked sole start seen own
  pub within : IsPrefix (past ++ own) whole

-- the same of the last registry of a run: nothing is asked for after it
pub record LiesLast (sole : Bool) (whole past : List HistoryEntry) (start : EngineView) (seen : Sight) : Type 0 where
  pub lies : LiesIn sole whole past start seen
  pub last : asked_in whole ≡ asked_in (past ++ lies.own)

-- If there is a sole asker, nothing was asked for after this past, but for the ends of sessions.
abbrev pub AsksNoMore : Bool → List HistoryEntry → List HistoryEntry → Type 0
AsksNoMore sole whole past = sole ≡ true → (ends : List HistoryEntry) × EndSessions ends × (asked_in whole ≡ asked_in past ++ ends)

-- Why no part begins over an engine: there is no memory, or no reader, and nothing more is asked for. Or session 0 was
-- refused in the whole history.
abbrev pub MayNotBegin : List HistoryEntry → List HistoryEntry → Bool → EngineView → List TreeMap → ℕ → ℕ → Refusal → Type 0
MayNotBegin whole past sole origin trees number hives why =
    (((why ≡ NoMemory) ⊎ (why ≡ NoSeat)) × AsksNoMore sole whole past)
    ⊎ ((seen : Sight) × LiesLast sole whole past origin seen × MayNotEnter sole origin trees number hives no_sight seen why)

-- a part begins after this past, on these trees after the change of this number, at this moment; or none does, and why
abbrev pub BeginsOrNot : List HistoryEntry → List HistoryEntry → Bool → EngineView → List TreeMap → ℕ → ℕ → ℕ → Result Part Refusal → Type 0
BeginsOrNot whole past sole origin trees number hives moment (Ok part) = (part.past ≡ past) × (part.sole ≡ sole) × (part.start ≡ origin) × (part.trees ≡ trees) × (part.number ≡ number) × (part.hives ≡ hives) × IsBegun sole origin trees number hives no_sight moment part.script
BeginsOrNot whole past sole origin trees number hives moment (Err why) = MayNotBegin whole past sole origin trees number hives why

-- why a history isn't folded of which all is durable: there is no memory, or the device has failed
abbrev pub MayNotFold : Refusal → Type 0
MayNotFold why = (why ≡ NoMemory) ⊎ (is_of_device why ≡ true)

-- The history of a registry is folded, after its own history, by further events of the run's, for which nobody asks. The
-- next part comes after all of them. Its list of changes begins on the trees after the changes that this registry accepted, and its number is
-- the last one plus their count.
pub record NextBegins (sole : Bool) (whole past own : List HistoryEntry) (start : EngineView) (trees : List TreeMap) (number hives moment : ℕ) (next : Result Part Refusal) : Type 0 where
  pub folding : List HistoryEntry
  pub unasked : asked_in folding ≡ []
  pub within : IsPrefix (past ++ (own ++ folding)) whole
  pub begins : BeginsOrNot whole (past ++ (own ++ folding)) sole (end_of start (own ++ folding)) (after_elements trees (end_of start own).machine.accepted) (number + length (end_of start own).machine.accepted) hives moment next

-- A registry of which this was seen ends, and its history is folded: the next part begins. Or no part follows, and why;
-- nothing more is asked for then.
abbrev pub FoldsAt : List HistoryEntry → List HistoryEntry → Bool → EngineView → List TreeMap → ℕ → ℕ → Sight → ℕ → Result Part Refusal → Type 0
FoldsAt whole past sole start trees number hives seen moment next =
    (stands : LiesIn sole whole past start seen) × (NextBegins sole whole past stands.own start trees number hives moment next ⊎ ((why : Refusal) × MayNotFold why × (next ≡ Err why) × (asked_in whole ≡ asked_in (past ++ stands.own))))

-- the history of a part is folded, and the moment stays
abbrev pub Folds : List HistoryEntry → Part → Result Part Refusal → Type 0
Folds whole old next = FoldsAt whole old.past old.sole old.start old.trees old.number old.hives old.script.session.seen old.script.moment next

-- what is printed as a part begins
abbrev pub kind_text : PartKind → ℕ → List ℕ
kind_text Opened number = opened_text number
kind_text Folded number = reply_line (reply.Folded number)
kind_text Continued number = []

-- the same, if it does
abbrev pub start_text : PartKind → Result Part Refusal → List ℕ
start_text kind (Ok part) = kind_text kind part.number
start_text kind (Err why) = []

-- by the number of a change, three quarters of the changes that a history may have were accepted in a part
abbrev pub IsDue : ℕ → Part → ℕ → Type 0
IsDue limit part number = 3 * limit ≤ 4 * (number - part.number)

-- After a line's reply nothing changes for the script. Or the history is folded before it is full, of which nothing is
-- printed. That happens only if the reply tells that it is due, and if session 0 alone is open and no label names
-- anything: so each later reply may be one of the registry before the fold. If the fold is refused, the script goes on in
-- the same registry.
abbrev pub KeepsOrFolds : List HistoryEntry → ℕ → Part → ReplyLine → Result Part Refusal → Type 0
KeepsOrFolds whole limit old reported kept =
    (kept ≡ Ok old)
    ⊎ (IsDue limit old (number_told reported) × HasNothingToEnd old.script
    × (((flushed : ReplyLine) × (new : Script) × FlushesThen old.sole old.start old.trees old.number old.hives old.script flushed new × (kept ≡ Ok (with_script old new)))
    ⊎ ((mid : Script) × IsFlushed old.sole old.start old.trees old.number old.hives old.script mid × Folds whole (with_script old mid) kept)))
