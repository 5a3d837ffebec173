-- What the lines of a laboratory ask, and the replies to them.
use Rattle.std.specs.Prelude.{◌≡◌, ◌≢◌, ◌⊎◌, ℕ, zero, suc, ◌-◌, ◌^◌, Bool, false, List, [], ◌∷◌, ◌++◌, ◌+◌, Option, Some, None}
use Rattle.disk_model.specs.Plan.{no_points}
use Rattle.disk_model.specs.declared.tear.Tear.{Tear}
use Rattle.disk_model.specs.declared.tear.Tear.TheVariants as tear
use Rattle.store_model.specs.declared.event.Event.TheVariants as event
use Rattle.reg_tree.specs.Maps.{TreeMap}
use Rattle.script_syntax.specs.Lines.{line_of}
use Rattle.reply_lines.specs.Replies.{reply_line}
use Rattle.script_syntax.specs.declared.lab_line.CrashTear.{CrashTear}
use Rattle.script_syntax.specs.declared.lab_line.CrashTear.TheVariants as crash
use Rattle.script_syntax.specs.declared.lab_line.LabLine.{LabLine}
use Rattle.script_syntax.specs.declared.lab_line.LabLine.TheVariants.{Accept, JournalStep, FlusherStep, TrimStep, FlushWhole, StopAt, FailAt, Crash}
use Rattle.script_syntax.specs.declared.line.Line.{Line}
use Rattle.script_syntax.specs.declared.line.Line.TheVariants.{Hives, History, Served, Lab}
use Rattle.reply_lines.specs.declared.reply.ReplyLine.{ReplyLine}
use Rattle.reply_lines.specs.declared.reply.ReplyLine.TheVariants as reply
use Rattle.script_runner.specs.Plays.{is_refusal}
use Rattle.script_runner.specs.Plays.{opened_text}
use Rattle.script_runner.specs.Scripts.{Script, Answers, Asks, IsLabelled, script_at}
use Rattle.tree_printer.specs.TreeTexts.{tree_text}
use Rattle.crash_lab.specs.LabStates.{LabState, CrashesAreSafe}
use Rattle.crash_lab.specs.Devices.{HasJustBegun, number_after}
use Rattle.crash_lab.specs.Crashes.{MayNotReopen, OpensAfterCrash}
use Rattle.crash_lab.specs.declared.reply.LabReply.{LabReply}
use Rattle.crash_lab.specs.declared.reply.LabReply.TheVariants.{OneLine, Opened}

-- `hives` is a script's first line alone, and `history` its second; any other line may follow them, but those of served
-- sessions
abbrev pub following_line : Option Line → Option Line
following_line None = None
following_line (Some (Hives count)) = None
following_line (Some (History limit)) = None
following_line (Some (Served line)) = None
following_line (Some line) = Some line

-- the line of the bytes of any further line
abbrev pub line_asked : List ℕ → Option Line
line_asked bytes = following_line (line_of bytes)

-- the script asks for what is reported, nothing more is asked of the device, and the limit of the history stays
abbrev pub Replies : (ReplyLine → Script → Type 0) → LabState → LabReply → LabState → Type 0
Replies answers old (OneLine reported) new = answers reported new.script × (new.points ≡ old.points) × (new.limit ≡ old.limit)
Replies answers old (Opened number) new = ⊥

-- the transaction of a label is committed, and not waited for
abbrev pub Accepts : Script → List ℕ → ReplyLine → Script → Type 0
Accepts old label reported new = IsLabelled (old.labels label) (λ tx. Asks old (event.CommitAccept old.session tx old.moment) reported new) old reported new

-- Steps of a hive's flush, at most the given number: each but the last is answered with `more`, and the last, which is
-- not, is the reply.
abbrev pub Flushes : ℕ → Script → ℕ → ReplyLine → Script → Type 0
Flushes zero old hive reported new = (reported ≡ reply.StepMore) × (new ≡ old)
Flushes (suc left) old hive reported new =
    (Asks old (event.FlusherStep hive) reported new × (reported ≢ reply.StepMore))
    ⊎ ((mid : Script) × Asks old (event.FlusherStep hive) reply.StepMore mid × Flushes left mid hive reported new)

-- more steps than a flush has
abbrev pub most_steps : ℕ
most_steps = 2 ^ 64 - 1

-- a hive's flush, up to the step that is not answered with `more`
pub record IsFlushedWhole (old : Script) (hive : ℕ) (reported : ReplyLine) (new : Script) : Type 0 where
  pub steps : Flushes most_steps old hive reported new

-- what a crash makes of what was not synced
abbrev pub tear_of : CrashTear → Tear
tear_of crash.Old = tear.Old
tear_of crash.New = tear.New
tear_of crash.Torn = tear.Torn

-- A store was opened after a loss of power: session 0 is open and current, no label names anything, the moment is the
-- one before, its history may have as many changes as before, nothing is asked of the
-- new disk's device, and none of its calls has failed.
pub record Reopens (at : Tear) (old : LabState) (number : ℕ) (new : LabState) : Type 0 where
  pub opens : OpensAfterCrash at old.files old.limit number new.script.machine
  pub script_is : new.script ≡ record (script_at new.script.machine) { moment = old.script.moment }
  pub limit_is : new.limit ≡ old.limit
  pub points_is : new.points ≡ no_points
  pub calls : HasJustBegun new.counts

-- the power goes: a store is opened on what is left, or none is, which changes nothing
abbrev pub Crashes : Tear → LabState → LabReply → LabState → Type 0
Crashes at old (Opened number) new = Reopens at old number new
Crashes at old (OneLine (reply.Refused why)) new = MayNotReopen at old.files why × (new ≡ old)
Crashes at old (OneLine reported) new = ⊥

-- From old, a line that only a laboratory takes may get this reply, and leave new.
abbrev pub Experiments : LabState → LabLine → LabReply → LabState → Type 0
Experiments old (Accept label) reported new = Replies (Accepts old.script label) old reported new
Experiments old JournalStep reported new = Replies (Asks old.script event.JournalStep) old reported new
Experiments old (FlusherStep hive) reported new = Replies (Asks old.script (event.FlusherStep hive)) old reported new
Experiments old TrimStep reported new = Replies (Asks old.script event.TrimStep) old reported new
Experiments old (FlushWhole hive) reported new = Replies (IsFlushedWhole old.script hive) old reported new
Experiments old (StopAt call) reported new = (reported ≡ OneLine reply.Done) × (new ≡ record old { points = record old.points { stop_on = number_after old.counts.changes call } })
Experiments old (FailAt call) reported new = (reported ≡ OneLine reply.Done) × (new ≡ record old { points = record old.points { fail_on = number_after old.counts.calls call } })
Experiments old (Crash at) reported new = Crashes (tear_of at) old reported new

-- the same of any line: those of other scripts get their replies
abbrev pub AnswersLine : LabState → Line → LabReply → LabState → Type 0
AnswersLine old (Lab line) reported new = Experiments old line reported new
AnswersLine old line reported new = Replies (Answers old.script line) old reported new

-- and what a loss of power would leave then is known
abbrev pub Answered : LabState → Line → LabReply → LabState → Type 0
Answered old line reported new = AnswersLine old line reported new × CrashesAreSafe new

-- whether it is a refusal
abbrev pub is_refused : LabReply → Bool
is_refused (OneLine reported) = is_refusal reported
is_refused (Opened number) = false

-- the text of the trees of hives, the first of which has this number
abbrev pub trees_text : ℕ → List TreeMap → List ℕ
trees_text hive [] = []
trees_text hive (tree ∷ trees) = tree_text hive tree ++ trees_text (hive + 1) trees

-- what is written, with the trees after the line of the hives that calls name
abbrev pub lab_reply_text : LabReply → List TreeMap → List ℕ
lab_reply_text (OneLine reported) trees = reply_line reported
lab_reply_text (Opened number) trees = opened_text number ++ trees_text 0 trees
