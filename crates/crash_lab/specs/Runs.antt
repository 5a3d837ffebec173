-- What a script prints in a laboratory, and how its run ends.
use Rattle.std.specs.Prelude.{◌≡◌, ℕ, Bool, List, Option, Some, None}
use Rattle.script_syntax.specs.declared.line.Line.{Line}
use Rattle.reply_lines.specs.declared.status.Status.{Status}
use Rattle.script_loop.specs.NewStores.{IsScriptRun}
use Rattle.store_model.specs.Machine.{named_trees}
use Rattle.crash_lab.specs.Devices.{GoesAsAsked}
use Rattle.crash_lab.specs.LabStates.{LabState, IsLimited, IsNew}
use Rattle.crash_lab.specs.Experiments.{Answered, is_refused, line_asked, lab_reply_text}
use Rattle.crash_lab.specs.declared.reply.LabReply.{LabReply}

-- From old to new, a line is answered by this text: that of a reply, with the trees that stand then. The device has done
-- what was asked of it.
abbrev pub TriesLine : LabState → List ℕ → List ℕ → Bool → LabState → Type 0
TriesLine old line text refused new =
    (asked : Line) × (reported : LabReply) × (line_asked line ≡ Some asked) × Answered old asked reported new × GoesAsAsked new.points old.counts reported new.counts × (text ≡ lab_reply_text reported (named_trees new.script.machine)) × (refused ≡ is_refused reported)

-- Some lines were read, and what was written is what they print: the first line makes a store, the second may limit its
-- history, and each later one is answered in turn, up to one that is not understood.
abbrev pub IsExperiment : Option (List ℕ) → Option (List ℕ) → Option (List ℕ) → Status → Type 0
IsExperiment known before after status = IsScriptRun IsNew IsLimited TriesLine (λ line. line_asked line ≡ None) known before after status
