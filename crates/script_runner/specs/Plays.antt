-- What a script prints, and how its run ends.
use Rattle.std.specs.Prelude.{◌≡◌, ℕ, Bool, true, false, List, ◌++◌, Option, Some, None, codes}
use Rattle.std.specs.Fmt.{decimal}
use Rattle.reply_lines.specs.Replies.{reply_line}
use Rattle.script_syntax.specs.declared.line.Line.{Line}
use Rattle.reply_lines.specs.declared.reply.ReplyLine.{ReplyLine}
use Rattle.reply_lines.specs.declared.reply.ReplyLine.TheVariants as reply
use Rattle.reply_lines.specs.declared.status.Status.{Status}
use Rattle.script_loop.specs.NewStores.{IsScriptRun}
use Rattle.script_runner.specs.Scripts.{Script, Answers, fresh_script, limited, line_asked}
use Rattle.script_runner.specs.Faults.{is_device_reply}

-- what is printed of a store that was opened, before the first line's reply
abbrev pub opened_text : ℕ → List ℕ
opened_text number = codes "opened " ++ decimal number ++ codes "\n"

-- whether a reply is a refusal
abbrev pub is_refusal : ReplyLine → Bool
is_refusal (reply.Refused refusal) = true
is_refusal _ = false

-- A store in memory has a disk that never fails: none of its replies reports the device.
abbrev pub MayReply : ReplyLine → Type 0
MayReply reported = is_device_reply reported ≡ false

-- From old to new, a line is answered by this text: that of a reply that may be given.
abbrev pub PlaysLine : Script → List ℕ → List ℕ → Bool → Script → Type 0
PlaysLine old line text refused new =
    (asked : Line) × (reported : ReplyLine) × (line_asked line ≡ Some asked) × Answers old asked reported new × MayReply reported × (text ≡ reply_line reported) × (refused ≡ is_refusal reported)

-- Some lines were read, and what was written is what they print: the first line makes a store, the second may limit its
-- history, and each later one is answered in turn, up to one that is not understood.
abbrev pub IsPlayed : Option (List ℕ) → Option (List ℕ) → Option (List ℕ) → Status → Type 0
IsPlayed known before after status = IsScriptRun (λ hives script. script ≡ fresh_script hives) (λ limit old new. new ≡ limited limit old) PlaysLine (λ line. line_asked line ≡ None) known before after status
