use Rattle.std.proofs.Common.{◌≡◌, ◌-◌}
use Rattle.reply_lines.specs.declared.reply.ReplyLine.{ReplyLine}
use Rattle.script_runner.specs.Interpreters.{script_of}
use Rattle.script_runner.specs.Scripts.{Script}
use Rattle.crash_lab.specs.Experiments.{Flushes, IsFlushedWhole, most_steps}
use Rattle.crash_lab.proofs.lab_state.Laboratory.flush_whole.Given as goal

-- however the flush continues, it is the whole flush; nothing is asked of the device, and the limit stays
abbrev pub invariant-loop-made : goal.invariant-loop-made
invariant-loop-made l =
    (l.self.device ≡ l.fn.self.device) × (l.self.limit ≡ l.fn.self.limit)
    × ((reported : ReplyLine) (new : Script) → Flushes (most_steps - l._made) (script_of l.self.interpreter) l.hive reported new → IsFlushedWhole (script_of l.fn.self.interpreter) l.hive reported new)
