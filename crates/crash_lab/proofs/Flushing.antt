-- A hive's flush, step by step.
use Rattle.std.proofs.Common.{◌≡◌, ◌≢◌, ℕ, suc, ◌+◌, ◌-◌, ◌<◌, refl, sym, subst, inl, inr, arith}
use Rattle.store_model.specs.declared.event.Event.TheVariants as event
use Rattle.reply_lines.specs.declared.reply.ReplyLine.{ReplyLine}
use Rattle.reply_lines.specs.declared.reply.ReplyLine.TheVariants as reply
use Rattle.script_runner.specs.Scripts.{Script, Asks}
use Rattle.crash_lab.specs.Experiments.{Flushes}

-- one step fewer is left
one_fewer : (most made : ℕ) → made < most → most - made ≡ suc (most - (made + 1))
one_fewer most made below = omega (arith, below)

-- a step that isn't answered with `more` is the last
pub last_step : (most made hive : ℕ) (old new : Script) (reported : ReplyLine) → made < most → Asks old (event.FlusherStep hive) reported new → reported ≢ reply.StepMore → Flushes (most - made) old hive reported new
last_step most made hive old new reported below asked other = subst (λ left. Flushes left old hive reported new) (sym (one_fewer most made below)) (inl (asked, other))

-- a step that is answered with `more` goes before others
pub step_before : (most made hive : ℕ) (old mid new : Script) (reported : ReplyLine) → made < most → Asks old (event.FlusherStep hive) reply.StepMore mid → Flushes (most - (made + 1)) mid hive reported new → Flushes (most - made) old hive reported new
step_before most made hive old mid new reported below asked on = subst (λ left. Flushes left old hive reported new) (sym (one_fewer most made below)) (inr (mid, asked, on))

-- none is left
pub none_left : (most made hive : ℕ) (script : Script) → most - made ≡ 0 → Flushes (most - made) script hive reply.StepMore script
none_left most made hive script none = subst (λ left. Flushes left script hive reply.StepMore script) (sym none) (refl, refl)
