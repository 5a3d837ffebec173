use Rattle.std.proofs.Common.{◌*◌, ◌-◌, ◌≤◌, ℕ, inr, rules, subst}
use Rattle.registry_lines.specs.Interpreters.{script_of}
use Rattle.registry_lines.specs.Scripts.{HasNothingToEnd}
use Rattle.registry_lines.proofs.Hearing.{fold_refused}
use Rattle.registry_runner.proofs.lines.work_between_lines.Goals as goal

-- a fold that is refused
pub returns-after-has_failed-clause-between : goal.returns-after-has_failed-clause-between
returns-after-has_failed-clause-between g c past begins =
    let O = g.O.Origin in
    let used = c.args.history.now in
    let flushed = fold_refused g.O.Start.sole g.O.Start.start O.trees O.number O.hives (script_of c.args.script.now) (script_of c.fold.new.self) c.in-Reply.reply c.in-Reply.ensures in
    let due : 3 * used.limit ≤ 4 * (c.args.told - used.first) = search rules in
    let ends_nothing : HasNothingToEnd (script_of c.args.script.now) = search rules in
    inr (subst (λ (n : ℕ). 3 * used.limit ≤ 4 * (c.args.told - n)) begins due, ends_nothing, flushed.0, flushed.1)
