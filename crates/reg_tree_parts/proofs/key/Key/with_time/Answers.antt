use Rattle.std.proofs.Common.{◌≡◌, ◌∙◌, IfOk, ap, subst}
use Rattle.reg_tree_parts.specs.Rows.{Row}
use Rattle.reg_tree_parts.proofs.key.Key.with_time.Goals as goal

pub returns : goal.returns
returns c =
    subst (λ values. IfOk c.with_values.result (λ made. made ≡ record c.args.self.now { time = c.args.time; values = values })) (c.in_ok-values.ensures ∙ ap (λ (key : Row). key.values) c.self.view_is) c.with_values.ensures
