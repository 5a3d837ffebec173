use Rattle.std.proofs.Common.{inr, ap, length, ◌==◌, List, ℕ, sym, ◌∙◌}
use Rattle.change_plan.specs.Edits.{is_root}
use Rattle.change_plan.proofs.Sequences.{no_names}
use Rattle.change_plan.proofs.Removed.{removes}
use Rattle.change_plan.proofs.removal.removal.Goals as goal

pub returns-then-is_empty-clause-refused : goal.returns-then-is_empty-clause-refused
returns-then-is_empty-clause-refused c = inr (is_root (no_names c.args.path.now (ap (λ (xs : List (List ℕ)). length xs == 0) (sym c.names.ensures.names) ∙ sym c.is_empty.ensures ∙ c.if-is_empty.true)))

pub returns-clause-made : goal.returns-clause-made
returns-clause-made c = removes c.in_ok-made.made c.remove.new.made c.args.view.now c.args.moment c.args.hive c.args.path.now c.in_ok-made.ensures.0 c.in_ok-made.ensures.1 c.in_ok-remove.ensures.deleted c.in_ok-remove.ensures.gone
