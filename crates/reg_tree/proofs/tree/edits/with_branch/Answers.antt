use Rattle.std.proofs.Common.{◌∷◌, Some, sym, ◌∙◌, ap}
use Rattle.std.specs.Ordering.{eq_by_cmp}
use Rattle.reg_tree_parts.specs.Orders.{name_order}
use Rattle.reg_tree_parts.specs.Nodes.{row_at, branch_row}
use Rattle.reg_tree.proofs.tree.edits.with_branch.Goals as goal

pub returns-clause-edits : goal.returns-clause-edits
returns-clause-edits c =
    let key = c.key-key.result.now in
    record {
      name = c.in-Some.name.now;
      further = c.in-Some.further.now;
      names_are = c.in-Some.ensures.cases.0;
      row = key;
      was = c.key-key.ensures.here;
      here = c.in_ok-new.ensures.here ∙ ap Some c.in_ok-with_time.ensures;
      branch = c.in_ok-branch.branch;
      rows = λ r. c.in_ok-branch.ensures.rows r ∙ ap (λ b. branch_row c.in-Some.name.now c.in-Some.further.now b c.args.moment r) c.descriptor.ensures;
      below = λ r. ap (λ n. row_at c.in_ok-new.new (n ∷ r)) (sym c.in_ok-branch.ensures.root) ∙ c.in_ok-new.ensures.child r;
      kept = λ m r apart. c.in_ok-new.ensures.others m r (ap (eq_by_cmp name_order m) c.in_ok-branch.ensures.root ∙ apart);
    }
