use Rattle.std.proofs.Common.{◌≡◌, Some, ◌∙◌, ap}
use Rattle.reg_tree_parts.specs.ValueEdits.{values_with}
use Rattle.reg_tree.proofs.tree.edits.with_value.Goals as goal

pub returns-clause-edits : goal.returns-clause-edits
returns-clause-edits c =
    let key = c.key-key.result.now in
    let values : c.in_ok-values.values ≡ values_with key.values c.args.name.now c.args.kind c.args.«data».now = c.in_ok-values.ensures ∙ (λ i. values_with (c.values.ensures i) c.args.name.now c.args.kind c.args.«data».now) in
    record {
      row = key;
      was = c.key-key.ensures.here;
      here = c.in_ok-new.ensures.here ∙ ap Some (c.in_ok-with_values.ensures ∙ (λ i. record key { time = c.args.moment; values = values i }));
      below = c.in_ok-new.ensures.below;
    }
