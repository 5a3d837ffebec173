use Rattle.std.proofs.Common.{◌∙◌}
use Rattle.std.specs.Arc.{arc_value}
use Rattle.reg_tree_parts.specs.ValueEntries.{value_entries}
use Rattle.reg_tree_parts.proofs.ValueLists.{written_is, with_same}
use Rattle.reg_tree_parts.proofs.values.Values.with.Goals as goal

pub with-requires : goal.with-requires
with-requires c = record { fits = c.self.invariant.fits; sorted = c.self.invariant.sorted }

pub invariant_of-result : goal.invariant_of-result
invariant_of-result c = record {
  sorted = (written_is (value_entries c.self.inside.items) c.self.invariant.sorted (arc_value c.in_ok-value.value) (value_entries c.in_ok-items.items) c.in_ok-items.ensures.entries).0;
  fits = c.in_ok-items.ensures.fits;
}

pub returns : goal.returns
returns c = rw (← c.self.view_is)
    ((written_is (value_entries c.self.inside.items) c.self.invariant.sorted (arc_value c.in_ok-value.value) (value_entries c.in_ok-items.items) c.in_ok-items.ensures.entries).1
    ∙ rw c.in_ok-value.ensures.ok (with_same _ _ _ c.args.kind _ _ c.in_ok-name.ensures c.in_ok-data.ensures))
