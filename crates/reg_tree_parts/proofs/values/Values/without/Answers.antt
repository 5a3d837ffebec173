use Rattle.reg_names.specs.Names.{folded}
use Rattle.reg_tree_parts.specs.ValueEntries.{value_entries}
use Rattle.reg_tree_parts.proofs.ValueLists.{removed_is}
use Rattle.reg_tree_parts.proofs.values.Values.without.Goals as goal

pub without-requires : goal.without-requires
without-requires c = record { fits = c.self.invariant.fits; sorted = c.self.invariant.sorted }

pub invariant_of-result : goal.invariant_of-result
invariant_of-result c = record {
  sorted = (removed_is (value_entries c.self.inside.items) c.self.invariant.sorted (folded c.args.name.now) (value_entries c.in_ok-items.items) c.in_ok-items.ensures.entries).0;
  fits = c.in_ok-items.ensures.fits;
}

pub returns : goal.returns
returns c = rw (← c.self.view_is) (removed_is (value_entries c.self.inside.items) c.self.invariant.sorted (folded c.args.name.now) (value_entries c.in_ok-items.items) c.in_ok-items.ensures.entries).1
