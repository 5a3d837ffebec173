use Rattle.std.proofs.Common.{T, sym, ◌∙◌, ap, subst, length}
use Rattle.std.specs.FinMap.{empty_of_len}
use Rattle.std.specs.FinMap.Entries.{is_sorted}
use Rattle.reg_tree_parts.specs.Orders.{name_order}
use Rattle.reg_tree_parts.proofs.ValueLists.{len_is}
use Rattle.reg_tree_parts.proofs.values.Values.new.Goals as goal

pub invariant_of-result : goal.invariant_of-result
invariant_of-result c = record { sorted = subst (λ es. T (is_sorted name_order es)) (sym c.new.ensures.entries) tt; fits = c.new.ensures.fits }

pub returns : goal.returns
returns c = empty_of_len _ (len_is _ (subst (λ es. T (is_sorted name_order es)) (sym c.new.ensures.entries) tt) ∙ ap length c.new.ensures.entries)
