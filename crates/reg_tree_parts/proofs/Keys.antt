-- The orders of names and of paths are total, and only equal keys tie.
use Rattle.std.specs.Cmp.{IsTotalOrder}
use Rattle.std.specs.FinMap.{IsAntisymmetric, nat_cmp-IsAntisymmetric, slice_cmp-IsAntisymmetric}
use Rattle.std.proofs.lemmas.Cmp.{nat_list_cmp_total, lists_total}
use Rattle.reg_tree_parts.specs.Orders.{name_order, path_order}

pub names_total : IsTotalOrder name_order
names_total = nat_list_cmp_total

pub paths_total : IsTotalOrder path_order
paths_total = lists_total nat_list_cmp_total

pub names_apart : IsAntisymmetric name_order
names_apart = slice_cmp-IsAntisymmetric nat_cmp-IsAntisymmetric

pub paths_apart : IsAntisymmetric path_order
paths_apart = slice_cmp-IsAntisymmetric names_apart
