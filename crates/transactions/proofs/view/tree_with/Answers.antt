use Rattle.std.proofs.Common.{◌≡◌, Some, sym, ◌∙◌, ap, subst, arith}
use Rattle.std.specs.Prelude.{slice_get, slice_set, IfOk}
use Rattle.transactions.proofs.OtherTrees.{get_same, get_other}
use Rattle.transactions.proofs.view.tree_with.Goals as goal
