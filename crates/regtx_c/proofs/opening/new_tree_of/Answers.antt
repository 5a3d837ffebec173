-- A root without subkeys makes the tree of a new hive, which a hive file can encode.
use Rattle.std.proofs.Common.{Some, ap, ◌∙◌}
use Rattle.std.proofs.lemmas.Result.{IfOk-weaker}
use Rattle.regtx_c.proofs.NewHives.{new_encodable, new_is}
use Rattle.regtx_c.proofs.opening.new_tree_of.Goals as goal

pub from_root-requires : goal.from_root-requires
from_root-requires c = new_encodable c.leaf-leaf.result c.leaf-leaf.ensures.node (c.leaf-leaf.ensures.here ∙ ap Some c.in_ok-root_key.ensures) c.leaf-leaf.ensures.alone

pub returns : goal.returns
returns c =
    let is = new_is c.leaf-leaf.result c.leaf-leaf.ensures.node (c.leaf-leaf.ensures.here ∙ ap Some c.in_ok-root_key.ensures) c.leaf-leaf.ensures.alone in
    IfOk-weaker c.from_root.result _ _ (λ tree same. same ∙ is) c.from_root.ensures
