-- An image beside a tree on which operations are replayed.
use Rattle.std.specs.Prelude.{◌≡◌, ℕ, List}
use Rattle.base_block.specs.declared.block.TheConstants.{MINOR_VERSION}
use Rattle.reg_tree.specs.Maps.{TreeMap}
use Rattle.hive_records.specs.Images.{BinsEncodeTree}
use Rattle.hive_edit.specs.declared.outcome.Edit.{Edit}
use Rattle.hive_edit.specs.declared.outcome.Edit.TheVariants as edit

-- as long as all edits are done, the image encodes the tree from a root on
abbrev pub EncodesIfDone : Edit → List ℕ → ℕ → TreeMap → Type 0
EncodesIfDone how bytes root tree = how ≡ edit.Done → BinsEncodeTree bytes root MINOR_VERSION tree
