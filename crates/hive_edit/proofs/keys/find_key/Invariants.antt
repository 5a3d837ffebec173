use Rattle.std.proofs.Common.{ℕ, take}
use Rattle.reg_names.specs.Names.{folded_path}
use Rattle.reg_tree.specs.Maps.{TreeMap}
use Rattle.hive_records.specs.Images.{BinsEncodeTree}
use Rattle.hive_edit_laws.specs.Found.{KeyFound}
use Rattle.hive_edit.proofs.keys.find_key.Given as goal

abbrev pub invariant-loop-name : goal.invariant-loop-name
invariant-loop-name l = (minor : ℕ) (tree : TreeMap) → BinsEncodeTree l.image.bytes l.root minor tree → KeyFound l.image.bytes l.root minor tree (folded_path (take l.name-index l.names)) l.at
