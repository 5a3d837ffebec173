use Rattle.std.proofs.Common.{◌≡◌, ◌++◌, take}
use Rattle.std.specs.List.{flat_map, AllByRecursion}
use Rattle.change_codec.specs.Encoding.{element_bytes}
use Rattle.commit_journal.specs.Handed.{FitsIfThere}
use Rattle.commit_journal.proofs.body.write_all.Given as goal

abbrev pub invariant-loop-element : goal.invariant-loop-element
invariant-loop-element l = record {
  encoding : l.bytes.items ≡ l.fn.bytes.items ++ flat_map element_bytes (take l.element-index l.elements);
  fit : AllByRecursion FitsIfThere (take l.element-index l.elements);
}
