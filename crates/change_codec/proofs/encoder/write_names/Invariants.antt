use Rattle.std.proofs.Common.{◌≡◌, ◌++◌, take}
use Rattle.std.specs.List.{flat_map}
use Rattle.change_codec.specs.Encoding.{string}
use Rattle.change_codec.proofs.encoder.write_names.Given as goal

abbrev pub invariant-loop-name : goal.invariant-loop-name
invariant-loop-name l = l.bytes.items ≡ l.fn.bytes.items ++ flat_map (string 1) (take l.name-index l.names)
