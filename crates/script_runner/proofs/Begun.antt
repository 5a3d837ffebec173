-- A script before its first line.
use Rattle.std.proofs.Common.{◌≡◌, ap}
use Rattle.std.specs.Option.{option_and_then}
use Rattle.std.specs.Ordering.{nat_cmp}
use Rattle.std.specs.Cmp.Lexicographic.{slice_cmp}
use Rattle.std.specs.BTreeMap.{is_at}
use Rattle.std.specs.Map.{lookup}
use Rattle.store_model.specs.Machine.{Machine}
use Rattle.script_runner.specs.Labels.{NamesNothing, named_by}
use Rattle.script_runner.specs.Scripts.{script_at}
use Rattle.script_runner.specs.declared.labels.Labels.{Labels}

-- no label names anything
pub begun : (machine : Machine) (labels : Labels) → NamesNothing labels → record { machine = machine; moment = 0; session = 0; labels = named_by labels } ≡ script_at machine
begun machine labels nothing = ap (λ entries. record { machine = machine; moment = 0; session = 0; labels = λ label. option_and_then (λ tx. tx) (lookup (is_at (slice_cmp nat_cmp label)) entries) }) nothing
