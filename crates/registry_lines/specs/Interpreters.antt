-- What a script shows.
use Rattle.std.specs.Prelude.{ℕ, List, Option, Some, None}
use Rattle.store_model.specs.declared.handle.Tx.{Tx}
use Rattle.script_runner.specs.Labels.{HasRoom, named_by}
use Rattle.script_runner.specs.declared.labels.Labels.{Labels}
use Rattle.registry_lines.specs.Scripts.{Script}
use Rattle.registry_lines.specs.Slots.{item_at}
use Rattle.registry_lines.specs.declared.script.Script.{Script as Shown}

-- the transaction that a label names; before the first label there are none
abbrev pub named_in : Option Labels → List ℕ → Option Tx
named_in None label = None
named_in (Some labels) label = named_by labels label

-- there is room for a label
abbrev pub HasRoomFor : Option Labels → List ℕ → Type 0
HasRoomFor None label = ⊥
HasRoomFor (Some labels) label = HasRoom labels label

abbrev pub script_of : {O : Type 0} → Shown O → Script
script_of shown = record { moment = shown.moment; current = shown.number; is_open = shown.is_open; session = shown.session; others = item_at shown.others; labels = named_in shown.labels }
