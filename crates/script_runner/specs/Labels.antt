-- The transactions that labels name.
use Rattle.std.specs.Prelude.{◌≡◌, ℕ, List, [], Option, IsSome}
use Rattle.std.specs.Option.{option_and_then}
use Rattle.std.specs.Ordering.{nat_cmp}
use Rattle.std.specs.Cmp.Lexicographic.{slice_cmp}
use Rattle.std.specs.BTreeMap.{BTreeMap, get}
use Rattle.store_model.specs.declared.handle.Tx.{Tx}
use Rattle.script_runner.specs.declared.labels.Labels.{Labels}

-- what a map of labels has at one
abbrev pub label_entry : BTreeMap (List ℕ) (Option Tx) → List ℕ → Option (Option Tx)
label_entry named label = get (slice_cmp nat_cmp) named label

-- the transaction that a label names: one that has room may name none
abbrev pub named_by : Labels → List ℕ → Option Tx
named_by labels label = option_and_then (λ tx. tx) (label_entry labels.named label)

-- there is room for a label
abbrev pub HasRoom : Labels → List ℕ → Type 0
HasRoom labels label = IsSome (label_entry labels.named label)

-- there is no label
abbrev pub NamesNothing : Labels → Type 0
NamesNothing labels = labels.named.entries ≡ []
