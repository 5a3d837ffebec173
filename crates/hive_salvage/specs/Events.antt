-- What a salvage tells: keys that are read, and losses.
use Rattle.std.specs.Prelude.{◌≡◌, ℕ, zero, suc, List, [], ◌++◌}
use Rattle.refusals.specs.declared.refusal.Refusal.{Refusal}
use Rattle.key_walk.specs.KeyRows.{NamedRow}
use Rattle.hive_cells.specs.Bins.{Cells, Shows}
use Rattle.hive_salvage.specs.declared.loss.Part.{Part}
use Rattle.hive_salvage.specs.declared.loss.Loss.{Loss}

-- a key that is read, under the names that lead to it, or a loss of the key to which names lead
pub data Event : Type 0 where
  found : NamedRow → Event
  lost : List (List ℕ) → Loss → Event

-- the loss of a part to which an offset leads
abbrev pub loss_of : Part → ℕ → Refusal → Loss
loss_of part at why = record { part = part; at = at; why = why }

-- a sink took something, and of the cells of the data it is what is said
pub record Tells {S : Type 0} (Took : S → S → List Event → Type 0) (old new : S) (bytes : List ℕ) (said : Cells → List Event → Type 0) : Type 0 where
  pub events : List Event
  pub took : Took old new events
  pub so : (cells : Cells) → Shows bytes cells → said cells events

-- the first n of some steps, one after another: each leads from one state to the next, and tells something
abbrev pub Steps : {S : Type 0} → (ℕ → S → S → List Event → Type 0) → ℕ → S → S → List Event → Type 0
Steps step zero old new told = (new ≡ old) × (told ≡ [])
Steps {S} step (suc n) old new told = (mid : S) × (first : List Event) × (last : List Event) × Steps step n old mid first × step n mid new last × (told ≡ first ++ last)
