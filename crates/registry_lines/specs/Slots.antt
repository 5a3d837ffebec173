-- Things by the numbers that a script gave them.
use Rattle.std.specs.Prelude.{◌≡◌, ◌≢◌, ℕ, Option, Some, None, IsSome}
use Rattle.std.specs.Option.{option_and_then}
use Rattle.std.specs.Ordering.{nat_cmp}
use Rattle.std.specs.BTreeMap.{get}
use Rattle.registry_lines.specs.declared.slots.Slots.{Slots}

module _ {T : Type 0} where
  -- the thing of a number: one that has room may have none
  abbrev pub item_at : Slots T → ℕ → Option T
  item_at slots number = option_and_then (λ item. item) (get nat_cmp slots.items number)

  -- there is room for a thing of this number
  abbrev pub HasSlot : Slots T → ℕ → Type 0
  HasSlot slots number = IsSome (get nat_cmp slots.items number)

  -- a number has what it had
  abbrev pub SameItems : (ℕ → Option T) → (ℕ → Option T) → Type 0
  SameItems old new = (number : ℕ) → new number ≡ old number

  -- the number has this thing from now on, and each other one what it had
  pub record PutsItem (old new : ℕ → Option T) (number : ℕ) (item : T) : Type 0 where
    pub here : new number ≡ Some item
    pub others : (other : ℕ) → other ≢ number → new other ≡ old other

  -- the number has nothing from now on, and each other one what it had
  pub record TakesItem (old new : ℕ → Option T) (number : ℕ) : Type 0 where
    pub here : new number ≡ None
    pub others : (other : ℕ) → other ≢ number → new other ≡ old other
