-- Going round all hives for one that has something to flush.
use Rattle.std.proofs.Common.{◌≡◌, inl, inr, ℕ, ◌<◌, ◌≤◌, ◌∙◌, List, Option, Some, None, length, map, sym, arith}
use Rattle.std.specs.Prelude.{IfNone}
use Rattle.std.proofs.lemmas.Bool.{cases_lt}
use Rattle.std.proofs.lemmas.List.{length-map}
use Rattle.reg_tree.specs.declared.element.Element.{Element}
use Rattle.store_model.specs.Machine.{Machine}
use Rattle.engine_invariant.specs.Idle.{HiveIsFlushed}
use Rattle.engine_invariant.specs.States.{HiveView}
use Rattle.engine.specs.Work.{AreFlushed, IsNextAround}

-- a list's rows are as many as what is seen of each
pub as_many : {A B : Type 0} (f : A → B) (rows : List A) (count number : ℕ) → count ≡ number → length rows ≡ number → count ≡ length (map f rows)
as_many f rows count number is are = is ∙ sym are ∙ sym (length-map rows f)

module _ (m : Machine) (base : ℕ) (opened : List Element) (hives : List HiveView) (after next count : ℕ) (many : count ≡ length hives) where
  -- none after it, and none up to it
  pub none_around : AreFlushed m base opened hives next count → AreFlushed m base opened hives 0 next → AreFlushed m base opened hives 0 (length hives)
  none_around rest first i low high = elim (cases_lt i next) [
    | inl less ↦ first i low less
    | inr over ↦ rest i over (omega (arith, many, high))
  ]

  module _ (behind : (j : ℕ) → j < count → after < j → next ≤ j) (before : (j : ℕ) → j < next → j ≤ after) (from : (j : ℕ) → j < count → next ≤ j → after < j) where
    -- one after it
    pub found_behind : (i : ℕ) → (next ≤ i) × (i < count) × (HiveIsFlushed m base opened hives i → ⊥) × AreFlushed m base opened hives next i → IsNextAround m base opened hives after i
    found_behind i (low, high, works, flushed) = record {
      there = omega (arith, many, high);
      works = works;
      first = λ j lt comes. elim (comes) [
        | inl both ↦ flushed j (behind j (omega (arith, many, lt)) both.0) both.1
        | inr around ↦ let over = from i high low in absurd (omega (arith, over, around.0))
      ];
    }

    -- one up to it, if there is none after it
    pub found_around : next ≤ count → AreFlushed m base opened hives next count → (i : ℕ) → (i < next) × (HiveIsFlushed m base opened hives i → ⊥) × AreFlushed m base opened hives 0 i → IsNextAround m base opened hives after i
    found_around within rest i (low, works, flushed) = record {
      there = omega (arith, many, low, within);
      works = works;
      first = λ j lt comes. elim (comes) [
        | inl both ↦ let under = before i low in absurd (omega (arith, under, both.0, both.1))
        | inr around ↦ elim (around.1) [
          | inl over ↦ rest j (behind j (omega (arith, many, lt)) over) (omega (arith, many, lt))
          | inr less ↦ flushed j (omega (arith)) less
        ]
      ];
    }

-- what follows from a clause if there is nothing
pub none_then : {A P Q : Type 0} (r : Option A) → IfNone r P → (P → Q) → IfNone r Q
none_then None p f = f p
none_then (Some a) p f = tt
