-- A cell that is looked at.
use Rattle.std.proofs.Common.{◌≡◌, ◌⊎◌, ◌↔◌, ◌<◌, ◌≤◌, ◌*◌, ◌/◌, ◌%◌, inl, inr, ℕ, List, [], ◌∷◌, refl, ◌∙◌, ap, sym, subst, Bool, true, false, Some, None, Option, MatchOption, Ok, Err, slice_index_or, slice_set, length, arith, eqb, rules}
use Rattle.std.specs.Prelude.{◌==◌}
use Rattle.std.proofs.lemmas.Bool.{eqb-true, eq-eqb}
use Rattle.refusals.specs.declared.refusal.Refusal.{Refusal}
use Rattle.refusals.specs.declared.refusal.Refusal.TheVariants as refusal
use Rattle.refusals.specs.declared.refusal.Cause.TheVariants as cause
use Rattle.hive_cells.specs.Tiles.{IsAllocatedCell, cell_data}
use Rattle.hive_tree_model.specs.Lists.{IsIn}
use Rattle.hive_tree_model.specs.Loads.{CellMarks, Marked}
use Rattle.hive_tree_model.proofs.Basics.{decided, clash, yes_if, no_if}
use Rattle.hive_records.specs.Readers.{Read, own_if, look}
use Rattle.hive_cells.specs.Bins.{Cells, Shows}
use Rattle.hive_records.specs.Follows.{Meets, Follows}
use Rattle.hive_load_parts.specs.CellReads.{marks_of}

pub found_if : (bytes : List ℕ) (at : ℕ) (o : Option (List ℕ)) → MatchOption o (¬ IsAllocatedCell bytes at) (λ its. IsAllocatedCell bytes at × (its ≡ cell_data bytes at)) → IsAllocatedCell bytes at → (d : List ℕ) → d ≡ cell_data bytes at → o ≡ Some d
found_if bytes at None h a d e = absurd (h a)
found_if bytes at (Some x) h a d e = ap Some (h.1 ∙ sym e)

pub missed_if : (bytes : List ℕ) (at : ℕ) (o : Option (List ℕ)) → MatchOption o (¬ IsAllocatedCell bytes at) (λ its. IsAllocatedCell bytes at × (its ≡ cell_data bytes at)) → (¬ IsAllocatedCell bytes at) → o ≡ None
missed_if bytes at None h n = refl
missed_if bytes at (Some x) h n = absurd (n h.0)

looked : (bytes : List ℕ) (cells : Cells) → Shows bytes cells → (at : ℕ) → IsAllocatedCell bytes at → (d : List ℕ) → d ≡ cell_data bytes at → look at cells ≡ record { own = at ∷ []; lent = []; says = Ok d }
unfolding look
looked bytes cells shows at a d e = ap (own_if at) (found_if bytes at (cells at) (shows at) a d e)

missed : (bytes : List ℕ) (cells : Cells) → Shows bytes cells → (at : ℕ) → (¬ IsAllocatedCell bytes at) → look at cells ≡ record { own = []; lent = []; says = Err (refusal.HiveDamaged 0 cause.BadOffset) }
unfolding look
missed bytes cells shows at n = ap (own_if at) (missed_if bytes at (cells at) (shows at) n)

pub no_cell : (bytes : List ℕ) (cells : Cells) → Shows bytes cells → (at : ℕ) (r : Refusal) → r ≡ refusal.HiveDamaged 0 cause.BadOffset → (¬ IsAllocatedCell bytes at) → (old new : CellMarks) → Follows (look at) cells old new (Err r)
no_cell bytes cells shows at r e n old new = inr (inl (ap (λ (z : Read (List ℕ)). z.says) (missed bytes cells shows at n) ∙ ap Err (sym e)))

marked_slot : (seen : List Bool) (at : ℕ) → at % 8 ≡ 0 → marks_of seen at ≡ slice_index_or seen (at / 8) false
marked_slot seen at e = yes_if (at % 8 == 0) (slice_index_or seen (at / 8) false) false (eq-eqb (at % 8) 0 e)

pub met_again : (bytes : List ℕ) (cells : Cells) → Shows bytes cells → (at : ℕ) → IsAllocatedCell bytes at → (d : List ℕ) → d ≡ cell_data bytes at → (seen : List Bool) → at % 8 ≡ 0 → slice_index_or seen (at / 8) false ≡ true → (new : CellMarks) →
    Follows (look at) cells (marks_of seen) new (Err (refusal.HiveDamaged 0 cause.Shared))
met_again bytes cells shows at a d e seen eights is new = inr (inr (refl, subst (λ (z : Read (List ℕ)). Meets (marks_of seen) z.own) (sym (looked bytes cells shows at a d e)) (inl (at, inl refl, marked_slot seen at eights ∙ is))))

same_slot : (at cell : ℕ) → at % 8 ≡ 0 → cell % 8 ≡ 0 → at / 8 ≡ cell / 8 → cell ≡ at
same_slot at cell e f g = omega (arith, e, f, g)

set_here : (seen : List Bool) (i : ℕ) → i < length seen → slice_index_or (slice_set seen i true) i false ≡ true
set_here seen i h = search (rules, h)

set_other : (seen : List Bool) (i j : ℕ) → (i ≡ j → ⊥) → slice_index_or (slice_set seen i true) j false ≡ slice_index_or seen j false
set_other seen i j h = search (rules, h)

pub marked_now : (bytes : List ℕ) (cells : Cells) → Shows bytes cells → (at : ℕ) → IsAllocatedCell bytes at → (d : List ℕ) → d ≡ cell_data bytes at → (seen : List Bool) → at % 8 ≡ 0 → at / 8 < length seen → slice_index_or seen (at / 8) false ≡ false →
    Follows (look at) cells (marks_of seen) (marks_of (slice_set seen (at / 8) true)) (Ok d)
marked_now bytes cells shows at a d e seen eights within is =
    (ap (λ (z : Read (List ℕ)). z.says) (looked bytes cells shows at a d e), subst (λ (z : Read (List ℕ)). Marked (marks_of seen) (marks_of (slice_set seen (at / 8) true)) z.own) (sym (looked bytes cells shows at a d e)) marked)
  where
    here : marks_of (slice_set seen (at / 8) true) at ≡ true
    here = marked_slot (slice_set seen (at / 8) true) at eights ∙ set_here seen (at / 8) within

    other : (cell : ℕ) → (cell ≡ at → ⊥) → marks_of (slice_set seen (at / 8) true) cell ≡ marks_of seen cell
    other cell apart = elim (decided (cell % 8 == 0)) [
      | inr f ↦ no_if (cell % 8 == 0) (slice_index_or (slice_set seen (at / 8) true) (cell / 8) false) false f ∙ sym (no_if (cell % 8 == 0) (slice_index_or seen (cell / 8) false) false f)
      | inl t ↦ marked_slot (slice_set seen (at / 8) true) cell (eqb-true (cell % 8) 0 t) ∙ set_other seen (at / 8) (cell / 8) (λ g. apart (same_slot at cell eights (eqb-true (cell % 8) 0 t) g)) ∙ sym (marked_slot seen cell (eqb-true (cell % 8) 0 t))
    ]

    either : (cell : ℕ) → (cell ≡ at) ⊎ (cell ≡ at → ⊥) → (marks_of (slice_set seen (at / 8) true) cell ≡ true) ↔ ((marks_of seen cell ≡ true) ⊎ IsIn cell (at ∷ []))
    either cell (inl g) = (λ h. inr (inl g), λ h. ap (marks_of (slice_set seen (at / 8) true)) g ∙ here)
    either cell (inr apart) = (λ h. inl (sym (other cell apart) ∙ h), λ h. elim h [ inl k ↦ other cell apart ∙ k | inr k ↦ absurd (elim k [ inl g ↦ apart g | inr z ↦ z ]) ])

    by_test : (cell : ℕ) → (cell ≡ at) ⊎ (cell ≡ at → ⊥)
    by_test cell = elim (decided (eqb cell at)) [ inl t ↦ inl (eqb-true cell at t) | inr f ↦ inr (λ g. clash (eqb cell at) (eq-eqb cell at g) f) ]

    marked : Marked (marks_of seen) (marks_of (slice_set seen (at / 8) true)) (at ∷ [])
    marked = record {
      fresh = λ cell h. elim h [ inl g ↦ ap (marks_of seen) g ∙ marked_slot seen at eights ∙ is | inr z ↦ absurd z ];
      once = (λ h. h, tt);
      now = λ cell. either cell (by_test cell);
    }

pub slot_within : (at bytes seen : ℕ) → at < bytes → bytes ≤ 8 * seen → at / 8 < seen
slot_within at bytes seen h g = omega (arith, h, g)

-- no other cell is marked
pub marked_only : (seen : List Bool) (at cell : ℕ) → at % 8 ≡ 0 → marks_of (slice_set seen (at / 8) true) cell ≡ true → (marks_of seen cell ≡ true) ⊎ (cell ≡ at)
marked_only seen at cell eights h = elim (decided (cell % 8 == 0)) [
  | inr f ↦ inl (clash false (sym (no_if (cell % 8 == 0) (slice_index_or (slice_set seen (at / 8) true) (cell / 8) false) false f) ∙ h) refl)
  | inl t ↦ elim (decided (eqb (at / 8) (cell / 8))) [
    | inl e ↦ inr (same_slot at cell eights (eqb-true (cell % 8) 0 t) (eqb-true (at / 8) (cell / 8) e))
    | inr n ↦ inl (marked_slot seen cell (eqb-true (cell % 8) 0 t) ∙ sym (set_other seen (at / 8) (cell / 8) (λ g. clash (eqb (at / 8) (cell / 8)) (eq-eqb (at / 8) (cell / 8) g) n)) ∙ sym (marked_slot (slice_set seen (at / 8) true) cell (eqb-true (cell % 8) 0 t)) ∙ h)
  ]
]
