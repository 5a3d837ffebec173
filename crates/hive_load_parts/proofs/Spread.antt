-- Flags that are set one after another.
use Rattle.std.proofs.Common.{◌≡◌, ◌⊎◌, ◌+◌, inl, inr, ℕ, List, Bool, true, sym, subst, arith}
use Rattle.hive_cells.specs.Tiles.{IsAllocatedCell}
use Rattle.hive_load_parts.specs.CellReads.{marks_of, set_flags, Spreads}

pub spreads_none : (bytes : List ℕ) (seen : List Bool) → Spreads bytes seen seen
spreads_none bytes seen = record { more = omega arith; cells = λ at h. inl h }

pub spreads_on : {bytes : List ℕ} {old mid new : List Bool} → Spreads bytes old mid → Spreads bytes mid new → Spreads bytes old new
spreads_on h g = record {
  more = let a = h.more in let b = g.more in omega (arith, a, b);
  cells = λ at m. elim (g.cells at m) [ inl k ↦ h.cells at k | inr i ↦ inr i ];
}

-- one that is set
pub spreads_one : (bytes : List ℕ) (seen new : List Bool) (at : ℕ) → IsAllocatedCell bytes at → ((cell : ℕ) → marks_of new cell ≡ true → (marks_of seen cell ≡ true) ⊎ (cell ≡ at)) → set_flags new ≡ set_flags seen + 1 → Spreads bytes seen new
spreads_one bytes seen new at here only one = record {
  more = omega (arith, one);
  cells = λ cell h. elim (only cell h) [ inl k ↦ inl k | inr e ↦ inr (subst (λ z. IsAllocatedCell bytes z) (sym e) here) ];
}
