-- Cells freed one after another.
use Rattle.std.proofs.Common.{inl, inr, ℕ, zero, suc, ◌<◌, List, [], ◌∷◌, length, slice_index, refl, sym, subst, ◌∙◌, arith}
use Rattle.hive_tree_model.specs.Lists.{IsIn}
use Rattle.hive_savepoint.specs.Puts.{DropsCell}
use Rattle.hive_edit.specs.DataPlaces.{FreesCells}

pub is_at : (xs : List ℕ) (i : ℕ) → i < length xs → IsIn (slice_index xs i) xs
is_at [] i h = absurd (omega (arith, h))
is_at (x ∷ xs) zero h = inl refl
is_at (x ∷ xs) (suc i) h = inr (is_at xs i (omega (arith, h)))

pub none_freed : (bytes cells : List ℕ) → FreesCells bytes bytes cells
none_freed bytes cells before shows = (before, shows, λ cell apart. refl)

pub one_freed : (old mid new cells : List ℕ) (at : ℕ) → FreesCells old mid cells → DropsCell mid new at → IsIn at cells → FreesCells old new cells
one_freed old mid new cells at f d is before shows =
    let s = f before shows in
    let t = d.cells s.0 s.1 in (t.0, t.1, λ cell apart. t.2 cell (λ e. apart (subst (λ z. IsIn z cells) (sym e) is)) ∙ s.2 cell apart)
