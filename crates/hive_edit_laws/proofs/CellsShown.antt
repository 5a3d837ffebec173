-- The cells that data show.
use Rattle.std.proofs.Common.{◌≡◌, ℕ, List, refl, ◌∙◌, ap, sym, Option, Some, None, MatchOption}
use Rattle.hive_tree_model.proofs.Basics.{some_same, some_none}
use Rattle.hive_cells.specs.Tiles.{IsAllocatedCell, cell_data}
use Rattle.hive_cells.specs.Bins.{Cells, Shows}

module _ (bytes : List ℕ) (cells : Cells) (shows : Shows bytes cells) (at : ℕ) where
  abbrev ShowsAt : Option (List ℕ) → Type 0
  ShowsAt o = MatchOption o (¬ IsAllocatedCell bytes at) (λ its. IsAllocatedCell bytes at × (its ≡ cell_data bytes at))

  pub shown_some : (its : List ℕ) → cells at ≡ Some its → IsAllocatedCell bytes at × (its ≡ cell_data bytes at)
  shown_some its e = go (cells at) (shows at) e
    where
      go : (o : Option (List ℕ)) → ShowsAt o → o ≡ Some its → IsAllocatedCell bytes at × (its ≡ cell_data bytes at)
      go None h e = some_none its e
      go (Some d) h e = (h.0, sym (some_same d its e) ∙ h.1)

  pub shown_here : IsAllocatedCell bytes at → cells at ≡ Some (cell_data bytes at)
  shown_here is = go (cells at) (shows at)
    where
      go : (o : Option (List ℕ)) → ShowsAt o → o ≡ Some (cell_data bytes at)
      go None h = absurd (h is)
      go (Some d) h = ap Some h.1

  pub shown_none : ¬ IsAllocatedCell bytes at → cells at ≡ None
  shown_none not = go (cells at) (shows at)
    where
      go : (o : Option (List ℕ)) → ShowsAt o → o ≡ None
      go None h = refl
      go (Some d) h = absurd (not h.0)
