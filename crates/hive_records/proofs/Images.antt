-- Images: at most one tree, which is a tree.
use Rattle.std.proofs.Common.{◌≡◌, ◌⊎◌, inl, inr, ℕ, List, ◌++◌, refl, ◌∙◌, ap, sym, subst, Some, None, Option, Bool, MatchOption, false}
use Rattle.reg_names.specs.Names.{folded}
use Rattle.refusals.specs.declared.refusal.Refusal.{Refusal}
use Rattle.refusals.specs.declared.refusal.Refusal.TheVariants as refusal
use Rattle.refusals.specs.declared.refusal.Cause.TheVariants as cause
use Rattle.hive_tree_model.specs.Faults.{LendsOwnCell}
use Rattle.hive_tree_model.specs.Loads.{HasFault}
use Rattle.reg_tree_parts.specs.Rows.{Row}
use Rattle.reg_tree.specs.Maps.{TreeMap, IsTree}
use Rattle.hive_cells.specs.Tiles.{IsAllocatedCell, cell_data}
use Rattle.hive_cells.specs.Changes.{StaysAt}
use Rattle.hive_tree_model.specs.Lists.{IsIn}
use Rattle.hive_tree_model.specs.Keys.{KeyParts, Keys, all_cells}
use Rattle.hive_tree_model.specs.Encodings.{Whole, CellsEncodeTree, IsKeyTree}
use Rattle.hive_tree_model.proofs.Only.{one_tree}
use Rattle.hive_tree_model.proofs.ChainsAre.{key_tree}
use Rattle.hive_tree_model.proofs.NoFault.{not_told, not_lends}
use Rattle.hive_tree_model.proofs.Frame.{whole_still}
use Rattle.hive_cells.specs.Bins.{Cells, Shows}
use Rattle.hive_records.specs.KeyNodes.{keys_in, trail_in, lends_in}
use Rattle.hive_records.specs.Images.{splits, BinsEncodeTree, FaultFor}
use Rattle.hive_records.proofs.Keys.{keys_local, keys_trail, keys_lends, keys_named}

same_cell : (bytes : List ℕ) (at : ℕ) (o p : Option (List ℕ)) → MatchOption o (¬ IsAllocatedCell bytes at) (λ its. IsAllocatedCell bytes at × (its ≡ cell_data bytes at)) → MatchOption p (¬ IsAllocatedCell bytes at) (λ its. IsAllocatedCell bytes at × (its ≡ cell_data bytes at)) → o ≡ p
same_cell bytes at None None h g = refl
same_cell bytes at None (Some e) h g = absurd (h g.0)
same_cell bytes at (Some d) None h g = absurd (g h.0)
same_cell bytes at (Some d) (Some e) h g = ap Some (h.1 ∙ sym g.1)

pub same_cells : (bytes : List ℕ) (cells other : Cells) → Shows bytes cells → Shows bytes other → cells ≡ other
same_cells bytes cells other h g = λ i at. same_cell bytes at (cells at) (other at) (h at) (g at) i

pub one_image : (bytes : List ℕ) (root minor : ℕ) (t u : TreeMap) → BinsEncodeTree bytes root minor t → BinsEncodeTree bytes root minor u → t ≡ u
one_image bytes root minor t u a b =
    one_tree (keys_in (splits minor) b.1) root t u (subst (λ (z : Cells). CellsEncodeTree (keys_in (splits minor) z) root t) (same_cells bytes a.1 b.1 a.2 b.2) a.3) b.3

pub image_tree : (bytes : List ℕ) (root minor : ℕ) (tree : TreeMap) → BinsEncodeTree bytes root minor tree → IsTree tree
image_tree bytes root minor tree s =
    let is : IsKeyTree (λ (row : Row). folded row.name) tree = key_tree (keys_in (splits minor) s.1) (λ (row : Row). folded row.name) (keys_named (splits minor) s.1) root tree s.3 in
    record { root = is.root; parents = is.parents; named = λ path name key e. is.named path name key e }

stays_cell : (old new : List ℕ) (at : ℕ) → StaysAt old new at → (o p : Option (List ℕ)) → MatchOption o (¬ IsAllocatedCell old at) (λ its. IsAllocatedCell old at × (its ≡ cell_data old at)) → MatchOption p (¬ IsAllocatedCell new at) (λ its. IsAllocatedCell new at × (its ≡ cell_data new at)) → p ≡ o
stays_cell old new at s None None h g = refl
stays_cell old new at s None (Some e) h g = absurd (h (s.same.0 g.0))
stays_cell old new at s (Some d) None h g = absurd (g (s.same.1 h.0))
stays_cell old new at s (Some d) (Some e) h g = ap Some (g.1 ∙ s.kept h.0 ∙ sym h.1)

pub same_at : (old new : List ℕ) (before after : Cells) → Shows old before → Shows new after → (at : ℕ) → StaysAt old new at → after at ≡ before at
same_at old new before after h g at s = stays_cell old new at s (before at) (after at) (h at) (g at)

pub image_stays : (old new : List ℕ) (before after : Cells) → Shows old before → Shows new after → (split : Bool) (at : ℕ) (parts : KeyParts Row) (below : Keys Row) → Whole (keys_in split before) at parts below →
    ((cell : ℕ) → IsIn cell ((parts.own ++ parts.lent) ++ all_cells below) → StaysAt old new cell) → Whole (keys_in split after) at parts below
image_stays old new before after h g split at parts below w stay =
    whole_still (keys_in split) (keys_local split) before after at parts below w (λ cell i. same_at old new before after h g cell (stay cell i))

pub image_fault : (bytes : List ℕ) (root minor : ℕ) (tree : TreeMap) (r : Refusal) → FaultFor bytes root minor r → BinsEncodeTree bytes root minor tree → ⊥
image_fault bytes root minor tree r f s =
    let same : s.1 ≡ f.0 = same_cells bytes s.1 f.0 s.2 f.1 in
    let here : CellsEncodeTree (keys_in (splits minor) f.0) root tree = subst (λ (z : Cells). CellsEncodeTree (keys_in (splits minor) z) root tree) same s.3 in
    by here f.2
  where
    by : CellsEncodeTree (keys_in (splits minor) f.0) root tree →
        (HasFault (trail_in (splits minor) f.0) (keys_in (splits minor) f.0) (refusal.HiveDamaged 0 cause.BadName) (refusal.HiveDamaged 0 cause.Shared) (λ cell. false) root r
        ⊎ ((r ≡ refusal.HiveDamaged 0 cause.Shared) × LendsOwnCell (trail_in (splits minor) f.0) (lends_in (splits minor) f.0) (keys_in (splits minor) f.0) root)) → ⊥
    by here (inl t) = not_told (keys_in (splits minor) f.0) (trail_in (splits minor) f.0) (keys_trail (splits minor) f.0) (refusal.HiveDamaged 0 cause.BadName) (refusal.HiveDamaged 0 cause.Shared) root here.0 here.1 here.2 r t
    by here (inr t) = not_lends (keys_in (splits minor) f.0) (trail_in (splits minor) f.0) (lends_in (splits minor) f.0) (keys_trail (splits minor) f.0) (keys_lends (splits minor) f.0) root here.0 here.1 here.2 here.4 t.1
