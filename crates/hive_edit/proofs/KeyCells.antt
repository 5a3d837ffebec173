-- The cells of a subkey are none of its parent's, and it is a key by itself.
use Rattle.std.proofs.Common.{◌≡◌, inl, inr, ℕ, true, List, [], ◌++◌, Ok, refl, sym, ap, subst, ◌∙◌, append-nil}
use Rattle.reg_tree_parts.specs.Rows.{Row}
use Rattle.reg_tree.specs.Maps.{TreeMap}
use Rattle.hive_tree_model.specs.Lists.{IsIn, Once}
use Rattle.hive_tree_model.specs.Keys.{KeyParts, Keys, none, key, offsets, own_cells, lent_cells}
use Rattle.hive_tree_model.specs.Trees.{tree_of}
use Rattle.hive_tree_model.specs.Encodings.{CellsMatchKeys, LentApart}
use Rattle.hive_tree_model.proofs.Basics.{in_front, in_back, in_either, once_front, once_back, once_apart}
use Rattle.hive_cells.specs.Tiles.{u32_at, cell_data}
use Rattle.hive_cells.specs.Bins.{Cells, Shows}
use Rattle.hive_records.specs.KeyNodes.{keys_in, trail_in}
use Rattle.hive_records.proofs.Keys.{keys_local, keys_trail}
use Rattle.hive_edit_laws.specs.Found.{KeyFound}
use Rattle.hive_edit_laws.specs.SubkeyLists.{subkey_cells}
use Rattle.hive_edit_laws.proofs.CellsShown.{shown_some}
use Rattle.hive_edit_laws.proofs.KeyChains.{last_whole}
use Rattle.hive_edit_laws.proofs.KeySteps.{Steps, steps_of}
use Rattle.hive_edit_laws.proofs.LeafBytes.{list_cells_none}
use Rattle.hive_edit_laws.proofs.Rows.{lent_from, own_from}
use Rattle.hive_edit_laws.proofs.RowRevisions.{whole_found}
use Rattle.hive_edit.specs.DataPlaces.{FreesCells}
use Rattle.hive_edit.specs.OwnCells.{FreesKey}
use Rattle.hive_edit.proofs.KeyCreations.{home_own, lists_own}

-- a listed key is read, and its cells are among those below
record Below (cells : Cells) (at : ℕ) (keys : Keys Row) : Type 0 where
  pub its : KeyParts Row
  pub read : keys_in true cells at ≡ Ok its
  pub within : (cell : ℕ) → IsIn cell its.own → IsIn cell (own_cells keys)
  pub lends : (cell : ℕ) → IsIn cell its.lent → IsIn cell (lent_cells keys)
  pub once : Once (own_cells keys) → Once its.own

below : (cells : Cells) (keys : Keys Row) → CellsMatchKeys (keys_in true cells) keys → (at : ℕ) → IsIn at (offsets keys) → Below cells at keys
below cells none fits at i = absurd i
below cells (key to q sub after) fits at (inl e) = record {
  its = q;
  read = ap (keys_in true cells) e ∙ fits.0;
  within = λ cell j. in_front cell (q.own ++ own_cells sub) (own_cells after) (in_front cell q.own (own_cells sub) j);
  lends = λ cell j. in_front cell (q.lent ++ lent_cells sub) (lent_cells after) (in_front cell q.lent (lent_cells sub) j);
  once = λ o. once_front q.own (own_cells sub) (once_front (q.own ++ own_cells sub) (own_cells after) o);
}
below cells (key to q sub after) fits at (inr i) = let r = below cells after fits.3 at i in record {
  its = r.its;
  read = r.read;
  within = λ cell j. in_back cell (q.own ++ own_cells sub) (own_cells after) (r.within cell j);
  lends = λ cell j. in_back cell (q.lent ++ lent_cells sub) (lent_cells after) (r.lends cell j);
  once = λ o. r.once (once_back (q.own ++ own_cells sub) (own_cells after) o);
}

module _ (bytes : List ℕ) (root : ℕ) (tree : TreeMap) (path : List (List ℕ)) (home : ℕ) (f : KeyFound bytes root 5 tree path home) (at : ℕ) (listed : IsIn at (offsets f.place.below)) where
  b : Below f.cells at f.place.below
  b = below f.cells f.place.below (whole_found bytes root 5 tree path home f).fits at listed

  once_below : Once (f.place.parts.own ++ own_cells f.place.below)
  once_below = (whole_found bytes root 5 tree path home f).once

  trail_is : trail_in true f.cells at ≡ b.its.own
  trail_is = keys_trail true f.cells at b.its b.read

  not_above : (cell : ℕ) → IsIn cell f.place.parts.own → IsIn cell b.its.own → ⊥
  not_above cell i j = once_apart cell f.place.parts.own (own_cells f.place.below) once_below i (b.within cell j)

  -- what is given up is none of the parent's cells
  pub home_kept : IsIn home (trail_in true f.cells at) → ⊥
  home_kept i = not_above home (home_own bytes root tree path home f) (subst (λ (z : List ℕ). IsIn home z) trail_is i)

  pub lists_kept : (cell : ℕ) → IsIn cell (subkey_cells f.cells (cell_data bytes home)) → IsIn cell (trail_in true f.cells at) → ⊥
  lists_kept cell i j = not_above cell (lists_own bytes root tree path home f cell i) (subst (λ (z : List ℕ). IsIn cell z) trail_is j)

  -- as long as only the parent's cells change, the subkey is found as the root of its own tree
  module _ (lonely : u32_at (cell_data bytes at) 20 ≡ 0) (now_bytes : List ℕ) (now : Cells) (shown : Shows now_bytes now) (stays : (cell : ℕ) → (IsIn cell f.place.parts.own → ⊥) → now cell ≡ f.cells cell) where
    lent_apart : (cell : ℕ) → IsIn cell b.its.lent → IsIn cell (f.place.parts.own ++ own_cells f.place.below) → ⊥
    lent_apart cell i j = f.apart cell (lent_from root f.above f.subkey_list path f.place f.there cell (in_back cell f.place.parts.lent (lent_cells f.place.below) (b.lends cell i)))
        (own_from root f.above f.subkey_list path f.place f.there cell j)

    read_now : keys_in true now at ≡ Ok b.its
    read_now = keys_local true f.cells now at b.its b.read (λ cell i. stays cell (λ j. elim (in_either cell b.its.own b.its.lent i) [
      | inl k ↦ not_above cell j k
      | inr k ↦ lent_apart cell k (in_front cell f.place.parts.own (own_cells f.place.below) j)
    ]))

    no_subkeys : b.its.subkey_list ≡ []
    no_subkeys = by (steps_of true at f.cells b.its b.read)
      where
        by : Steps true at f.cells b.its → b.its.subkey_list ≡ []
        by s = (list_cells_none f.cells (u32_at s.node 20) (u32_at s.node 28) s.ko s.kl b.its.subkey_list s.listed
            (ap (λ (z : List ℕ). u32_at z 20) (shown_some bytes f.cells f.shows at s.node s.here).1 ∙ lonely)).1

    alone_apart : LentApart b.its none
    alone_apart cell i j = lent_apart cell (subst (λ (z : List ℕ). IsIn cell z) (append-nil b.its.lent) i)
        (in_back cell f.place.parts.own (own_cells f.place.below) (b.within cell (subst (λ (z : List ℕ). IsIn cell z) (append-nil b.its.own) j)))

    abbrev alone : KeyFound now_bytes at 5 (tree_of b.its none) [] at
    alone = record {
      cells = now;
      shows = shown;
      above = b.its;
      subkey_list = none;
      whole = last_whole true now at b.its read_now no_subkeys (b.once (once_back f.place.parts.own (own_cells f.place.below) once_below));
      apart = alone_apart;
      is = refl;
      place = record { at = at; parts = b.its; below = none };
      there = refl;
      at_is = refl;
    }

    pub given_freed : (new_bytes : List ℕ) → FreesKey now_bytes new_bytes at → FreesCells now_bytes new_bytes (trail_in true f.cells at)
    given_freed new_bytes freed = subst (λ (z : List ℕ). FreesCells now_bytes new_bytes z) (keys_trail true now at b.its read_now ∙ sym trail_is) (freed at (tree_of b.its none) [] alone)
