-- A way to a key has a path of as many names.
use Rattle.std.proofs.Common.{◌≡◌, ◌<◌, inl, inr, ℕ, zero, suc, List, [], ◌∷◌, length, refl, ◌∙◌, ap, sym, subst, Ok, Some, slice_get}
use Rattle.std.specs.FinMap.{get}
use Rattle.hive_tree_model.specs.Lists.{IsIn}
use Rattle.hive_tree_model.specs.Keys.{KeyParts, KeyReader}
use Rattle.hive_tree_model.specs.Trees.{TreeOf}
use Rattle.hive_tree_model.specs.Encodings.{CellsEncodeTree}
use Rattle.hive_tree_model.specs.Chains.{WayLeadsTo, PathReachesRow}
use Rattle.hive_tree_model.specs.Faults.{HasDeeperKey}
use Rattle.hive_tree_model.proofs.Basics.{some_same, some_none}
use Rattle.hive_tree_model.proofs.ChainsAre.{chains}

listed : (xs : List ℕ) (i x : ℕ) → slice_get xs i ≡ Some x → IsIn x xs
listed [] i x e = some_none x e
listed (y ∷ ys) zero x e = inl (sym (some_same y x e))
listed (y ∷ ys) (suc i) x e = inr (listed ys i x e)

module _ {R C : Type 0} (reads : KeyReader R C) where
  path_of : (way : List ℕ) (at to : ℕ) (q : KeyParts R) → WayLeadsTo reads at way to → reads to ≡ Ok q → (path : List (List ℕ)) × (length path ≡ length way) × PathReachesRow reads at path q.row
  path_of [] at to q e r = ([], refl, (q, ap reads e ∙ r, refl))
  path_of (i ∷ way) at to q l r = step (path_of way l.1 to q l.4 r)
    where
      first : (path : List (List ℕ)) → PathReachesRow reads l.1 path q.row → (its : KeyParts R) × (reads l.1 ≡ Ok its)
      first [] s = (s.0, s.1)
      first (n ∷ path) s = (s.0, s.3)

      step : (path : List (List ℕ)) × (length path ≡ length way) × PathReachesRow reads l.1 path q.row → (path : List (List ℕ)) × (length path ≡ suc (length way)) × PathReachesRow reads at path q.row
      step found =
          let its : (its : KeyParts R) × (reads l.1 ≡ Ok its) = first found.0 found.2 in
          let subkey : KeyParts R = its.0 in
          (subkey.name ∷ found.0, ap suc found.1, (l.0, l.1, subkey, l.2, listed l.0.subkey_list i l.1 l.3, its.1, refl, found.2))

  pub deep : (root : ℕ) (tree : TreeOf R) → CellsEncodeTree reads root tree → (most : ℕ) → HasDeeperKey reads root most → (path : List (List ℕ)) × (row : R) × (get tree path ≡ Some row) × (most < length path)
  deep root tree s most d =
      let found : (path : List (List ℕ)) × (length path ≡ length d.0) × PathReachesRow reads root path d.2.row = path_of d.0 root d.1 d.2 d.3 d.4 in
      (found.0, d.2.row, (chains reads root tree s found.0 d.2.row).1 found.2, subst (λ z. most < z) (sym found.1) d.5)
