-- Keys that read as before.
use Rattle.std.proofs.Common.{◌≡◌, ℕ, ◌++◌, List, Ok}
use Rattle.hive_tree_model.specs.Lists.{IsIn}
use Rattle.hive_tree_model.specs.Keys.{KeyParts, KeyReader, Keys, none, key, own_cells, lent_cells}
use Rattle.hive_tree_model.specs.Encodings.{CellsMatchKeys, Whole}
use Rattle.hive_tree_model.proofs.Basics.{in_front, in_back}

module _ {R C : Type 0} (old new : KeyReader R C) (own lent : List ℕ) (same : (at : ℕ) (parts : KeyParts R) → old at ≡ Ok parts → ((cell : ℕ) → IsIn cell parts.own → IsIn cell own) → ((cell : ℕ) → IsIn cell parts.lent → IsIn cell lent) → new at ≡ Ok parts) where
  fits_again : (f : Keys R) → CellsMatchKeys old f → ((cell : ℕ) → IsIn cell (own_cells f) → IsIn cell own) → ((cell : ℕ) → IsIn cell (lent_cells f) → IsIn cell lent) → CellsMatchKeys new f
  fits_again none fits o l = tt
  fits_again (key at p below after) fits o l = (
    same at p fits.0 (λ cell i. o cell (in_front cell (p.own ++ own_cells below) (own_cells after) (in_front cell p.own (own_cells below) i))) (λ cell i. l cell (in_front cell (p.lent ++ lent_cells below) (lent_cells after) (in_front cell p.lent (lent_cells below) i))),
    fits.1,
    fits_again below fits.2 (λ cell i. o cell (in_front cell (p.own ++ own_cells below) (own_cells after) (in_back cell p.own (own_cells below) i))) (λ cell i. l cell (in_front cell (p.lent ++ lent_cells below) (lent_cells after) (in_back cell p.lent (lent_cells below) i))),
    fits_again after fits.3 (λ cell i. o cell (in_back cell (p.own ++ own_cells below) (own_cells after) i)) (λ cell i. l cell (in_back cell (p.lent ++ lent_cells below) (lent_cells after) i)),
  )

pub whole_again : {R C : Type 0} (old new : KeyReader R C) (root : ℕ) (above : KeyParts R) (subkey_list : Keys R) → Whole old root above subkey_list → ((at : ℕ) (parts : KeyParts R) → old at ≡ Ok parts → ((cell : ℕ) → IsIn cell parts.own → IsIn cell (above.own ++ own_cells subkey_list)) → ((cell : ℕ) → IsIn cell parts.lent → IsIn cell (above.lent ++ lent_cells subkey_list)) → new at ≡ Ok parts) → Whole new root above subkey_list
whole_again old new root above subkey_list w same = record {
  read = same root above w.read (λ cell i. in_front cell above.own (own_cells subkey_list) i) (λ cell i. in_front cell above.lent (lent_cells subkey_list) i);
  listed = w.listed;
  fits = fits_again old new (above.own ++ own_cells subkey_list) (above.lent ++ lent_cells subkey_list) same subkey_list w.fits (λ cell i. in_back cell above.own (own_cells subkey_list) i) (λ cell i. in_back cell above.lent (lent_cells subkey_list) i);
  named = w.named;
  once = w.once;
}
