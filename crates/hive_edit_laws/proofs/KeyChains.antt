-- Keys below one another, from the last one up.
use Rattle.std.proofs.Common.{◌≡◌, ◌≢◌, ℕ, List, [], ◌∷◌, ◌++◌, sym, subst, Bool, Ok, append-nil}
use Rattle.reg_tree_parts.specs.Rows.{Row}
use Rattle.hive_tree_model.specs.Lists.{Once}
use Rattle.hive_tree_model.specs.Keys.{KeyParts, Keys, none, key, own_cells}
use Rattle.hive_tree_model.specs.Encodings.{Whole}
use Rattle.hive_cells.specs.Bins.{Cells}
use Rattle.hive_records.specs.KeyNodes.{keys_in}

pub last_whole : (split : Bool) (cells : Cells) (at : ℕ) (parts : KeyParts Row) → keys_in split cells at ≡ Ok parts → parts.subkey_list ≡ [] → Once parts.own → Whole (keys_in split cells) at parts none
last_whole split cells at parts reads lists once = record {
  read = reads;
  listed = sym lists;
  fits = tt;
  named = tt;
  once = subst (λ (z : List ℕ). Once z) (sym (append-nil parts.own)) once;
}

pub next_whole : (split : Bool) (cells : Cells) (home at : ℕ) (parts its : KeyParts Row) (sub : Keys Row) → keys_in split cells home ≡ Ok parts → Whole (keys_in split cells) at its sub → parts.subkey_list ≡ at ∷ [] → its.name ≢ [] → Once (parts.own ++ (its.own ++ own_cells sub)) → Whole (keys_in split cells) home parts (key at its sub none)
next_whole split cells home at parts its sub reads whole lists named once = record {
  read = reads;
  listed = sym lists;
  fits = (whole.read, whole.listed, whole.fits, tt);
  named = (named, (λ i. absurd i), whole.named, tt);
  once = subst (λ (z : List ℕ). Once (parts.own ++ z)) (sym (append-nil (its.own ++ own_cells sub))) once;
}
