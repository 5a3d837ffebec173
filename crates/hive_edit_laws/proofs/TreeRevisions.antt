-- The rows of a tree in which one key has another row and other subkeys.
use Rattle.std.proofs.Common.{◌≡◌, inl, inr, ◌&&◌, ℕ, List, [], ◌∷◌, ◌++◌, refl, ◌∙◌, ap, sym, subst, Bool, false, if◌then◌else◌, Some, None, append-nil}
use Rattle.std.specs.FinMap.{get, get-from_entries}
use Rattle.reg_names.specs.Names.{folded}
use Rattle.reg_tree_parts.specs.Rows.{Row}
use Rattle.reg_tree_parts.specs.NewRows.{new_row}
use Rattle.reg_tree_parts.specs.Nodes.{Entries, row_at, begins_path, branch_row}
use Rattle.reg_tree.specs.Maps.{TreeMap, row, IsTree}
use Rattle.hive_tree_model.specs.Keys.{KeyParts, Keys, none, key, offsets}
use Rattle.hive_tree_model.specs.Trees.{same, rows, row_in, row_from}
use Rattle.hive_tree_model.specs.Encodings.{CellsMatchKeys, Named, IsKeyTree}
use Rattle.hive_tree_model.specs.Changes.{rest_of}
use Rattle.hive_tree_model.proofs.Basics.{never, decided, yes_if, no_if, same_itself, same_head, same_tail, cons_nil, paths_total}
use Rattle.hive_tree_model.proofs.Rows.{row_of_tree}
use Rattle.hive_tree_model.proofs.ChainsAre.{key_tree}
use Rattle.hive_cells.specs.Bins.{Cells}
use Rattle.hive_records.specs.KeyNodes.{keys_in}
use Rattle.hive_records.specs.Images.{splits}
use Rattle.hive_records.proofs.Keys.{keys_named}
use Rattle.hive_edit_laws.specs.SubkeyEdits.{beside}
use Rattle.hive_edit_laws.specs.SubkeyLists.{AreNewKeys}
use Rattle.hive_edit_laws.specs.Found.{KeyFound}
use Rattle.hive_edit_laws.proofs.KeySearch.{row_next}
use Rattle.hive_edit_laws.proofs.RowRevisions.{row_found}

-- what is left of a path after its beginning
pub rest_after : (p r : List (List ℕ)) → rest_of p (p ++ r) ≡ Some r
rest_after [] r = refl
rest_after (n ∷ p) r = yes_if (same n n) (rest_of p (p ++ r)) None (same_itself n) ∙ rest_after p r

pub rest_off : (p q : List (List ℕ)) → begins_path p q ≡ false → rest_of p q ≡ None
rest_off [] q e = never (sym e)
rest_off (n ∷ p) [] e = refl
rest_off (n ∷ p) (m ∷ q) e = elim (decided (same m n)) [
  | inl t ↦ yes_if (same m n) (rest_of p q) None t ∙ rest_off p q (sym (ap (λ b. b && begins_path p q) t) ∙ e)
  | inr f ↦ no_if (same m n) (rest_of p q) None f
]

-- a key and the keys below it, as entries
abbrev pub entries_of : Row → Keys Row → Entries
entries_of row below = ([], row) ∷ rows below

pub entries_row : (parts : KeyParts Row) (below : Keys Row) → Named below → (q : List (List ℕ)) → row_at (entries_of parts.row below) q ≡ row_from parts.row below q
entries_row parts below named q = sym (get-from_entries paths_total (([], parts.row) ∷ rows below) q) ∙ row_of_tree parts below named q

-- the rows of a key that was found, and those below it
pub rows_found : (bytes : List ℕ) (root minor : ℕ) (tree : TreeMap) (path : List (List ℕ)) (at : ℕ) (f : KeyFound bytes root minor tree path at) (r : List (List ℕ)) → row tree (path ++ r) ≡ row_from f.place.parts.row f.place.below r
rows_found bytes root minor tree path at f [] = ap (row tree) (append-nil path) ∙ row_found bytes root minor tree path at f
rows_found bytes root minor tree path at f (n ∷ r) = ap (λ (t : TreeMap). get t (path ++ n ∷ r)) f.is ∙ row_next root f.above f.subkey_list f.whole.named path n r f.place f.there

-- a key that was found is one of a tree
pub found_tree : (bytes : List ℕ) (root minor : ℕ) (tree : TreeMap) (path : List (List ℕ)) (at : ℕ) → KeyFound bytes root minor tree path at → IsTree tree
found_tree bytes root minor tree path at f =
    let is : IsKeyTree (λ (row : Row). folded row.name) tree = key_tree (keys_in (splits minor) f.cells) (λ (row : Row). folded row.name) (keys_named (splits minor) f.cells) root tree (f.above, f.subkey_list, f.whole, f.is, f.apart) in
    record { root = is.root; parents = is.parents; named = λ path name key e. is.named path name key e }

module _ {R : Type 0} where
  -- keys in two parts, by their offsets
  pub record Cut (f : Keys R) (first rest : List ℕ) : Type 0 where
    pub front : Keys R
    pub back : Keys R
    pub is : f ≡ beside front back
    pub front_is : offsets front ≡ first
    pub back_is : offsets back ≡ rest

  pub cut : (f : Keys R) (first rest : List ℕ) → offsets f ≡ first ++ rest → Cut f first rest
  cut f [] rest e = record { front = none; back = f; is = refl; front_is = refl; back_is = e }
  cut none (x ∷ first) rest e = cons_nil x (first ++ rest) (sym e)
  cut (key at p below after) (x ∷ first) rest e =
      let c = cut after first rest (same_tail at x (offsets after) (first ++ rest) e) in
      record { front = key at p below c.front; back = c.back; is = ap (λ (g : Keys R). key at p below g) c.is; front_is = (λ i. same_head at x (offsets after) (first ++ rest) e i ∷ c.front_is i); back_is = c.back_is }

  -- keys around the one at an offset
  pub record Around (f : Keys R) (first : List ℕ) (x : ℕ) (rest : List ℕ) : Type 0 where
    pub front : Keys R
    pub its : KeyParts R
    pub sub : Keys R
    pub back : Keys R
    pub is : f ≡ beside front (key x its sub back)
    pub front_is : offsets front ≡ first
    pub back_is : offsets back ≡ rest

  pub around : (f : Keys R) (first : List ℕ) (x : ℕ) (rest : List ℕ) → offsets f ≡ first ++ x ∷ rest → Around f first x rest
  around none [] x rest e = cons_nil x rest (sym e)
  around none (w ∷ first) x rest e = cons_nil w (first ++ x ∷ rest) (sym e)
  around (key at p below after) [] x rest e = record { front = none; its = p; sub = below; back = after; is = ap (λ (n : ℕ). key n p below after) (same_head at x (offsets after) rest e); front_is = refl; back_is = same_tail at x (offsets after) rest e }
  around (key at p below after) (w ∷ first) x rest e =
      let c = around after first x rest (same_tail at w (offsets after) (first ++ x ∷ rest) e) in
      record { front = key at p below c.front; its = c.its; sub = c.sub; back = c.back; is = ap (λ (g : Keys R). key at p below g) c.is; front_is = (λ i. same_head at w (offsets after) (first ++ x ∷ rest) e i ∷ c.front_is i); back_is = c.back_is }

one_key_rows : (at : ℕ) (its : KeyParts Row) (sub : Keys Row) (m : List ℕ) (r : List (List ℕ)) → row_in (key at its sub none) (m ∷ r) ≡ (if same m its.name then row_from its.row sub r else None)
one_key_rows at its sub m [] = refl
one_key_rows at its sub m (k ∷ r) = refl

pub first_new : (name : List ℕ) (further : List (List ℕ)) (descriptor : List ℕ) (moment : ℕ) (parts : KeyParts Row) (sub : Keys Row) → AreNewKeys name further descriptor moment parts sub → parts.row ≡ new_row name descriptor moment
first_new name [] descriptor moment parts sub new = new.0
first_new name (next ∷ further) descriptor moment parts sub new = new.0

-- the rows of new keys below one another
pub new_rows : (split : Bool) (cells : Cells) (name : List ℕ) (further : List (List ℕ)) (descriptor : List ℕ) (moment : ℕ) (parts : KeyParts Row) (sub : Keys Row) → CellsMatchKeys (keys_in split cells) sub → AreNewKeys name further descriptor moment parts sub → (r : List (List ℕ)) → row_from parts.row sub r ≡ branch_row name further descriptor moment r
new_rows split cells name [] descriptor moment parts sub fits new [] = ap Some new.0
new_rows split cells name (next ∷ further) descriptor moment parts sub fits new [] = ap Some new.0
new_rows split cells name [] descriptor moment parts sub fits new (m ∷ r) = ap (λ (g : Keys Row). row_in g (m ∷ r)) new.1
new_rows split cells name (next ∷ further) descriptor moment parts sub fits new (m ∷ r) =
    let all : CellsMatchKeys (keys_in split cells) (key new.1 new.2 new.3 none) = subst (λ (g : Keys Row). CellsMatchKeys (keys_in split cells) g) new.4 fits in
    let named : (new.2).name ≡ folded next = keys_named split cells new.1 new.2 all.0 ∙ ap (λ (row : Row). folded row.name) (first_new next further descriptor moment new.2 new.3 new.5) in
    ap (λ (g : Keys Row). row_in g (m ∷ r)) new.4
    ∙ one_key_rows new.1 new.2 new.3 m r
    ∙ ap (λ n. if same m n then row_from (new.2).row new.3 r else None) named
    ∙ ap (λ o. if same m (folded next) then o else None) (new_rows split cells next further descriptor moment new.2 new.3 all.2 new.5 r)
