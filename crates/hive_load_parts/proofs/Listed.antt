-- Nodes in the order in which keys are listed have the keys' rows.
use Rattle.std.proofs.Common.{◌≡◌, inl, inr, ℕ, List, [], ◌∷◌, ◌++◌, map, refl, ◌∙◌, ap, sym, Bool, true, false, cond, Some}
use Rattle.std.specs.FinMap.Entries.{find}
use Rattle.reg_tree_parts.specs.Orders.{name_order}
use Rattle.reg_tree_parts.specs.Rows.{Row}
use Rattle.reg_tree_parts.specs.Nodes.{Entries, row_in}
use Rattle.hive_tree_model.specs.Keys.{KeyParts, Keys, none, key, names}
use Rattle.hive_tree_model.specs.Trees.{same, row_in as row_of, row_from}
use Rattle.hive_tree_model.specs.Loads.{with_last}
use Rattle.hive_tree_model.proofs.Basics.{decided, yes_if, no_if}
use Rattle.hive_records.specs.Nodes.{IsNodeOf, AreNodesOf}
use Rattle.hive_load_parts.specs.Nodes.{AreListed}

skip : (to : ℕ) (q : KeyParts Row) (subkey_list after : Keys Row) (n : List ℕ) (path : List (List ℕ)) → same n q.name ≡ false → row_of (key to q subkey_list after) (n ∷ path) ≡ row_of after (n ∷ path)
skip to q subkey_list after n [] e = no_if (same n q.name) (Some q.row) (row_of after (n ∷ [])) e
skip to q subkey_list after n (m ∷ path) e = no_if (same n q.name) (row_of subkey_list (m ∷ path)) (row_of after (n ∷ m ∷ path)) e

take_it : (to : ℕ) (q : KeyParts Row) (subkey_list after : Keys Row) (n : List ℕ) (path : List (List ℕ)) → same n q.name ≡ true → row_of (key to q subkey_list after) (n ∷ path) ≡ row_from q.row subkey_list path
take_it to q subkey_list after n [] e = yes_if (same n q.name) (Some q.row) (row_of after (n ∷ [])) e
take_it to q subkey_list after n (m ∷ path) e = yes_if (same n q.name) (row_of subkey_list (m ∷ path)) (row_of after (n ∷ m ∷ path)) e

pub listed_rows : (nodes : List (List ℕ × Entries)) (keys : Keys Row) → AreListed nodes keys → AreNodesOf nodes keys
listed_rows [] none h name [] = refl
listed_rows [] none h name (m ∷ path) = refl
listed_rows [] (key at parts below after) h name path = absurd h
listed_rows (node ∷ nodes) none h name path = absurd h
listed_rows (node ∷ nodes) (key at parts below after) h name path =
    let same_test : same name node.0 ≡ same name parts.name = ap (same name) h.0 in
    elim (decided (same name parts.name)) [
      | inl t ↦ ap (λ (b : Bool). row_in (cond b (Some node.1) (find name_order name nodes)) path) (same_test ∙ t) ∙ h.1 path ∙ sym (take_it at parts below after name path t)
      | inr f ↦ ap (λ (b : Bool). row_in (cond b (Some node.1) (find name_order name nodes)) path) (same_test ∙ f) ∙ listed_rows nodes after h.2 name path ∙ sym (skip at parts below after name path f)
    ]

-- one node more, for one key more
pub listed_more : (nodes : List (List ℕ × Entries)) (keys : Keys Row) (at : ℕ) (parts : KeyParts Row) (below : Keys Row) (node : Entries) → AreListed nodes keys → IsNodeOf node parts below → AreListed (nodes ++ (parts.name, node) ∷ []) (with_last keys at parts below)
listed_more [] none at parts below node h is = (refl, is, tt)
listed_more [] (key to its subkey_list after) at parts below node h is = absurd h
listed_more (n ∷ nodes) none at parts below node h is = absurd h
listed_more (n ∷ nodes) (key to its subkey_list after) at parts below node h is = (h.0, h.1, listed_more nodes after at parts below node h.2 is)

-- their names are the keys' names, in order
pub listed_names : (nodes : List (List ℕ × Entries)) (keys : Keys Row) → AreListed nodes keys → map (λ (n : List ℕ × Entries). n.0) nodes ≡ names keys
listed_names [] none h = refl
listed_names [] (key at parts below after) h = absurd h
listed_names (n ∷ nodes) none h = absurd h
listed_names (n ∷ nodes) (key at parts below after) h = λ i. h.0 i ∷ listed_names nodes after h.2 i
