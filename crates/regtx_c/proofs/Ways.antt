-- Where steps lead is where their indexes lead.
use Rattle.std.proofs.Common.{◌≡◌, ℕ, zero, suc, true, T, List, [], ◌∷◌, ◌++◌, map, length, slice_get, slice_set, Option, Some, None, is_some, option_map, option_to_list, refl, sym, ◌∙◌, ap, subst, ◌<◌, ◌≤◌, ◌+◌, ◌-◌, arith, length-append}
use Rattle.std.proofs.lemmas.List.{append-nil, append_assoc, map-append, length-map}
use Rattle.std.specs.List.{AllByRecursion}
use Rattle.std.specs.Option.{option_and_then}
use Rattle.std.specs.FinMap as finite
use Rattle.std.specs.FinMap.{get-entries, entries-from_sorted}
use Rattle.std.specs.FinMap.Entries.{find, is_sorted, same_entries}
use Rattle.reg_names.specs.Names.{folded}
use Rattle.reg_tree_parts.specs.Orders.{name_order, path_order}
use Rattle.reg_tree_parts.specs.Rows.{Row}
use Rattle.reg_tree_parts.specs.Nodes.{Entries, entries_of, root_name, spelled_root, row_at, names_below, subkeys_of, HasSubkeys, IsNode, AreNodes}
use Rattle.reg_tree_parts.proofs.Keys.{paths_total, paths_apart}
use Rattle.reg_tree_parts.proofs.NodeLists.{names_at, rows_of_found, names_of_found}
use Rattle.key_walk.proofs.Found.{AreFound, all_found}
use Rattle.reg_tree.specs.Maps.{TreeMap, row, subkeys}
use Rattle.reg_tree.specs.Reads.{subkey_index, value_index, info_of}
use Rattle.reg_tree.specs.declared.tree.Info.{Info}
use Rattle.regtx_c.specs.declared.block.Step.{Step}
use Rattle.regtx_c.specs.Places.{path_along, leads, key_at, value_of, way_next, way_up, raised, shortened}
use Rattle.regtx_c.specs.Ways.{IsWayStep, LeadsFrom, Leads, end_from, end_of, indexes}

some_same : {A : Type 0} (x y : A) → Some x ≡ Some y → x ≡ y
some_same x y e = cc

-- two nodes with the same rows are one
pub same_node : (a b : Entries) → IsNode a → IsNode b → row_at b [] ≡ row_at a [] → ((name : List ℕ) (rest : List (List ℕ)) → row_at b (name ∷ rest) ≡ row_at a (name ∷ rest)) → b ≡ a
same_node a b one two here below = same_entries path_order paths_total paths_apart b a two.rises one.rises rows
  where
    rows : (path : List (List ℕ)) → find path_order path b ≡ find path_order path a
    rows [] = here
    rows (name ∷ rest) = below name rest

-- the first of a node's entries is its own row
own_row : (node : Entries) (is : IsNode node) → row_at node [] ≡ Some is.row
own_row node is = ap (λ es. row_at es []) is.whole

own_name : (node : Entries) → IsNode node → folded (spelled_root node) ≡ root_name node
own_name node is = subst (λ es. folded (spelled_root es) ≡ root_name es) (sym is.whole) refl

-- the subkey at an index is a node, and is found under its name
node_at : (all ks : List (List ℕ × Entries)) → AreNodes ks → AllByRecursion (λ (k : List ℕ × Entries). root_name k.1 ≡ k.0) ks → AreFound all ks → (i : ℕ) (child : Entries)
    → slice_get (map (λ k. k.1) ks) i ≡ Some child → IsNode child × (find name_order (root_name child) all ≡ Some child)
node_at all [] nodes named found i child e = cc
node_at all (k ∷ ks) nodes named found zero child e =
    subst (λ (c : Entries). IsNode c × (find name_order (root_name c) all ≡ Some c)) (some_same k.1 child e) (nodes.0, ap (λ (n : List ℕ). find name_order n all) named.0 ∙ found.0)
node_at all (k ∷ ks) nodes named found (suc i) child e = node_at all ks nodes.1 named.1 found.1 i child e

-- what a key has at a subkey: all that the subkey has
record IsBelow (above : Entries) (index : ℕ) (child : Entries) : Type 0 where
  node : IsNode child
  rows : (rest : List (List ℕ)) → row_at above (root_name child ∷ rest) ≡ row_at child rest
  names : (rest : List (List ℕ)) → names_below (root_name child ∷ rest) above ≡ names_below rest child
  spelled : slice_get (names_below [] above) index ≡ Some (spelled_root child)

below_entries : (key : Row) (ks : List (List ℕ × Entries)) → AreNodes ks → T (is_sorted name_order ks) → AllByRecursion (λ (k : List ℕ × Entries). root_name k.1 ≡ k.0) ks → (i : ℕ) (child : Entries)
    → slice_get (map (λ k. k.1) ks) i ≡ Some child → IsBelow (entries_of key ks) i child
below_entries key ks nodes rises named i child e =
    let at = node_at ks ks nodes named (all_found ks rises) i child e in record {
      node = at.0;
      rows = λ rest. rows_of_found ks rises key (root_name child) (Some child) (sym at.1) rest;
      names = λ rest. names_of_found ks rises key (root_name child) (Some child) (sym at.1) rest;
      spelled = names_at key ks nodes i ∙ ap (option_map spelled_root) e;
    }

whole_of : (above : Entries) (node : IsNode above) → HasSubkeys above (subkeys_of above) → above ≡ entries_of node.row (subkeys_of above)
whole_of above node has = has.whole node.row (own_row above node)

is_below : (above : Entries) (step : Step) → IsNode above → IsWayStep above step → IsBelow above step.index step.key
is_below above step node is =
    subst (λ (es : Entries). IsBelow es step.index step.key) (sym (whole_of above node is.has)) (below_entries node.row (subkeys_of above) is.has.nodes is.has.rises is.has.named step.index step.key is.found)

-- a node is that of the key at a path of a tree, with all below it
pub record IsAt (tree : TreeMap) (path : List (List ℕ)) (key : Entries) : Type 0 where
  pub node : IsNode key
  pub rows : (rest : List (List ℕ)) → row tree (path ++ rest) ≡ row_at key rest
  pub names : (rest : List (List ℕ)) → names_below (path ++ rest) (finite.entries tree) ≡ names_below rest key

at_root : (tree : TreeMap) → IsNode (finite.entries tree) → IsAt tree [] (finite.entries tree)
at_root tree node = record { node = node; rows = λ rest. get-entries tree rest; names = λ rest. refl }

module _ (tree : TreeMap) (path : List (List ℕ)) (above : Entries) (at : IsAt tree path above) where
  pub row_here : row tree path ≡ Some at.node.row
  row_here = ap (row tree) (sym (append-nil path)) ∙ at.rows [] ∙ own_row above at.node

  pub names_here : subkeys tree path ≡ names_below [] above
  names_here = ap (subkeys tree) (sym (append-nil path)) ∙ at.names []

  -- the name at an index is that of the subkey there
  index_is : (i : ℕ) → subkey_index tree path i ≡ slice_get (names_below [] above) i
  index_is i = ap (λ (names : List (List ℕ)). option_and_then (λ (key : Row). slice_get names i) (row tree path)) names_here ∙ ap (option_and_then (λ (key : Row). slice_get (names_below [] above) i)) row_here

  at_step : (step : Step) → IsWayStep above step → IsAt tree (path ++ root_name step.key ∷ []) step.key
  at_step step is =
      let below = is_below above step at.node is in
      let n = root_name step.key in record {
        node = below.node;
        rows = λ rest. ap (row tree) (append_assoc path (n ∷ []) rest) ∙ at.rows (n ∷ rest) ∙ below.rows rest;
        names = λ rest. ap (λ (p : List (List ℕ)). names_below p (finite.entries tree)) (append_assoc path (n ∷ []) rest) ∙ at.names (n ∷ rest) ∙ below.names rest;
      }

  step_index : (step : Step) → IsWayStep above step → subkey_index tree path step.index ≡ Some (spelled_root step.key)
  step_index step is = index_is step.index ∙ IsBelow.spelled (is_below above step at.node is)

-- the steps of a way lead where their indexes do
walk_from : (tree : TreeMap) (path : List (List ℕ)) (above : Entries) (way : List Step) → IsAt tree path above → LeadsFrom above way
    → (end : List (List ℕ)) × (path_along tree path (indexes way) ≡ Some end) × IsAt tree end (end_from above way)
walk_from tree path above [] at on = (path, refl, at)
walk_from tree path above (step ∷ way) at on =
    let next = at_step tree path above at step on.0 in
    let n = root_name step.key in
    let rest = walk_from tree (path ++ n ∷ []) step.key way next on.1 in (
      rest.0,
      ap (option_and_then (λ (name : List ℕ). path_along tree (path ++ folded name ∷ []) (indexes way))) (step_index tree path above at step on.0)
          ∙ ap (λ (name : List ℕ). path_along tree (path ++ name ∷ []) (indexes way)) (own_name step.key next.node)
          ∙ rest.1,
      rest.2,
    )

pub walk : (tree : TreeMap) (way : List Step) → IsNode (finite.entries tree) → Leads tree way → (end : List (List ℕ)) × (path_along tree [] (indexes way) ≡ Some end) × IsAt tree end (end_of tree way)
walk tree way root on = walk_from tree [] (finite.entries tree) way (at_root tree root) on

-- one step more
abbrev one_more : TreeMap → ℕ → List (List ℕ) → Option (List (List ℕ))
one_more tree i path = option_map (λ (name : List ℕ). path ++ folded name ∷ []) (subkey_index tree path i)

along_more : (tree : TreeMap) (path : List (List ℕ)) (way : List ℕ) (i : ℕ) → path_along tree path (way ++ i ∷ []) ≡ option_and_then (one_more tree i) (path_along tree path way)
along_more tree path [] i = by_case (subkey_index tree path i)
  where
    by_case : (o : Option (List ℕ)) → option_and_then (λ (name : List ℕ). Some (path ++ folded name ∷ [])) o ≡ option_map (λ (name : List ℕ). path ++ folded name ∷ []) o
    by_case None = refl
    by_case (Some name) = refl
along_more tree path (j ∷ way) i = by_case (subkey_index tree path j) (λ name. along_more tree (path ++ folded name ∷ []) way i)
  where
    by_case : (o : Option (List ℕ)) → ((name : List ℕ) → path_along tree (path ++ folded name ∷ []) (way ++ i ∷ []) ≡ option_and_then (one_more tree i) (path_along tree (path ++ folded name ∷ []) way))
        → option_and_then (λ (name : List ℕ). path_along tree (path ++ folded name ∷ []) (way ++ i ∷ [])) o
        ≡ option_and_then (one_more tree i) (option_and_then (λ (name : List ℕ). path_along tree (path ++ folded name ∷ []) way) o)
    by_case None rest = refl
    by_case (Some name) rest = rest name

mapped_there : {A B : Type 0} (f : A → B) (o : Option A) → is_some (option_map f o) ≡ is_some o
mapped_there f None = refl
mapped_there f (Some x) = refl

-- whether a key is one step further is told by the subkeys of the end
pub further : (tree : TreeMap) (way : List Step) (i : ℕ) → IsNode (finite.entries tree) → Leads tree way → HasSubkeys (end_of tree way) (subkeys_of (end_of tree way))
    → leads tree (Some (indexes way ++ i ∷ [])) ≡ is_some (slice_get (map (λ (k : List ℕ × Entries). k.1) (subkeys_of (end_of tree way))) i)
further tree way i root on has =
    let found = walk tree way root on in
    let node = end_of tree way in
    let at = found.2 in
    let ks = subkeys_of node in
    let told : slice_get (names_below [] node) i ≡ option_map spelled_root (slice_get (map (λ (k : List ℕ × Entries). k.1) ks) i) =
    ap (λ (es : Entries). slice_get (names_below [] es) i) (whole_of node at.node has) ∙ names_at at.node.row ks has.nodes i in
    ap is_some (along_more tree [] (indexes way) i ∙ ap (option_and_then (one_more tree i)) found.1)
    ∙ mapped_there (λ (name : List ℕ). found.0 ++ folded name ∷ []) (subkey_index tree found.0 i)
    ∙ ap is_some (index_is tree found.0 node at i ∙ told)
    ∙ mapped_there spelled_root (slice_get (map (λ (k : List ℕ × Entries). k.1) ks) i)

-- the entries of a tree are those of its root's node
pub root_entries : (tree : TreeMap) (root : Entries) → tree ≡ finite.from_sorted {R = path_order} root → IsNode root → finite.entries tree ≡ root
root_entries tree root same node = ap finite.entries same ∙ entries-from_sorted path_order root node.rises

pub root_node : (tree : TreeMap) (root : Entries) → tree ≡ finite.from_sorted {R = path_order} root → IsNode root → IsNode (finite.entries tree)
root_node tree root same node = subst IsNode (sym (root_entries tree root same node)) node

-- the last step of a way
pub split_on : (above : Entries) (front : List Step) (last : Step) → LeadsFrom above (front ++ last ∷ []) → LeadsFrom above front × IsWayStep (end_from above front) last
split_on above [] last on = (tt, on.0)
split_on above (step ∷ front) last on = let rest = split_on step.key front last on.1 in ((on.0, rest.0), rest.1)

pub joined_on : (above : Entries) (front : List Step) (last : Step) → LeadsFrom above front → IsWayStep (end_from above front) last → LeadsFrom above (front ++ last ∷ [])
joined_on above [] last on is = (is, tt)
joined_on above (step ∷ front) last on is = (on.0, joined_on step.key front last on.1 is)

pub end_is : (above : Entries) (front : List Step) (last : Step) → end_from above (front ++ last ∷ []) ≡ last.key
end_is above [] last = refl
end_is above (step ∷ front) last = end_is step.key front last

pub indexes_more : (front : List Step) (last : Step) → indexes (front ++ last ∷ []) ≡ indexes front ++ last.index ∷ []
indexes_more front last = map-append (λ (step : Step). step.index) front (last ∷ [])

raised_last : (first : ℕ) (front : List ℕ) (last : ℕ) → raised first (front ++ last ∷ []) ≡ first ∷ (front ++ (last + 1) ∷ [])
raised_last first [] last = refl
raised_last first (next ∷ front) last = ap (λ (way : List ℕ). first ∷ way) (raised_last next front last)

pub next_last : (front : List ℕ) (last : ℕ) → way_next (front ++ last ∷ []) ≡ Some (front ++ (last + 1) ∷ [])
next_last [] last = refl
next_last (first ∷ front) last = ap Some (raised_last first front last)

shortened_last : (first : ℕ) (front : List ℕ) (last : ℕ) → shortened first (front ++ last ∷ []) ≡ first ∷ front
shortened_last first [] last = refl
shortened_last first (next ∷ front) last = ap (λ (way : List ℕ). first ∷ way) (shortened_last next front last)

pub up_last : (front : List ℕ) (last : ℕ) → way_up (front ++ last ∷ []) ≡ Some front
up_last [] last = refl
up_last (first ∷ front) last = ap Some (shortened_last first front last)

pub no_steps : (way : List Step) → length way ≡ 0 → way ≡ []
no_steps [] none = refl
no_steps (step ∷ way) none = absurd (omega arith)

-- the way above, if there is a step
pub popped_on : (above : Entries) (old new : List Step) (gone : Option Step) → old ≡ new ++ option_to_list gone → LeadsFrom above old → LeadsFrom above new
popped_on above old new None whole on = subst (LeadsFrom above) (whole ∙ append-nil new) on
popped_on above old new (Some last) whole on = let parts = split_on above new last (subst (LeadsFrom above) whole on) in parts.0

-- the way is that to the key above
pub popped_steps : (tree : TreeMap) (old new : List Step) (last : Step) → IsNode (finite.entries tree) → old ≡ new ++ last ∷ [] → Leads tree old → (leads tree (way_up (indexes old)) ≡ true) × (Some (indexes new) ≡ way_up (indexes old))
popped_steps tree old new last root whole on =
    let up : way_up (indexes old) ≡ Some (indexes new) = ap way_up (ap indexes whole ∙ indexes_more new last) ∙ up_last (indexes new) last.index in
    let parts = split_on (finite.entries tree) new last (subst (Leads tree) whole on) in
    let found = walk tree new root parts.0 in
    (ap (leads tree) up ∙ ap is_some found.1, sym up)

-- the next way, from the last step on
pub next_is : (way front : List Step) (last : Step) → way ≡ front ++ last ∷ [] → way_next (indexes way) ≡ Some (indexes front ++ (last.index + 1) ∷ [])
next_is way front last whole = ap way_next (ap indexes whole ∙ indexes_more front last) ∙ next_last (indexes front) last.index

-- an index at which something is lies within the list
pub within : {A : Type 0} (xs : List A) (i : ℕ) (x : A) → slice_get xs i ≡ Some x → i < length xs
within [] i x e = cc
within (y ∷ ys) zero x e = omega arith
within (y ∷ ys) (suc i) x e = let rest : i < length ys = within ys i x e in omega (arith, rest)

-- a list whose last one is put anew
pub set_last : (front : List Step) (old new : Step) (at : ℕ) → at ≡ length front → slice_set (front ++ old ∷ []) at new ≡ front ++ new ∷ []
set_last [] old new at e = ap (λ (i : ℕ). slice_set (old ∷ []) i new) e
set_last (step ∷ front) old new at e = ap (λ (i : ℕ). slice_set (step ∷ (front ++ old ∷ [])) i new) e ∙ ap (λ (rest : List Step). step ∷ rest) (set_last front old new (length front) refl)

abbrev counts_of : TreeMap → List (List ℕ) → Row → Info
counts_of tree path key = record { subkeys = length (subkeys tree path); values = finite.len key.values; time = key.time }

abbrev key_of : TreeMap → List (List ℕ) → Option (Row × Info)
key_of tree path = option_and_then (λ (key : Row). option_map (λ (info : Info). (key, info)) (info_of tree path)) (row tree path)

-- the key at the end of a way, and its counts
pub key_there : (tree : TreeMap) (way : List Step) (node : Entries) (key : Row) → IsNode (finite.entries tree) → Leads tree way → node ≡ end_of tree way → row_at node [] ≡ Some key
    → key_at (record { tree = tree; way = indexes way }) ≡ Some (key, record { subkeys = length (names_below [] node); values = finite.len key.values; time = key.time })
key_there tree way node key root on is own =
    let found = walk tree way root on in
    let path = found.0 in
    let at : IsAt tree path node = subst (IsAt tree path) (sym is) found.2 in
    let there : row tree path ≡ Some key = row_here tree path node at ∙ sym (own_row node at.node) ∙ own in
    ap (option_and_then (key_of tree)) found.1
    ∙ ap (λ (o : Option Row). option_and_then (λ (k : Row). option_map (λ (info : Info). (k, info)) (option_map (counts_of tree path) o)) o) there
    ∙ ap (λ (names : List (List ℕ)). Some (key, record { subkeys = length names; values = finite.len key.values; time = key.time })) (names_here tree path node at)

-- the value at an index of the key at the end of a way
pub value_there : (tree : TreeMap) (way : List Step) (node : Entries) (key : Row) (index : ℕ) → IsNode (finite.entries tree) → Leads tree way → node ≡ end_of tree way → row_at node [] ≡ Some key
    → value_of index (record { tree = tree; way = indexes way }) ≡ slice_get (finite.values key.values) index
value_there tree way node key index root on is own =
    let found = walk tree way root on in
    let path = found.0 in
    let at : IsAt tree path node = subst (IsAt tree path) (sym is) found.2 in
    let there : row tree path ≡ Some key = row_here tree path node at ∙ sym (own_row node at.node) ∙ own in
    ap (option_and_then (λ (p : List (List ℕ)). value_index tree p index)) found.1 ∙ ap (option_and_then (λ (k : Row). slice_get (finite.values k.values) index)) there

-- what the subkeys of the end tell, as calls give it
pub told_by : (tree : TreeMap) (way given : List Step) (node : Entries) (i : ℕ) (found : Option Entries) → given ≡ way → node ≡ end_of tree given → IsNode (finite.entries tree) → Leads tree way
    → found ≡ slice_get (map (λ (k : List ℕ × Entries). k.1) (subkeys_of node)) i → HasSubkeys node (subkeys_of node) → leads tree (Some (indexes way ++ i ∷ [])) ≡ is_some found
told_by tree way given node i found same is root on at has =
    let here : node ≡ end_of tree way = is ∙ ap (end_of tree) same in
    further tree way i root on (subst (λ (es : Entries). HasSubkeys es (subkeys_of es)) here has)
    ∙ ap (λ (es : Entries). is_some (slice_get (map (λ (k : List ℕ × Entries). k.1) (subkeys_of es)) i)) (sym here)
    ∙ ap is_some (sym at)

pub step_by : (tree : TreeMap) (way given : List Step) (node : Entries) (i : ℕ) (child key : Entries) → given ≡ way → node ≡ end_of tree given
    → Some child ≡ slice_get (map (λ (k : List ℕ × Entries). k.1) (subkeys_of node)) i → HasSubkeys node (subkeys_of node) → key ≡ child → IsWayStep (end_of tree way) (record { index = i; key = key })
step_by tree way given node i child key same is at has shared =
    subst (λ (es : Entries). IsWayStep es (record { index = i; key = key })) (is ∙ ap (end_of tree) same) (record { has = has; found = sym at ∙ ap Some (sym shared) })

-- one more than the index of a step is no more than the subkeys are
pub next_within : (above : Entries) (step : Step) (count : ℕ) → IsWayStep above step → count ≡ length (subkeys_of above) → step.index + 1 ≤ count
next_within above step count is counted =
    let at : step.index < length (map (λ (k : List ℕ × Entries). k.1) (subkeys_of above)) = within (map (λ (k : List ℕ × Entries). k.1) (subkeys_of above)) step.index step.key is.found in
    omega (arith, at, counted, length-map (subkeys_of above) (λ (k : List ℕ × Entries). k.1))

pub next_set : (way front : List Step) (last step : Step) (len : ℕ) → way ≡ front ++ last ∷ [] → len ≡ length way → slice_set way (len - 1) step ≡ front ++ step ∷ []
next_set way front last step len whole counted =
    let at : len - 1 ≡ length front = omega (arith, counted, ap length whole, length-append front (last ∷ [])) in
    ap (λ (w : List Step). slice_set w (len - 1) step) whole ∙ set_last front last step (len - 1) at
