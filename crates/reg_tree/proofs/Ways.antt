-- What is found at the end of an operation's walk, and what an edit there makes of the tree.
use Rattle.std.proofs.Common.{◌≡◌, ℕ, ◌+◌, ◌-◌, ◌<◌, ◌≤◌, eqb, ◌==◌, Bool, true, false, not, cond, ◌⊎◌, inl, inr, List, [], ◌∷◌, ◌++◌, length, take, drop, Option, Some, None, Ok, Err, Result, refl, sym, ◌∙◌, ap, subst, arith, append-nil, append_assoc}
use Rattle.std.specs.Prelude.{nat_lt, is_none, bit_and}
use Rattle.std.specs.FinMap as finite
use Rattle.std.proofs.Math.Seq.{drop-append_seam, take-append_seam}
use Rattle.std.proofs.Math.ListN.{drop_of_length-le}
use Rattle.std.proofs.lemmas.Bool.{true≢false}
use Rattle.std.proofs.lemmas.Bool.Decides.{nat_tests}
use Rattle.std.proofs.lemmas.List.{take-append-drop, length-drop, length-append, length-take-le, map-append}
use Rattle.reg_names.specs.Names.{folded, folded_path}
use Rattle.refusals.specs.declared.refusal.Refusal.{Refusal}
use Rattle.refusals.specs.declared.refusal.Refusal.TheVariants.{NotFound, HasSubkeys, TooDeep, Fixed, NoMemory}
use Rattle.refusals.specs.declared.limits.TheConstants.{MOST_NEW_LEVELS}
use Rattle.reg_tree_parts.specs.Orders.{path_order}
use Rattle.reg_tree_parts.specs.Rows.{Row}
use Rattle.reg_tree_parts.specs.ValueEdits.{values_with, values_without}
use Rattle.reg_tree_parts.specs.Nodes.{Entries, row_at, names_below, begins_path}
use Rattle.reg_tree_parts.specs.Walks.{IsNearest, IsReplaced, IsEdited, IsRefused}
use Rattle.reg_tree.specs.Maps.{row, subkeys, missing}
use Rattle.reg_tree.specs.Encodable.{IsRooted}
use Rattle.reg_tree.specs.Operations.{touched, row_after, row_deleted, row_edited}
use Rattle.reg_tree.specs.Judgement.{judged, judged_there, judged_delete}
use Rattle.reg_tree.specs.TreeLists.{levels_of}
use Rattle.reg_tree.specs.Edits.{walk_of, judged_missing, judged_found, judged_last, judged_data, judged_value, judged_at, IsRewritten, EditsKey, makes, refuses, counted}
use Rattle.reg_tree.specs.declared.op.Op.{Op}
use Rattle.reg_tree.specs.declared.op.Op.TheVariants.{CreateKey, DeleteKey, SetValue, DeleteValue}
use Rattle.reg_tree.specs.declared.op.Legality.{Legality}
use Rattle.reg_tree.specs.declared.op.Legality.TheVariants.{Legal, Opened}
use Rattle.reg_tree.proofs.Rows.{row_is, subkeys_are}
use Rattle.reg_tree.proofs.Depths.{near_gone, near_missing, near_is_there, near_depth}
use Rattle.reg_tree.proofs.Splices.{edited, deleted, created}
use Rattle.reg_tree.proofs.Changes.{edited_is, nothing_below, created_is, one_more, longer_path}

-- the last name of a path, and those before it
pub last_of : (path parent : List (List ℕ)) (last : List ℕ) → path ≡ parent ++ last ∷ [] → drop (length path - 1) path ≡ last ∷ []
last_of path parent last is =
    rw is (ap (λ n. drop n (parent ++ last ∷ [])) (omega (arith, length-append parent (last ∷ []))) ∙ drop-append_seam parent (last ∷ []))

pub parent_is : (path parent : List (List ℕ)) (last : List ℕ) → path ≡ parent ++ last ∷ [] → take (length path - 1) path ≡ parent
parent_is path parent last is =
    rw is (ap (λ n. take n (parent ++ last ∷ [])) (omega (arith, length-append parent (last ∷ []))) ∙ take-append_seam parent (last ∷ []))

-- if no name is missing an operation is judged by what is found
pub found_is : (left : List (List ℕ)) (judgement : Result Legality Refusal) → judgement ≡ Ok Legal → (b : Bool) → b ≡ (length left == 0) → b ≡ true → judged_found left judgement ≡ Ok Legal
found_is [] judgement legal b is none = legal
found_is (name ∷ left) judgement legal b is none = absurd (true≢false (sym none ∙ is ∙ some))
  where
    some : (length (name ∷ left) == 0) ≡ false
    some = grind (arith, nat_tests)

-- what may be carried out on a key that is found finds it
none_left : (left : List (List ℕ)) (judgement : Result Legality Refusal) → judged_found left judgement ≡ Ok Legal → left ≡ []
none_left [] judgement legal = refl
none_left (name ∷ left) judgement legal = absurd (err_is_no_ok legal)
  where
    err_is_no_ok : {why : Refusal} → Err why ≡ Ok Legal → ⊥
    err_is_no_ok e = cc

-- nothing is missing if all is taken
all_taken : (d : ℕ) (path : List (List ℕ)) → drop d path ≡ [] → take d path ≡ path
all_taken d path none = sym (append-nil (take d path)) ∙ ap (λ l. take d path ++ l) (sym none) ∙ take-append-drop d path

-- a creation is judged by the names that are left
create_is : (n d : ℕ) → d ≤ n → (left : List (List ℕ)) → length left ≡ n - d
    → cond (eqb d n) (Ok Opened) (cond (nat_lt MOST_NEW_LEVELS (n - d)) (Err TooDeep) (Ok Legal)) ≡ judged_missing left
create_is n d le [] len = ap (λ b. cond b (Ok Opened) (cond (nat_lt MOST_NEW_LEVELS (n - d)) (Err TooDeep) (Ok Legal))) (the_same (omega (arith, len)))
  where
    the_same : d ≡ n → eqb d n ≡ true
    the_same e = grind (arith, nat_tests)
create_is n d le (name ∷ left) len =
    ap (λ b. cond b (Ok Opened) (cond (nat_lt MOST_NEW_LEVELS (n - d)) (Err TooDeep) (Ok Legal))) (differ (omega (arith, len)))
    ∙ ap (λ k. cond (nat_lt MOST_NEW_LEVELS k) (Err TooDeep) (Ok Legal)) (sym len)
  where
    differ : d < n → eqb d n ≡ false
    differ e = grind (arith, nat_tests)

module _ (root : Entries) (rooted : IsRooted root) (way : List (List ℕ)) (d : ℕ) (bottom : Entries) (near : IsNearest root way d bottom) where
  -- if no name is missing, the nearest key is that of the way
  pub whole_way : drop d way ≡ [] → (rest : List (List ℕ)) → row (finite.from_sorted {R = path_order} root) (folded_path way ++ rest) ≡ row_at bottom rest
  whole_way none rest = row_is root rooted.node (folded_path way ++ rest) ∙ ap (λ p. row_at root (folded_path p ++ rest)) (sym (all_taken d way none)) ∙ near.there rest

  names_of_way : drop d way ≡ [] → (rest : List (List ℕ)) → names_below (folded_path way ++ rest) root ≡ names_below rest bottom
  names_of_way none rest = ap (λ p. names_below (folded_path p ++ rest) root) (sym (all_taken d way none)) ∙ near.names rest

  -- if one is, nothing is there
  pub part_of_way : (name : List ℕ) (more : List (List ℕ)) → drop d way ≡ name ∷ more → (rest : List (List ℕ)) → row (finite.from_sorted {R = path_order} root) (folded_path way ++ rest) ≡ None
  part_of_way name more is rest =
      let lt : d < length way = omega (arith, length-drop d way, ap length is) in
      let split : folded_path way ≡ folded_path (take (d + 1) way) ++ folded_path (drop (d + 1) way) = ap folded_path (sym (take-append-drop (d + 1) way)) ∙ map-append folded (take (d + 1) way) (drop (d + 1) way) in
      row_is root rooted.node (folded_path way ++ rest)
      ∙ ap (λ p. row_at root (p ++ rest)) split
      ∙ ap (row_at root) (append_assoc (folded_path (take (d + 1) way)) (folded_path (drop (d + 1) way)) rest)
      ∙ near.gone lt (folded_path (drop (d + 1) way) ++ rest)

  -- an operation that wants a key at the way or below it
  found_there : (left : List (List ℕ)) → drop d way ≡ left → (rest : List (List ℕ)) (judge : Row → Result Legality Refusal)
      → judged_there (row (finite.from_sorted {R = path_order} root) (folded_path way ++ rest)) judge ≡ judged_found left (judged_there (row_at bottom rest) judge)
  found_there [] is rest judge = ap (λ o. judged_there o judge) (whole_way is rest)
  found_there (name ∷ more) is rest judge = ap (λ o. judged_there o judge) (part_of_way name more is rest)

  -- the same at the way itself
  found_here : (left : List (List ℕ)) → drop d way ≡ left → (judge : Row → Result Legality Refusal)
      → judged_there (row (finite.from_sorted {R = path_order} root) (folded_path way)) judge ≡ judged_found left (judged_there (row_at bottom []) judge)
  found_here left is judge = ap (λ p. judged_there (row (finite.from_sorted {R = path_order} root) p) judge) (sym (append-nil (folded_path way))) ∙ found_there left is [] judge

  -- if nothing is missing an edit is at the way
  module _ (none : drop d way ≡ []) (new made : Entries) (replaced : IsReplaced root (folded_path (take d way)) new made) where
    here_is : folded_path (take d way) ≡ folded_path way
    here_is = ap folded_path (all_taken d way none)

    pub within_way : (r : List (List ℕ)) → row_at made (folded_path way ++ r) ≡ row_at new r
    within_way r = ap (λ p. row_at made (p ++ r)) (sym here_is) ∙ replaced.within r

    pub off_way : (q : List (List ℕ)) → begins_path (folded_path way) q ≡ false → row_at made q ≡ row (finite.from_sorted {R = path_order} root) q
    off_way q off = replaced.others q (ap (λ p. begins_path p q) here_is ∙ off) ∙ sym (row_is root rooted.node q)

    -- a row that is edited there
    pub rewritten_is : (edit : Row → Row) (moment : ℕ) → IsRewritten bottom edit moment new → (q : List (List ℕ)) → row_at made q ≡ row_edited edit (finite.from_sorted {R = path_order} root) (folded_path way) moment q
    rewritten_is edit moment is q =
        let there : row (finite.from_sorted {R = path_order} root) (folded_path way) ≡ Some is.row = ap (row (finite.from_sorted {R = path_order} root)) (sym (append-nil (folded_path way))) ∙ whole_way none [] ∙ is.was in
        edited (row_at made) (row (finite.from_sorted {R = path_order} root)) new bottom (folded_path way) within_way off_way (whole_way none) (touched moment (edit is.row)) is.here is.below q
        ∙ edited_is (finite.from_sorted {R = path_order} root) (folded_path way) is.row (touched moment (edit is.row)) edit moment there refl q

-- how an operation is judged at the end of its walk is how it is judged on the tree
pub judged_is : (root : Entries) → IsRooted root → (op : Op) (d : ℕ) (bottom : Entries) → IsNearest root (walk_of op) d bottom
    → judged (finite.from_sorted {R = path_order} root) op ≡ judged_at op bottom (drop d (walk_of op))
judged_is root rooted (CreateKey hive path) d bottom near =
    (λ i. cond (near_is_there root rooted path d bottom near.row near.within near.there near.gone near.here i) (Ok Opened)
    (cond (nat_lt MOST_NEW_LEVELS (near_missing root rooted path d bottom near.row near.within near.there near.gone near.here i)) (Err TooDeep) (Ok Legal)))
    ∙ create_is (length path) d near.within (drop d path) (length-drop d path)
judged_is root rooted (DeleteKey hive []) d bottom near = sym (ap (λ l. judged_found l (Err Fixed)) (drop_of_length-le [] {i = d} (omega arith)))
judged_is root rooted (DeleteKey hive (first ∷ path)) d bottom near = deleted_at (last_in first path)
  where
    -- a path with a name has a last one
    last_in : (first : List ℕ) (path : List (List ℕ)) → (parent : List (List ℕ)) × ((last : List ℕ) × (first ∷ path ≡ parent ++ last ∷ []))
    last_in first [] = ([], (first, refl))
    last_in first (second ∷ path) = let more = last_in second path in (first ∷ more.0, (more.1.0, ap (λ l. first ∷ l) more.1.1))

    deleted_at : (parent : List (List ℕ)) × ((last : List ℕ) × (first ∷ path ≡ parent ++ last ∷ [])) → judged (finite.from_sorted {R = path_order} root) (DeleteKey hive (first ∷ path)) ≡ judged_at (DeleteKey hive (first ∷ path)) bottom (drop d (walk_of (DeleteKey hive (first ∷ path))))
    deleted_at (parent, (last, is)) =
        let way = walk_of (DeleteKey hive (first ∷ path)) in
        let there : folded_path (first ∷ path) ≡ folded_path way ++ folded last ∷ [] = ap folded_path is ∙ map-append folded parent (last ∷ []) ∙ ap (λ p. folded_path p ++ folded last ∷ []) (sym (parent_is (first ∷ path) parent last is)) in
        ap (λ p. judged_there (row (finite.from_sorted {R = path_order} root) p) (λ key. judged_delete key.flags (subkeys (finite.from_sorted {R = path_order} root) p))) there
        ∙ ap (λ n. judged_there (row (finite.from_sorted {R = path_order} root) (folded_path way ++ folded last ∷ [])) (λ key. judged_delete key.flags n)) (subkeys_are root rooted.node (folded_path way ++ folded last ∷ []))
        ∙ by_left (drop d way) refl last
        ∙ ap (λ l. judged_found (drop d way) (judged_last bottom l)) (sym (last_of (first ∷ path) parent last is))
      where
        by_left : (left : List (List ℕ)) → drop d (walk_of (DeleteKey hive (first ∷ path))) ≡ left → (last : List ℕ)
            → judged_there (row (finite.from_sorted {R = path_order} root) (folded_path (walk_of (DeleteKey hive (first ∷ path))) ++ folded last ∷ [])) (λ key. judged_delete key.flags (names_below (folded_path (walk_of (DeleteKey hive (first ∷ path))) ++ folded last ∷ []) root))
            ≡ judged_found left (judged_last bottom (last ∷ []))
        by_left [] none last =
            found_there root rooted (walk_of (DeleteKey hive (first ∷ path))) d bottom near [] none (folded last ∷ []) (λ key. judged_delete key.flags (names_below (folded_path (walk_of (DeleteKey hive (first ∷ path))) ++ folded last ∷ []) root))
            ∙ ap (λ n. judged_there (row_at bottom (folded last ∷ [])) (λ key. judged_delete key.flags n)) (names_of_way root rooted (walk_of (DeleteKey hive (first ∷ path))) d bottom near none (folded last ∷ []))
        by_left (name ∷ more) some last =
            found_there root rooted (walk_of (DeleteKey hive (first ∷ path))) d bottom near (name ∷ more) some (folded last ∷ []) (λ key. judged_delete key.flags (names_below (folded_path (walk_of (DeleteKey hive (first ∷ path))) ++ folded last ∷ []) root))
judged_is root rooted (SetValue hive path name kind bytes) d bottom near =
    found_here root rooted path d bottom near (drop d path) refl (λ key. judged_data bytes)
    ∙ ap (λ o. judged_found (drop d path) (judged_there o (λ key. judged_data bytes))) near.here
judged_is root rooted (DeleteValue hive path name) d bottom near =
    found_here root rooted path d bottom near (drop d path) refl (λ key. cond (is_none (finite.get key.values (folded name))) (Err NotFound) (Ok Legal))

-- a subkey that may be deleted has none
alone_of : (found : Option Row) (below : List (List ℕ)) → judged_there found (λ key. judged_delete key.flags below) ≡ Ok Legal → length below ≡ 0
alone_of None below e = absurd (err_is_no_ok e)
  where
    err_is_no_ok : Err NotFound ≡ Ok Legal → ⊥
    err_is_no_ok e = cc
alone_of (Some key) below e = by_flags (bit_and key.flags 8 == 0) below e
  where
    by_flags : (free : Bool) (below : List (List ℕ)) → cond (not free) (Err Fixed) (cond (not (length below == 0)) (Err HasSubkeys) (Ok Legal)) ≡ Ok Legal → length below ≡ 0
    by_flags false below e = cc
    by_flags true [] e = refl
    by_flags true (name ∷ below) e = absurd (has_some (sym (ap (λ b. cond (not b) (Err HasSubkeys) (Ok Legal)) some) ∙ e))
      where
        some : (length (name ∷ below) == 0) ≡ false
        some = grind (arith, nat_tests)

        has_some : Err HasSubkeys ≡ Ok Legal → ⊥
        has_some e = cc

-- which rows are at which paths after an edit at the end of the walk
pub rows_are : (root : Entries) → IsRooted root → (op : Op) (moment d : ℕ) (bottom : Entries) → IsNearest root (walk_of op) d bottom → (new made : Entries)
    → judged_at op bottom (drop d (walk_of op)) ≡ Ok Legal → EditsKey op moment bottom (drop d (walk_of op)) new → IsReplaced root (folded_path (take d (walk_of op))) new made
    → (q : List (List ℕ)) → row_at made q ≡ row_after (finite.from_sorted {R = path_order} root) op moment q
rows_are root rooted (CreateKey hive path) moment d bottom near new made legal edits replaced q =
    let tree = finite.from_sorted {R = path_order} root in
    let front = take d path in
    let names : path ≡ front ++ edits.name ∷ edits.further = sym (take-append-drop d path) ∙ ap (λ l. front ++ l) edits.names_are in
    let len : length front ≡ d = length-take-le d path near.within in
    let lt : d < length (folded_path path) = rw names (longer_path front edits.further edits.name d len) in
    let was : (r : List (List ℕ)) → row tree (folded_path front ++ r) ≡ row_at bottom r = λ r. row_is root rooted.node (folded_path front ++ r) ∙ near.there r in
    let there : row tree (folded_path front) ≡ Some edits.row = ap (row tree) (sym (append-nil (folded_path front))) ∙ was [] ∙ edits.was in
    let empty : (r : List (List ℕ)) → row tree (folded_path front ++ folded edits.name ∷ r) ≡ None =
    λ r. ap (row tree) (sym (append_assoc (folded_path front) (folded edits.name ∷ []) r)) ∙ ap (λ h. row tree (h ++ r)) (sym (ap (λ p. take (d + 1) (folded_path p)) names ∙ one_more front edits.further edits.name d len))
    ∙ near_gone root rooted path d bottom near.row near.within near.there near.gone near.here lt r in
    created (row_at made) (row tree) new bottom edits.branch front edits.further edits.name edits.row.descriptor moment edits.row
    replaced.within (λ q off. replaced.others q off ∙ sym (row_is root rooted.node q)) was there edits.here edits.below edits.kept edits.rows empty q
    ∙ created_is tree path front edits.further edits.name d edits.row moment names (near_depth root rooted path d bottom near.row near.within near.there near.gone near.here) len there q
rows_are root rooted (DeleteKey hive path) moment d bottom near new made legal edits replaced q =
    let tree = finite.from_sorted {R = path_order} root in
    let parent = take (length path - 1) path in
    let none = none_left (drop d parent) (judged_last bottom (drop (length path - 1) path)) legal in
    let whole : path ≡ parent ++ edits.name ∷ edits.further = sym (take-append-drop (length path - 1) path) ∙ ap (λ l. parent ++ l) edits.names_are in
    let last : edits.further ≡ [] = one_left path edits.name edits.further edits.names_are in
    let is : folded_path path ≡ folded_path parent ++ folded edits.name ∷ [] = ap folded_path (whole ∙ ap (λ l. parent ++ edits.name ∷ l) last) ∙ map-append folded parent (edits.name ∷ []) in
    let there : row tree (folded_path parent) ≡ Some edits.row = ap (row tree) (sym (append-nil (folded_path parent))) ∙ whole_way root rooted parent d bottom near none [] ∙ edits.was in
    let alone : length (subkeys tree (folded_path path)) ≡ 0 =
    ap length (ap (subkeys tree) is ∙ subkeys_are root rooted.node (folded_path parent ++ folded edits.name ∷ []) ∙ names_of_way root rooted parent d bottom near none (folded edits.name ∷ []))
    ∙ alone_of (row_at bottom (folded edits.name ∷ [])) (names_below (folded edits.name ∷ []) bottom) (sym (ap (λ l. judged_found l (judged_last bottom (drop (length path - 1) path))) none ∙ ap (judged_last bottom) edits.names_are) ∙ legal) in
    deleted (row_at made) (row tree) new bottom (folded_path parent) (within_way root rooted parent d bottom near none new made replaced) (off_way root rooted parent d bottom near none new made replaced) (whole_way root rooted parent d bottom near none)
    edits.row moment (folded edits.name) there edits.here edits.gone edits.kept
    (λ m r. ap (row tree) (sym (append_assoc (folded_path parent) (folded edits.name ∷ []) (m ∷ r)) ∙ ap (λ p. p ++ m ∷ r) (sym is)) ∙ nothing_below tree rooted.tree (folded_path path) alone m r) q
    ∙ ap (λ p. row_deleted tree p moment q) (sym is)
  where
    one_left : (path : List (List ℕ)) (name : List ℕ) (further : List (List ℕ)) → drop (length path - 1) path ≡ name ∷ further → further ≡ []
    one_left path name further is = none_in further (omega (arith, length-drop (length path - 1) path, ap length is))
      where
        none_in : (xs : List (List ℕ)) → length xs ≡ 0 → xs ≡ []
        none_in [] e = refl
        none_in (x ∷ xs) e = absurd (omega (arith, e))
rows_are root rooted (SetValue hive path name kind bytes) moment d bottom near new made legal edits replaced q =
    rewritten_is root rooted path d bottom near (none_left (drop d path) (judged_data bytes) legal) new made replaced (λ key. record key { values = values_with key.values name kind bytes }) moment edits q
rows_are root rooted (DeleteValue hive path name) moment d bottom near new made legal edits replaced q =
    rewritten_is root rooted path d bottom near (none_left (drop d path) (judged_value bottom name) legal) new made replaced (λ key. record key { values = values_without key.values name }) moment edits q

-- how many keys an operation made
pub counted_is : (root : Entries) → IsRooted root → (op : Op) (d : ℕ) (bottom : Entries) → IsNearest root (walk_of op) d bottom
    → counted op (length (walk_of op) - d) ≡ levels_of (finite.from_sorted {R = path_order} root) op
counted_is root rooted (CreateKey hive path) d bottom near = ap Some (sym (near_missing root rooted path d bottom near.row near.within near.there near.gone near.here))
counted_is root rooted (DeleteKey hive path) d bottom near = refl
counted_is root rooted (SetValue hive path name kind bytes) d bottom near = refl
counted_is root rooted (DeleteValue hive path name) d bottom near = refl

-- what an edit answers, of the tree's own root and the operation's way
pub told_of : (Makes : Entries → List (List ℕ) → Option Entries → Type 0) (lent root : Entries) (names way : List (List ℕ)) → lent ≡ root → names ≡ way
    → {result made : Option (Entries × ℕ)} → result ≡ made → IsEdited Makes lent names result → IsEdited Makes root way made
told_of Makes lent root names way same_root same_way {result} {made} same is =
    subst (λ r. IsEdited Makes r way made) same_root (subst (λ w. IsEdited Makes lent w made) same_way (subst (IsEdited Makes lent names) same is))

-- what a write in one walk leads to, by its answer
module _ (root : Entries) (rooted : IsRooted root) (op : Op) (moment : ℕ) where
  pub written_is : (made : Entries) (missing : ℕ) → IsEdited (makes op moment) root (walk_of op) (Some (made, missing)) → judged (finite.from_sorted {R = path_order} root) op ≡ Ok Legal
  written_is made missing is = judged_is root rooted op is.depth is.nearest is.near ∙ is.edits.1.0.0

  pub written_rows : (made : Entries) (missing : ℕ) → IsEdited (makes op moment) root (walk_of op) (Some (made, missing))
      → (q : List (List ℕ)) → row_at made q ≡ row_after (finite.from_sorted {R = path_order} root) op moment q
  written_rows made missing is = rows_are root rooted op moment is.depth is.nearest is.near is.edits.0 made is.edits.1.0.0 is.edits.1.0.1 is.edits.1.1.0

  pub written_count : (made : Entries) (missing : ℕ) → IsEdited (makes op moment) root (walk_of op) (Some (made, missing)) → counted op missing ≡ levels_of (finite.from_sorted {R = path_order} root) op
  written_count made missing is = ap (counted op) is.edits.1.1.1 ∙ counted_is root rooted op is.depth is.nearest is.near

  pub opened_is : IsEdited (makes op moment) root (walk_of op) None → judged (finite.from_sorted {R = path_order} root) op ≡ Ok Opened
  opened_is is = judged_is root rooted op is.depth is.nearest is.near ∙ is.edits

  pub refused_is : (why : Refusal) → IsRefused (refuses op moment) root (walk_of op) why → (judged (finite.from_sorted {R = path_order} root) op ≡ Err why) ⊎ (why ≡ NoMemory)
  refused_is why (inl (d, (bottom, (near, inl told)))) = inl (judged_is root rooted op d bottom near ∙ told)
  refused_is why (inl (d, (bottom, (near, inr none)))) = inr none
  refused_is why (inr none) = inr none
