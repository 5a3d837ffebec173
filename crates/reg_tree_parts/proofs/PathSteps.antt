-- One step of a path: from a key to its subkey.
use Rattle.std.proofs.Common.{◌≡◌, ℕ, ◌+◌, ◌<◌, suc, Bool, true, false, ◌&&◌, cond, ◌⊎◌, inl, inr, List, [], ◌∷◌, ◌++◌, length, take, Option, Some, None, Result, Ok, Err, IfOk, IfSome, IfNone, refl, sym, ◌∙◌, ap, subst, arith}
use Rattle.std.specs.Ordering.{eq_by_cmp}
use Rattle.reg_names.specs.Names.{folded, folded_path}
use Rattle.reg_tree_parts.specs.Orders.{name_order}
use Rattle.reg_tree_parts.specs.Rows.{Row}
use Rattle.reg_tree_parts.specs.NewRows.{new_row}
use Rattle.reg_tree_parts.specs.Nodes.{Entries, root_name, row_at, begins_path, branch_row}
use Rattle.reg_tree_parts.proofs.Keys.{names_apart}
use Rattle.reg_tree_parts.proofs.Finds.{equal_of}

-- a fact of what is there, from another
pub some_of : {A : Type 0} {P Q : A → Type 0} (o : Option A) → ((x : A) → P x → Q x) → IfSome o P → IfSome o Q
some_of None step h = tt
some_of (Some x) step h = step x h

-- what is missing below a subkey is missing from its parent
pub missing_below : (parent child : Entries) (name : List ℕ) (rest : List (List ℕ)) (depth : ℕ) → ((q : List (List ℕ)) → row_at parent (folded name ∷ q) ≡ row_at child q)
    → (depth < length rest → (q : List (List ℕ)) → row_at child (folded_path (take (depth + 1) rest) ++ q) ≡ None)
    → depth + 1 < length (name ∷ rest) → (q : List (List ℕ)) → row_at parent (folded_path (take (depth + 1 + 1) (name ∷ rest)) ++ q) ≡ None
missing_below parent child name rest depth there missing lt q =
    let e : depth + 1 + 1 ≡ suc (depth + 1) = omega arith in
    subst (λ n. row_at parent (folded_path (take n (name ∷ rest)) ++ q) ≡ None) (sym e)
    (there (folded_path (take (depth + 1) rest) ++ q) ∙ missing (omega arith) q)

-- what is there seen through a reference, or is missing
pub none_of : {A : Type 0} {P Q : Type 0} (o : Option A) → (P → Q) → IfNone o P → IfNone o Q
none_of None step h = step h
none_of (Some x) step h = tt

-- what is different from false is true
told : (b : Bool) → (b ≡ true) ⊎ (b ≡ false)
told true = inl refl
told false = inr refl

-- names that tie are equal
same_name : (m n : List ℕ) → eq_by_cmp name_order m n ≡ true → m ≡ n
same_name m n e = names_apart m n (equal_of (name_order m n) e)

-- the rows of one new key without others below it
pub rows_leaf : (made : Entries) (name bytes : List ℕ) (time : ℕ) → row_at made [] ≡ Some (new_row name bytes time) → ((n : List ℕ) (rest : List (List ℕ)) → row_at made (n ∷ rest) ≡ None)
    → (further : List (List ℕ)) → length further ≡ 0 → (path : List (List ℕ)) → row_at made path ≡ branch_row name further bytes time path
rows_leaf made name bytes time here alone [] none [] = here
rows_leaf made name bytes time here alone [] none (m ∷ q) = alone m q
rows_leaf made name bytes time here alone (x ∷ further) none path = cc

-- the rows of a new key with a branch below it
pub rows_branch : (made leaf child : Entries) (name next bytes : List ℕ) (rest : List (List ℕ)) (time : ℕ) → row_at made [] ≡ Some (new_row name bytes time) → root_name child ≡ folded next
    → ((r : List (List ℕ)) → row_at made (root_name child ∷ r) ≡ row_at child r) → ((m : List ℕ) (r : List (List ℕ)) → eq_by_cmp name_order m (root_name child) ≡ false → row_at made (m ∷ r) ≡ row_at leaf (m ∷ r))
    → ((m : List ℕ) (r : List (List ℕ)) → row_at leaf (m ∷ r) ≡ None) → ((p : List (List ℕ)) → row_at child p ≡ branch_row next rest bytes time p)
    → (further : List (List ℕ)) → further ≡ next ∷ rest → (path : List (List ℕ)) → row_at made path ≡ branch_row name further bytes time path
rows_branch made leaf child name next bytes rest time here root below others alone rows further is [] = here
rows_branch made leaf child name next bytes rest time here root below others alone rows further is (m ∷ q) =
    rw is (elim (told (eq_by_cmp name_order m (folded next))) [
      | inl tied ↦
          let at : m ≡ folded next = same_name m (folded next) tied in
          ap (λ n. row_at made (n ∷ q)) (at ∙ sym root) ∙ below q ∙ rows q ∙ sym (ap (λ b. cond b (branch_row next rest bytes time q) None) tied)
      | inr apart ↦
          others m q (ap (eq_by_cmp name_order m) root ∙ apart) ∙ alone m q ∙ sym (ap (λ b. cond b (branch_row next rest bytes time q) None) apart)
    ])

-- so it is of what is made, if anything is
pub branches : {E : Type 0} (r : Result Entries E) (leaf child : Entries) (key : Row) (name next bytes : List ℕ) (rest further : List (List ℕ)) (time : ℕ) → key ≡ new_row name bytes time → root_name child ≡ folded next
    → ((m : List ℕ) (q : List (List ℕ)) → row_at leaf (m ∷ q) ≡ None) → ((p : List (List ℕ)) → row_at child p ≡ branch_row next rest bytes time p) → further ≡ next ∷ rest
    → IfOk r (λ made. row_at made [] ≡ Some key) → IfOk r (λ made. (q : List (List ℕ)) → row_at made (root_name child ∷ q) ≡ row_at child q)
    → IfOk r (λ made. (m : List ℕ) (q : List (List ℕ)) → eq_by_cmp name_order m (root_name child) ≡ false → row_at made (m ∷ q) ≡ row_at leaf (m ∷ q)) → IfOk r (λ made. (path : List (List ℕ)) → row_at made path ≡ branch_row name further bytes time path)
branches (Err e) leaf child key name next bytes rest further time is root alone rows whole here below others = tt
branches (Ok made) leaf child key name next bytes rest further time is root alone rows whole here below others = rows_branch made leaf child name next bytes rest time (here ∙ ap Some is) root below others alone rows further whole

-- and at any other path
pub others_step : (made self new old : Entries) (name : List ℕ) (rest : List (List ℕ)) (path : List (List ℕ)) → path ≡ name ∷ rest → row_at made [] ≡ row_at self [] → root_name new ≡ folded name
    → ((r : List (List ℕ)) → row_at made (root_name new ∷ r) ≡ row_at new r) → ((m : List ℕ) (r : List (List ℕ)) → eq_by_cmp name_order m (root_name new) ≡ false → row_at made (m ∷ r) ≡ row_at self (m ∷ r))
    → ((r : List (List ℕ)) → row_at self (folded name ∷ r) ≡ row_at old r) → ((q : List (List ℕ)) → begins_path (folded_path rest) q ≡ false → row_at new q ≡ row_at old q)
    → (q : List (List ℕ)) → begins_path (folded_path path) q ≡ false → row_at made q ≡ row_at self q
others_step made self new old name rest path is same root below others there inner [] apart = same
others_step made self new old name rest path is same root below others there inner (m ∷ q) apart =
    let off : (eq_by_cmp name_order m (folded name) && begins_path (folded_path rest) q) ≡ false = rw is at apart in
    elim (told (eq_by_cmp name_order m (folded name))) [
      | inl tied ↦
          let at : m ≡ folded name = same_name m (folded name) tied in
          let deeper : begins_path (folded_path rest) q ≡ false = sym (ap (λ b. b && begins_path (folded_path rest) q) tied) ∙ off in
          ap (λ n. row_at made (n ∷ q)) (at ∙ sym root) ∙ below q ∙ inner q deeper ∙ sym (there q) ∙ ap (λ n. row_at self (n ∷ q)) (sym at)
      | inr differs ↦ others m q (ap (eq_by_cmp name_order m) root ∙ differs)
    ]
