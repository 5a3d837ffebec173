-- Which rows are at which paths after a node was replaced on a path.
use Rattle.std.proofs.Common.{◌≡◌, ℕ, Bool, true, false, ◌&&◌, ◌⊎◌, inl, inr, cond, List, [], ◌∷◌, ◌++◌, length, Option, Some, None, refl, sym, ◌∙◌, ap, subst, append-nil, arith, ◌-◌}
use Rattle.std.specs.Prelude.{nat_lt, slice_index_or}
use Rattle.std.proofs.lemmas.Bool.Decides.{nat_tests}
use Rattle.std.proofs.lemmas.List.{length-append, length-map}
use Rattle.reg_names.specs.Names.{folded, folded_path}
use Rattle.std.specs.Ordering.{eq_by_cmp}
use Rattle.std.specs.Option.{option_map}
use Rattle.reg_tree_parts.specs.Orders.{name_order, path_order}
use Rattle.reg_tree_parts.specs.Rows.{Row}
use Rattle.reg_tree_parts.specs.NewRows.{new_row}
use Rattle.reg_tree_parts.specs.Nodes.{Entries, row_at, begins_path, one_below, branch_row}
use mathlib.Core.Bool.{false≢true}
use Rattle.reg_tree.specs.Operations.{touched}
use Rattle.reg_tree.proofs.Paths.{same_name, swapped_name, longer_begins, begins_past, behind, begins_shorter, same_front, names_differ, not_one_below, same_parent, told, eq_self, name_self, begins-append, split_begins, longer_apart, unbegun_apart, one_below-append, split_below}

-- rows at paths
abbrev Rows : Type 0
Rows = List (List ℕ) → Option Row

-- nodes were replaced at a path: from there on the rows are as in the new node, all else as before
module _ (after before : Rows) (new node : Entries) (p : List (List ℕ)) (within : (r : List (List ℕ)) → after (p ++ r) ≡ row_at new r) (others : (q : List (List ℕ)) → begins_path p q ≡ false → after q ≡ before q) (was : (r : List (List ℕ)) → before (p ++ r) ≡ row_at node r) where
  -- if the new node has another row and the same subkeys
  pub edited : (key : Row) → row_at new [] ≡ Some key → ((n : List ℕ) (r : List (List ℕ)) → row_at new (n ∷ r) ≡ row_at node (n ∷ r)) → (q : List (List ℕ)) → after q ≡ cond (eq_by_cmp path_order q p) (Some key) (before q)
  edited key here below q = elim (told (begins_path p q)) [
    | inl on ↦ at (split_begins p q on).0 (split_begins p q on).1
    | inr off ↦ others q off ∙ sym (ap (λ b. cond b (Some key) (before q)) (unbegun_apart p q off))
  ]
    where
      at : (r : List (List ℕ)) → q ≡ p ++ r → after q ≡ cond (eq_by_cmp path_order q p) (Some key) (before q)
      at [] is =
          let same : q ≡ p = is ∙ append-nil p in
          ap after is ∙ within [] ∙ here ∙ sym (ap (λ b. cond b (Some key) (before q)) (ap (λ x. eq_by_cmp path_order x p) same ∙ eq_self p))
      at (n ∷ r) is =
          ap after is ∙ within (n ∷ r) ∙ below n r ∙ sym (was (n ∷ r)) ∙ ap before (sym is)
          ∙ sym (ap (λ b. cond b (Some key) (before q)) (ap (λ x. eq_by_cmp path_order x p) is ∙ longer_apart p n r))

  -- if the new node lacks a subkey under which there was nothing
  module _ (key : Row) (moment : ℕ) (n : List ℕ) (there : before p ≡ Some key) (here : row_at new [] ≡ Some (touched moment key)) (gone : (r : List (List ℕ)) → row_at new (n ∷ r) ≡ None)
      (kept : (m : List ℕ) (r : List (List ℕ)) → eq_by_cmp name_order m n ≡ false → row_at new (m ∷ r) ≡ row_at node (m ∷ r)) (empty : (m : List ℕ) (r : List (List ℕ)) → before (p ++ n ∷ m ∷ r) ≡ None) where
    -- the row that a deletion leaves, by whether the path is the deleted one's and whether it is its parent's
    left : Bool → Bool → List (List ℕ) → Option Row
    left same parent q = cond same None (cond parent (option_map (touched moment) (before q)) (before q))

    deleted_elsewhere : (q : List (List ℕ)) → begins_path p q ≡ false → after q ≡ left (eq_by_cmp path_order q (p ++ n ∷ [])) (one_below q (p ++ n ∷ [])) q
    unfolding left
    deleted_elsewhere q off =
        others q off
        ∙ sym (ap (λ b. left b (one_below q (p ++ n ∷ [])) q) (unbegun_apart (p ++ n ∷ []) q (begins_shorter p (n ∷ []) q off))
        ∙ ap (λ b. left false b q) not_parent)
      where
        not_parent : one_below q (p ++ n ∷ []) ≡ false
        not_parent = elim (told (one_below q (p ++ n ∷ []))) [
          | inl parent ↦
              let more = split_below q (p ++ n ∷ []) parent in
              let same : p ≡ q = same_parent p q n more.0 more.1 in
              absurd (false≢true (sym off ∙ ap (begins_path p) (sym same ∙ sym (append-nil p)) ∙ begins-append p []))
          | inr not_one ↦ not_one
        ]

    deleted_at : (r : List (List ℕ)) → after (p ++ r) ≡ left (eq_by_cmp path_order (p ++ r) (p ++ n ∷ [])) (one_below (p ++ r) (p ++ n ∷ [])) (p ++ r)
    unfolding left
    deleted_at [] =
        within [] ∙ here ∙ sym (ap (option_map (touched moment)) (ap before (append-nil p) ∙ there))
        ∙ sym (ap (λ b. left b (one_below (p ++ []) (p ++ n ∷ [])) (p ++ [])) (same_front p [] (n ∷ []))
        ∙ ap (λ b. left false b (p ++ [])) (ap (λ x. one_below x (p ++ n ∷ [])) (append-nil p) ∙ one_below-append p n))
    deleted_at (m ∷ r) =
        within (m ∷ r)
        ∙ below (told (eq_by_cmp name_order m n)) r
        ∙ sym (ap (λ b. left b (one_below (p ++ m ∷ r) (p ++ n ∷ [])) (p ++ m ∷ r)) (same_front p (m ∷ r) (n ∷ []))
        ∙ ap (λ b. left (eq_by_cmp path_order (m ∷ r) (n ∷ [])) b (p ++ m ∷ r)) (not_one_below p m r n))
      where
        below : (eq_by_cmp name_order m n ≡ true) ⊎ (eq_by_cmp name_order m n ≡ false) → (r : List (List ℕ)) → row_at new (m ∷ r) ≡ cond (eq_by_cmp path_order (m ∷ r) (n ∷ [])) None (before (p ++ m ∷ r))
        below (inl tied) [] =
            ap (λ x. row_at new (x ∷ [])) (same_name m n tied) ∙ gone []
            ∙ sym (ap (λ b. cond b None (before (p ++ m ∷ []))) (ap (λ x. eq_by_cmp path_order (x ∷ []) (n ∷ [])) (same_name m n tied) ∙ eq_self (n ∷ [])))
        below (inl tied) (k ∷ r) =
            ap (λ x. row_at new (x ∷ k ∷ r)) (same_name m n tied) ∙ gone (k ∷ r)
            ∙ sym (ap (λ b. cond b None (before (p ++ m ∷ k ∷ r))) (ap (λ x. eq_by_cmp path_order (x ∷ k ∷ r) (n ∷ [])) (same_name m n tied) ∙ longer_apart (n ∷ []) k r)
            ∙ ap (λ x. before (p ++ x ∷ k ∷ r)) (same_name m n tied) ∙ empty k r)
        below (inr apart) r =
            kept m r apart ∙ sym (was (m ∷ r))
            ∙ sym (ap (λ b. cond b None (before (p ++ m ∷ r))) (names_differ m n r [] apart))

    pub deleted : (q : List (List ℕ)) → after q ≡ cond (eq_by_cmp path_order q (p ++ n ∷ [])) None (cond (one_below q (p ++ n ∷ [])) (option_map (touched moment) (before q)) (before q))
    unfolding left
    deleted q = elim (told (begins_path p q)) [
      | inl on ↦ let more = split_begins p q on in subst (λ x. after x ≡ left (eq_by_cmp path_order x (p ++ n ∷ [])) (one_below x (p ++ n ∷ [])) x) (sym more.1) (deleted_at more.0)
      | inr off ↦ deleted_elsewhere q off
    ]

-- the rows of a branch: at each beginning of its further names a new row, and nothing else
branch_row-is : (name : List ℕ) (further : List (List ℕ)) (bytes : List ℕ) (time : ℕ) (r : List (List ℕ)) → branch_row name further bytes time r ≡ cond (begins_path r (folded_path further)) (Some (new_row (slice_index_or (name ∷ further) (length r) []) bytes time)) None
branch_row-is name further bytes time [] = refl
branch_row-is name [] bytes time (m ∷ r) = refl
branch_row-is name (next ∷ further) bytes time (m ∷ r) =
    ap (λ x. cond (eq_by_cmp name_order m (folded next)) x None) (branch_row-is next further bytes time r)
    ∙ both (eq_by_cmp name_order m (folded next)) (eq_by_cmp name_order (folded next) m) (swapped_name m (folded next)) (begins_path r (folded_path further))
  where
    both : (a b : Bool) → a ≡ b → (c : Bool) → cond a (cond c (Some (new_row (slice_index_or (next ∷ further) (length r) []) bytes time)) None) None ≡ cond (b && c) (Some (new_row (slice_index_or (next ∷ further) (length r) []) bytes time)) None
    both true b e c = ap (λ t. cond (t && c) (Some (new_row (slice_index_or (next ∷ further) (length r) []) bytes time)) None) e
    both false b e c = ap (λ t. cond (t && c) (Some (new_row (slice_index_or (next ∷ further) (length r) []) bytes time)) None) e

-- a branch was put below a node
module _ (after before : Rows) (new node branch : Entries) (front further : List (List ℕ)) (name bytes : List ℕ) (moment : ℕ) (key : Row)
    (within : (r : List (List ℕ)) → after (folded_path front ++ r) ≡ row_at new r) (others : (q : List (List ℕ)) → begins_path (folded_path front) q ≡ false → after q ≡ before q)
    (was : (r : List (List ℕ)) → before (folded_path front ++ r) ≡ row_at node r) (there : before (folded_path front) ≡ Some key)
    (here : row_at new [] ≡ Some (touched moment key)) (below : (r : List (List ℕ)) → row_at new (folded name ∷ r) ≡ row_at branch r) (kept : (m : List ℕ) (r : List (List ℕ)) → eq_by_cmp name_order m (folded name) ≡ false → row_at new (m ∷ r) ≡ row_at node (m ∷ r))
    (rows : (r : List (List ℕ)) → row_at branch r ≡ branch_row name further bytes moment r) (empty : (r : List (List ℕ)) → before (folded_path front ++ folded name ∷ r) ≡ None) where
  -- the row that a creation leaves, by whether the path is that of the last key that was there, and whether it is a new
  -- key's
  made : Bool → Bool → List (List ℕ) → Option Row
  made touched_path fresh q = cond touched_path (option_map (touched moment) (before q)) (cond fresh (Some (new_row (slice_index_or (front ++ name ∷ further) (length q - 1) []) bytes moment)) (before q))

  fresh_at : List (List ℕ) → Bool
  fresh_at q = begins_path q (folded_path front ++ folded name ∷ folded_path further) && nat_lt (length (folded_path front)) (length q)

  created_elsewhere : (q : List (List ℕ)) → begins_path (folded_path front) q ≡ false → after q ≡ made (eq_by_cmp path_order q (folded_path front)) (fresh_at q) q
  unfolding made fresh_at
  created_elsewhere q off =
      others q off
      ∙ sym (ap (λ b. made b (fresh_at q) q) (unbegun_apart (folded_path front) q off)
      ∙ ap (λ b. made false b q) (not_fresh (told (begins_path q (folded_path front ++ folded name ∷ folded_path further))) (told (nat_lt (length (folded_path front)) (length q)))))
    where
      not_fresh : (begins_path q (folded_path front ++ folded name ∷ folded_path further) ≡ true) ⊎ (begins_path q (folded_path front ++ folded name ∷ folded_path further) ≡ false)
          → (nat_lt (length (folded_path front)) (length q) ≡ true) ⊎ (nat_lt (length (folded_path front)) (length q) ≡ false)
          → (begins_path q (folded_path front ++ folded name ∷ folded_path further) && nat_lt (length (folded_path front)) (length q)) ≡ false
      not_fresh (inl on) (inl lt) = absurd (false≢true (sym off ∙ longer_begins (folded_path front) (folded name ∷ folded_path further) q on lt))
      not_fresh (inl on) (inr le) = ap (λ b. b && nat_lt (length (folded_path front)) (length q)) on ∙ le
      not_fresh (inr not_on) lt = ap (λ b. b && nat_lt (length (folded_path front)) (length q)) not_on

  created_at : (r : List (List ℕ)) → after (folded_path front ++ r) ≡ made (eq_by_cmp path_order (folded_path front ++ r) (folded_path front)) (fresh_at (folded_path front ++ r)) (folded_path front ++ r)
  unfolding made fresh_at
  created_at [] =
      within [] ∙ here ∙ sym (ap (option_map (touched moment)) (ap before (append-nil (folded_path front)) ∙ there))
      ∙ sym (ap (λ b. made b (fresh_at (folded_path front ++ [])) (folded_path front ++ [])) (ap (λ x. eq_by_cmp path_order x (folded_path front)) (append-nil (folded_path front)) ∙ eq_self (folded_path front)))
  created_at (m ∷ r) =
      within (m ∷ r)
      ∙ under (told (eq_by_cmp name_order m (folded name)))
      ∙ sym (ap (λ b. made b (fresh_at (folded_path front ++ m ∷ r)) (folded_path front ++ m ∷ r)) (longer_apart (folded_path front) m r)
      ∙ ap (λ b. made false b (folded_path front ++ m ∷ r)) fresh_is)
    where
      longer : nat_lt (length (folded_path front)) (length (folded_path front ++ m ∷ r)) ≡ true
      longer = grind (arith, nat_tests, length-append (folded_path front) (m ∷ r))

      and_true : (b : Bool) → (b && true) ≡ b
      and_true true = refl
      and_true false = refl

      fresh_is : (begins_path (folded_path front ++ m ∷ r) (folded_path front ++ folded name ∷ folded_path further) && nat_lt (length (folded_path front)) (length (folded_path front ++ m ∷ r))) ≡ (eq_by_cmp name_order (folded name) m && begins_path r (folded_path further))
      fresh_is = ap (λ b. begins_path (folded_path front ++ m ∷ r) (folded_path front ++ folded name ∷ folded_path further) && b) longer ∙ and_true _ ∙ begins_past (folded_path front) (m ∷ r) (folded name ∷ folded_path further)

      place : slice_index_or (front ++ name ∷ further) (length (folded_path front ++ m ∷ r) - 1) [] ≡ slice_index_or (name ∷ further) (length r) []
      place = ap (λ n. slice_index_or (front ++ name ∷ further) n []) (omega (arith, length-append (folded_path front) (m ∷ r), length-map front folded)) ∙ behind front (name ∷ further) (length r) []

      under : (eq_by_cmp name_order m (folded name) ≡ true) ⊎ (eq_by_cmp name_order m (folded name) ≡ false)
          → row_at new (m ∷ r) ≡ cond (eq_by_cmp name_order (folded name) m && begins_path r (folded_path further)) (Some (new_row (slice_index_or (front ++ name ∷ further) (length (folded_path front ++ m ∷ r) - 1) []) bytes moment)) (before (folded_path front ++ m ∷ r))
      under (inl tied) =
          ap (λ x. row_at new (x ∷ r)) (same_name m (folded name) tied) ∙ below r ∙ rows r ∙ branch_row-is name further bytes moment r
          ∙ sym (ap (λ b. cond (b && begins_path r (folded_path further)) (Some (new_row (slice_index_or (front ++ name ∷ further) (length (folded_path front ++ m ∷ r) - 1) []) bytes moment)) (before (folded_path front ++ m ∷ r))) (ap (λ x. eq_by_cmp name_order (folded name) x) (same_name m (folded name) tied) ∙ name_self (folded name))
          ∙ ap (λ x. cond (begins_path r (folded_path further)) (Some (new_row x bytes moment)) (before (folded_path front ++ m ∷ r))) place
          ∙ ap (λ x. cond (begins_path r (folded_path further)) (Some (new_row (slice_index_or (name ∷ further) (length r) []) bytes moment)) x) (ap (λ x. before (folded_path front ++ x ∷ r)) (same_name m (folded name) tied) ∙ empty r))
      under (inr apart) =
          kept m r apart ∙ sym (was (m ∷ r))
          ∙ sym (ap (λ b. cond (b && begins_path r (folded_path further)) (Some (new_row (slice_index_or (front ++ name ∷ further) (length (folded_path front ++ m ∷ r) - 1) []) bytes moment)) (before (folded_path front ++ m ∷ r))) (sym (swapped_name m (folded name)) ∙ apart))

  pub created : (q : List (List ℕ)) → after q ≡ cond (eq_by_cmp path_order q (folded_path front)) (option_map (touched moment) (before q)) (cond (begins_path q (folded_path front ++ folded name ∷ folded_path further) && nat_lt (length (folded_path front)) (length q)) (Some (new_row (slice_index_or (front ++ name ∷ further) (length q - 1) []) bytes moment)) (before q))
  unfolding made fresh_at
  created q = elim (told (begins_path (folded_path front) q)) [
    | inl on ↦ let more = split_begins (folded_path front) q on in subst (λ x. after x ≡ made (eq_by_cmp path_order x (folded_path front)) (fresh_at x) x) (sym more.1) (created_at more.0)
    | inr off ↦ created_elsewhere q off
  ]
