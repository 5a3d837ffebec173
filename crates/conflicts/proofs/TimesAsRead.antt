-- Which times rows have after operations on trees that are the same but for times, by what they had before: a row is
-- written in both, at the moment of each, or is in both what it was.
use Rattle.std.proofs.Common.{◌≡◌, ◌⊎◌, inl, inr, ℕ, ◌-◌, true, false, List, [], ◌∷◌, length, take, Option, Some, None, Result, Ok, Err, refl, sym, ◌∙◌, ap, subst}
use Rattle.std.specs.Prelude.{slice_get}
use Rattle.std.specs.Option.{option_map, option_and_then}
use Rattle.std.proofs.lemmas.Bool.{cases_eq}
use Rattle.reg_tree_parts.specs.Rows.{Row, ValueMap}
use Rattle.reg_tree_parts.specs.NewRows.{new_row}
use Rattle.reg_tree.specs.Maps.{TreeMap, row}
use Rattle.reg_tree.specs.Operations.{hive_of, touched, descriptor_of, tree_after}
use Rattle.reg_tree.specs.Judgement.{judged, changed, changed_if, applied, applied_one, applied_if}
use Rattle.reg_tree.specs.Times.{timeless, untimed}
use Rattle.reg_tree.specs.declared.op.Op.{Op}
use Rattle.reg_tree.specs.declared.op.Legality.{Legality}
use Rattle.reg_tree.specs.declared.op.Legality.TheVariants.{Legal, Opened}
use Rattle.refusals.specs.declared.refusal.Refusal.{Refusal}
use Rattle.reg_tree.proofs.Times.{missing_same, judged_same, changed_same, mapped_same}
use Rattle.reg_tree.proofs.OthersStay.{hives_stay}
use Rattle.conflicts.proofs.OnSkeletons.{set_here}
use Rattle.conflicts.proofs.Effects.{Deed, done, deed, its, way, depth_of, home_descriptor, edited, twice, row_done}

-- the row at a path of a hive's tree
abbrev pub at_path : Option TreeMap → List (List ℕ) → Option Row
at_path o path = option_and_then (λ tree. row tree path) o

module _ (m n : ℕ) where
  abbrev pub IsTold : Option Row → Option Row → Option Row → Option Row → Type 0
  IsTold was other a b = ((key : Option Row) × (a ≡ option_map (touched m) key) × (b ≡ option_map (touched n) key)) ⊎ ((a ≡ was) × (b ≡ other))

  -- What an operation makes of such rows

  abbrev with_edit : (ValueMap → ValueMap) → Option Row → Option Row
  with_edit edit o = option_map (edited edit) o

  abbrev edited_at : (ValueMap → ValueMap) → ℕ → Option Row → Option Row
  edited_at edit k o = option_map (λ key. touched k (edited edit key)) o

  edited_is : (edit : ValueMap → ValueMap) (k : ℕ) (o : Option Row) → edited_at edit k o ≡ option_map (touched k) (with_edit edit o)
  edited_is edit k None = refl
  edited_is edit k (Some key) = refl

  edited_touched : (edit : ValueMap → ValueMap) (k : ℕ) (o : Option Row) → edited_at edit k (option_map (touched k) o) ≡ option_map (touched k) (with_edit edit o)
  edited_touched edit k None = refl
  edited_touched edit k (Some key) = refl

  edited_timeless : (edit : ValueMap → ValueMap) (k : ℕ) (o : Option Row) → edited_at edit k (option_map timeless o) ≡ edited_at edit k o
  edited_timeless edit k None = refl
  edited_timeless edit k (Some key) = refl

  touched_timeless : (k : ℕ) (o : Option Row) → option_map (touched k) (option_map timeless o) ≡ option_map (touched k) o
  touched_timeless k None = refl
  touched_timeless k (Some key) = refl

  module _ (was other : Option Row) (alike : option_map timeless was ≡ option_map timeless other) where
    told_touched : (a b : Option Row) → IsTold was other a b → IsTold was other (option_map (touched m) a) (option_map (touched n) b)
    told_touched a b h = elim h [
      | inl w ↦ inl (w.0, ap (option_map (touched m)) w.1 ∙ twice m w.0, ap (option_map (touched n)) w.2 ∙ twice n w.0)
      | inr s ↦ inl (was, ap (option_map (touched m)) s.0, ap (option_map (touched n)) s.1 ∙ sym (touched_timeless n other) ∙ ap (option_map (touched n)) (sym alike) ∙ touched_timeless n was)
    ]

    told_edited : (edit : ValueMap → ValueMap) (a b : Option Row) → IsTold was other a b → IsTold was other (edited_at edit m a) (edited_at edit n b)
    told_edited edit a b h = elim h [
      | inl w ↦ inl (with_edit edit w.0, ap (edited_at edit m) w.1 ∙ edited_touched edit m w.0, ap (edited_at edit n) w.2 ∙ edited_touched edit n w.0)
      | inr s ↦ inl (
        with_edit edit was,
        ap (edited_at edit m) s.0 ∙ edited_is edit m was,
        ap (edited_at edit n) s.1 ∙ sym (edited_timeless edit n other) ∙ ap (edited_at edit n) (sym alike) ∙ edited_timeless edit n was ∙ edited_is edit n was,
      )
    ]

    told_done : (x : Deed) (a b : Option Row) → IsTold was other a b → IsTold was other (done m x a) (done n x b)
    told_done (Deed.Makes true new name descriptor) a b h = told_touched a b h
    told_done (Deed.Makes false true name descriptor) a b h = inl (Some (new_row name descriptor 0), refl, refl)
    told_done (Deed.Makes false false name descriptor) a b h = h
    told_done (Deed.Removes true parent) a b h = inl (None, refl, refl)
    told_done (Deed.Removes false true) a b h = told_touched a b h
    told_done (Deed.Removes false false) a b h = h
    told_done (Deed.Edits true edit) a b h = told_edited edit a b h
    told_done (Deed.Edits false edit) a b h = h

-- an operation does the same to trees that are the same but for times
module _ (a b : TreeMap) (same : untimed a ≡ untimed b) (op : Op) where
  depth_is : depth_of a op ≡ depth_of b op
  depth_is = ap (λ gone. length (way op) - length gone) (missing_same a b same (way op))

  descriptors : (o p : Option Row) → option_map (λ (key : Row). key.descriptor) o ≡ option_map (λ (key : Row). key.descriptor) p → descriptor_of o ≡ descriptor_of p
  descriptors None None e = refl
  descriptors None (Some y) e = cc
  descriptors (Some x) None e = cc
  descriptors (Some x) (Some y) e = cc

  descriptor_is : home_descriptor a op ≡ home_descriptor b op
  descriptor_is =
      ap (λ d. descriptor_of (row a (take d (way op)))) depth_is
      ∙ descriptors (row a (take (depth_of b op) (way op))) (row b (take (depth_of b op) (way op))) (mapped_same a b same (λ (key : Row). key.descriptor) (λ key. refl) (take (depth_of b op) (way op)))

  pub its_same : (q : List (List ℕ)) → its a op q ≡ its b op q
  its_same q = λ i. deed op (depth_is i) (descriptor_is i) q

module _ (m n : ℕ) where
  -- a hive's trees are the same but for times, and have such rows
  abbrev pub AreTold : Option TreeMap → Option TreeMap → Option TreeMap → Option TreeMap → Type 0
  AreTold was other o p = (option_map untimed o ≡ option_map untimed p) × ((q : List (List ℕ)) → IsTold m n (at_path was q) (at_path other q) (at_path o q) (at_path p q))

  told_is : (was other a b x y : Option Row) → x ≡ a → y ≡ b → IsTold m n was other a b → IsTold m n was other x y
  told_is was other a b x y e f h = subst (λ z. IsTold m n was other z y) (sym e) (subst (λ z. IsTold m n was other a z) (sym f) h)

  alike_at : (was other : Option TreeMap) → option_map untimed was ≡ option_map untimed other → (q : List (List ℕ)) → option_map timeless (at_path was q) ≡ option_map timeless (at_path other q)
  alike_at None None e q = refl
  alike_at None (Some y) e q = cc
  alike_at (Some x) None e q = cc
  alike_at (Some x) (Some y) e q = let same : untimed x ≡ untimed y = cc in mapped_same x y same timeless (λ key. refl) q

  module _ (was other : Option TreeMap) (alike : option_map untimed was ≡ option_map untimed other) where
    told_changed : (a b : TreeMap) → untimed a ≡ untimed b → ((q : List (List ℕ)) → IsTold m n (at_path was q) (at_path other q) (row a q) (row b q)) → (op : Op) (q : List (List ℕ))
        → IsTold m n (at_path was q) (at_path other q) (row (changed a op m) q) (row (changed b op n) q)
    told_changed a b same all op q = subst (λ j. IsTold m n (at_path was q) (at_path other q) (row (changed a op m) q) (row (changed_if j (tree_after b op n) b) q)) (judged_same a b same op) (by_case (judged a op))
      where
        by_case : (j : Result Legality Refusal) → IsTold m n (at_path was q) (at_path other q) (row (changed_if j (tree_after a op m) a) q) (row (changed_if j (tree_after b op n) b) q)
        by_case (Ok Legal) = told_is (at_path was q) (at_path other q) (done m (its a op q) (row a q)) (done n (its a op q) (row b q)) _ _
            (row_done a op m q) (row_done b op n q ∙ ap (λ d. done n d (row b q)) (sym (its_same a b same op q)))
            (told_done m n (at_path was q) (at_path other q) (alike_at was other alike q) (its a op q) (row a q) (row b q) (all q))
        by_case (Ok Opened) = all q
        by_case (Err refusal) = all q

    hive_changed : (o p : Option TreeMap) (op : Op) → AreTold was other o p → AreTold was other (option_map (λ tree. changed tree op m) o) (option_map (λ tree. changed tree op n) p)
    hive_changed None None op h = h
    hive_changed None (Some b) op h = let e = h.0 in cc
    hive_changed (Some a) None op h = let e = h.0 in cc
    hive_changed (Some a) (Some b) op h =
        let e = h.0 in
        let same : untimed a ≡ untimed b = cc in
        (ap Some (changed_same a b same op m n), told_changed a b same h.1 op)

    -- Trees of all hives, by one of these

    applied_here : (xs : List TreeMap) (op : Op) (k : ℕ) → slice_get (applied_one xs op k) (hive_of op) ≡ option_map (λ tree. changed tree op k) (slice_get xs (hive_of op))
    applied_here xs op k = by_case (slice_get xs (hive_of op)) refl
      where
        by_case : (o : Option TreeMap) → slice_get xs (hive_of op) ≡ o → slice_get (applied_if xs o op k) (hive_of op) ≡ option_map (λ tree. changed tree op k) o
        by_case None e = e
        by_case (Some tree) e = set_here xs (hive_of op) (changed tree op k) tree e

    module _ (hive : ℕ) where
      one_more : (xs ys : List TreeMap) (op : Op) → AreTold was other (slice_get xs hive) (slice_get ys hive) → AreTold was other (slice_get (applied_one xs op m) hive) (slice_get (applied_one ys op n) hive)
      one_more xs ys op told = elim (cases_eq hive (hive_of op)) [
        | inl e ↦ subst (λ h. AreTold was other (slice_get (applied_one xs op m) h) (slice_get (applied_one ys op n) h)) (sym e)
            (subst (λ o. AreTold was other o (slice_get (applied_one ys op n) (hive_of op))) (sym (applied_here xs op m))
            (subst (λ p. AreTold was other (option_map (λ tree. changed tree op m) (slice_get xs (hive_of op))) p) (sym (applied_here ys op n))
            (hive_changed (slice_get xs (hive_of op)) (slice_get ys (hive_of op)) op (subst (λ h. AreTold was other (slice_get xs h) (slice_get ys h)) e told))))
        | inr ne ↦ subst (λ o. AreTold was other o (slice_get (applied_one ys op n) hive)) (sym (hives_stay xs op m hive ne))
            (subst (λ p. AreTold was other (slice_get xs hive) p) (sym (hives_stay ys op n hive ne)) told)
      ]

      all_told : (xs ys : List TreeMap) (ops : List Op) → AreTold was other (slice_get xs hive) (slice_get ys hive) → AreTold was other (slice_get (applied xs ops m) hive) (slice_get (applied ys ops n) hive)
      all_told xs ys [] told = told
      all_told xs ys (op ∷ ops) told = all_told (applied_one xs op m) (applied_one ys op n) ops (one_more xs ys op told)

  pub told : (xs ys : List TreeMap) (ops : List Op) (hive : ℕ) → option_map untimed (slice_get xs hive) ≡ option_map untimed (slice_get ys hive)
      → AreTold (slice_get xs hive) (slice_get ys hive) (slice_get (applied xs ops m) hive) (slice_get (applied ys ops n) hive)
  told xs ys ops hive alike = all_told (slice_get xs hive) (slice_get ys hive) alike hive xs ys ops (alike, λ q. inr (refl, refl))
