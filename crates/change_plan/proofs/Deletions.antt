-- What a legal deletion of a key leaves, and why it is refused.
use Rattle.std.proofs.Common.{◌≡◌, ◌⊎◌, inl, inr, ℕ, zero, suc, cond, List, [], ◌∷◌, length, Option, Some, None, Result, Ok, Err, slice_get, slice_set, refl, sym, ◌∙◌, ap}
use Rattle.std.specs.FinMap as finite
use Rattle.std.specs.Option.{option_map, option_and_then}
use Rattle.refusals.specs.declared.refusal.Refusal.{Refusal}
use Rattle.refusals.specs.declared.refusal.Refusal.TheVariants.{NotFound}
use Rattle.reg_names.specs.Names.{folded_path}
use Rattle.reg_tree_parts.specs.Rows.{Row}
use Rattle.reg_tree_parts.specs.Nodes.{one_below}
use Rattle.reg_tree.specs.Maps.{TreeMap, row, subkeys, weight}
use Rattle.reg_tree.specs.Reads.{info_of}
use Rattle.reg_tree.specs.Operations.{touched, tree_after}
use Rattle.reg_tree.specs.Judgement.{applied_if, applied_one, changed, changed_if, judged, judged_delete, judged_there, legal, legal_after, legal_if}
use Rattle.reg_tree.specs.TreeLists.{info_in, subkeys_at, subkeys_in}
use Rattle.reg_tree.specs.declared.op.Op.{Op}
use Rattle.reg_tree.specs.declared.op.Op.TheVariants.{DeleteKey}
use Rattle.reg_tree.specs.declared.op.Legality.{Legality}
use Rattle.reg_tree.specs.declared.op.Legality.TheVariants.{Legal, Opened}
use Rattle.reg_tree.proofs.Paths.{eq_self}
use Rattle.reg_tree.proofs.TreesAfter.{row-tree_after}
use Rattle.change_plan.specs.Removals.{IsGone}

-- a legal deletion may be carried out
judged_so : (hive : ℕ) (path : List (List ℕ)) (judgement : Result Legality Refusal) (heavy : ℕ) → legal_after (DeleteKey hive path) judgement heavy ≡ Ok Legal → judgement ≡ Ok Legal
judged_so hive path (Err why) heavy h = absurd (let no : ⊥ = cc in no)
judged_so hive path (Ok Opened) heavy h = absurd (let no : ⊥ = cc in no)
judged_so hive path (Ok Legal) heavy h = refl

-- the key isn't in the tree after it
none_there : (tree : TreeMap) (hive : ℕ) (path : List (List ℕ)) (moment : ℕ) → judged tree (DeleteKey hive path) ≡ Ok Legal → row (changed tree (DeleteKey hive path) moment) (folded_path path) ≡ None
none_there tree hive path moment h =
    let p = folded_path path in
    ap (λ j. row (changed_if j (tree_after tree (DeleteKey hive path) moment) tree) p) h
    ∙ row-tree_after tree (DeleteKey hive path) moment p
    ∙ ap (λ b. cond b None (cond (one_below p p) (option_map (touched moment) (row tree p)) (row tree p))) (eq_self p)

-- what is set where something was is there
set_here : {A : Type 0} (xs : List A) (i : ℕ) (x y : A) → slice_get xs i ≡ Some y → slice_get (slice_set xs i x) i ≡ Some x
set_here [] i x y there = absurd (let no : ⊥ = cc in no)
set_here (z ∷ xs) zero x y there = refl
set_here (z ∷ xs) (suc i) x y there = set_here xs i x y there

pub gone : (trees : List TreeMap) (hive : ℕ) (path : List (List ℕ)) (moment : ℕ) → legal trees (DeleteKey hive path) ≡ Ok Legal → IsGone (applied_one trees (DeleteKey hive path) moment) hive path
gone trees hive path moment h = by_tree (slice_get trees hive) refl
  where
    op : Op
    op = DeleteKey hive path

    by_tree : (o : Option TreeMap) → slice_get trees hive ≡ o → IsGone (applied_one trees op moment) hive path
    by_tree None found = absurd (let no : ⊥ = let told : Err NotFound ≡ Ok Legal = sym (ap (λ t. legal_if t op) found) ∙ h in cc in no)
    by_tree (Some tree) found =
        let judgement : judged tree op ≡ Ok Legal = judged_so hive path (judged tree op) (weight (changed tree op 0)) (sym (ap (λ t. legal_if t op) found) ∙ h) in
        ap (λ t. info_in (applied_if trees t op moment) hive (folded_path path)) found
        ∙ ap (option_and_then (λ t. info_of t (folded_path path))) (set_here trees hive (changed tree op moment) tree found)
        ∙ ap (option_map (λ (key : Row). record { subkeys = length (subkeys (changed tree op moment) (folded_path path)); values = finite.len key.values; time = key.time })) (none_there tree hive path moment judgement)

-- a deletion of a key that isn't there isn't legal
pub not_legal : (trees : List TreeMap) (hive : ℕ) (path : List (List ℕ)) → subkeys_in trees hive (folded_path path) ≡ None → (legal trees (DeleteKey hive path) ≡ Err NotFound) ⊎ (path ≡ [])
not_legal trees hive [] missing = inr refl
not_legal trees hive (name ∷ path) missing = inl (by_tree (slice_get trees hive) refl)
  where
    op : Op
    op = DeleteKey hive (name ∷ path)

    by_row : (tree : TreeMap) (o : Option Row) → row tree (folded_path (name ∷ path)) ≡ o → option_map (λ (key : Row). subkeys tree (folded_path (name ∷ path))) o ≡ None → legal_after op (judged tree op) (weight (changed tree op 0)) ≡ Err NotFound
    by_row tree None at gone = ap (λ o. legal_after op (judged_there o (λ key. judged_delete key.flags (subkeys tree (folded_path (name ∷ path))))) (weight (changed tree op 0))) at
    by_row tree (Some key) at gone = absurd (let no : ⊥ = cc in no)

    by_tree : (o : Option TreeMap) → slice_get trees hive ≡ o → legal trees op ≡ Err NotFound
    by_tree None found = ap (λ t. legal_if t op) found
    by_tree (Some tree) found =
        ap (λ t. legal_if t op) found
        ∙ by_row tree (row tree (folded_path (name ∷ path))) refl (sym (ap (option_and_then (λ t. subkeys_at t (folded_path (name ∷ path)))) found) ∙ missing)
