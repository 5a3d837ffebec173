-- Why a removal is refused, seen from before the deletions that were made, and from the key above.
use Rattle.std.proofs.Common.{◌≡◌, ◌≢◌, ◌⊎◌, inl, inr, ℕ, true, List, [], ◌∷◌, ◌++◌, Err, sym, ◌∙◌, ap, subst, arith}
use Rattle.std.specs.List.{All}
use Rattle.std.proofs.lemmas.List.{map-append}
use Rattle.std.proofs.lemmas.List.Elements.{All-append}
use Rattle.refusals.specs.declared.refusal.Refusal.{Refusal}
use Rattle.refusals.specs.declared.refusal.Refusal.TheVariants.{NoMemory, NotFound}
use Rattle.reg_names.specs.Names.{folded, folded_path}
use Rattle.reg_tree_parts.specs.Nodes.{begins_path}
use Rattle.reg_tree.specs.Maps.{TreeMap}
use Rattle.reg_tree.specs.Reads.{IsMissingOrNoMemory}
use Rattle.reg_tree.specs.Judgement.{applied, legal}
use Rattle.reg_tree.specs.TreeLists.{subkeys_in}
use Rattle.reg_tree.specs.declared.op.Op.{Op}
use Rattle.reg_tree.specs.declared.op.Op.TheVariants.{DeleteKey}
use Rattle.store_model.specs.Invariant.{AreLegalChanges}
use Rattle.change_plan.specs.declared.extension.Extension.{Extension}
use Rattle.change_plan.specs.Edits.{DeletesBelow, HasSubkey, RemovalRefused, is_root, is_kept, is_unnamed, is_deep}
use Rattle.change_plan.specs.Removals.{ChildRefused, DeletesMore}
use Rattle.change_plan.proofs.Sequences.{all_below_parent, applied_on, begins_self, front_begins, legal_on}
use Rattle.change_plan.proofs.Deletions.{not_legal}

-- memory is lacking, or the removal is refused
abbrev pub Refuses : List TreeMap → ℕ → ℕ → List (List ℕ) → Refusal → Type 0
Refuses trees moment hive path why = (why ≡ NoMemory) ⊎ RemovalRefused trees moment hive path why

pub missing_refuses : (trees : List TreeMap) (moment hive : ℕ) (path : List (List ℕ)) (why : Refusal) → path ≢ [] → IsMissingOrNoMemory (subkeys_in trees hive (folded_path path)) why → Refuses trees moment hive path why
missing_refuses trees moment hive path why some (inr lacking) = inl lacking
missing_refuses trees moment hive path why some (inl missing) = by_case (not_legal trees hive path missing.0)
  where
    by_case : (legal trees (DeleteKey hive path) ≡ Err NotFound) ⊎ (path ≡ []) → Refuses trees moment hive path why
    by_case (inr none) = absurd (some none)
    by_case (inl refused) = inr (is_kept why [] path tt (λ k d lt. absurd (let no : ⊥ = omega (arith, lt) in no)) (begins_self path) (refused ∙ ap Err (sym missing.1)))

pub own_refuses : (first between : Extension) (moment hive : ℕ) (path copy : List (List ℕ)) (why : Refusal) → copy ≡ path → DeletesMore first moment hive path between → (legal between.view (DeleteKey hive copy) ≡ Err why) ⊎ (why ≡ NoMemory)
    → Refuses first.view moment hive path why
own_refuses first between moment hive path copy why same more (inr lacking) = inl lacking
own_refuses first between moment hive path copy why same more (inl refused) =
    inr (is_kept why more.more path more.legal more.below (begins_self path) (ap (λ trees. legal trees (DeleteKey hive path)) (sym more.view) ∙ ap (λ p. legal between.view (DeleteKey hive p)) (sym same) ∙ refused))

pub later_refuses : (first between : Extension) (moment hive : ℕ) (path : List (List ℕ)) (why : Refusal) → DeletesMore first moment hive path between → Refuses between.view moment hive path why → Refuses first.view moment hive path why
later_refuses first between moment hive path why more (inl lacking) = inl lacking
later_refuses first between moment hive path why more (inr refused) = inr (by_cause why refused)
  where
    legal_both : (ops : List Op) → AreLegalChanges between.view ops moment → AreLegalChanges first.view (more.more ++ ops) moment
    legal_both ops are_legal = legal_on first.view more.more ops moment more.legal (subst (λ trees. AreLegalChanges trees ops moment) more.view are_legal)

    below_both : (ops : List Op) → All (DeletesBelow hive path) ops → All (DeletesBelow hive path) (more.more ++ ops)
    below_both ops below = All-append (DeletesBelow hive path) more.more ops more.below below

    trees_both : (ops : List Op) → applied first.view (more.more ++ ops) moment ≡ applied between.view ops moment
    trees_both ops = applied_on first.view more.more ops moment ∙ ap (λ trees. applied trees ops moment) (sym more.view)

    by_cause : (why : Refusal) → RemovalRefused between.view moment hive path why → RemovalRefused first.view moment hive path why
    by_cause _ (is_root root) = is_root root
    by_cause why (is_kept _ ops kept are_legal below on not_kept) =
        is_kept why (more.more ++ ops) kept (legal_both ops are_legal) (below_both ops below) on (ap (λ trees. legal trees (DeleteKey hive kept)) (trees_both ops) ∙ not_kept)
    by_cause _ (is_unnamed ops way name are_legal below on has none) =
        is_unnamed (more.more ++ ops) way name (legal_both ops are_legal) (below_both ops below) on (subst (λ trees. HasSubkey trees hive way name) (sym (trees_both ops)) has) none
    by_cause _ (is_deep ops way name are_legal below on has deep) =
        is_deep (more.more ++ ops) way name (legal_both ops are_legal) (below_both ops below) on (subst (λ trees. HasSubkey trees hive way name) (sym (trees_both ops)) has) deep

pub child_refuses : (trees : List TreeMap) (moment hive : ℕ) (path : List (List ℕ)) (name : List ℕ) (why : Refusal) → Refuses trees moment hive (path ++ name ∷ []) why → Refuses trees moment hive path why
child_refuses trees moment hive path name why (inl lacking) = inl lacking
child_refuses trees moment hive path name why (inr refused) = inr (by_cause why refused)
  where
    on_path : (way : List (List ℕ)) → begins_path (folded_path (path ++ name ∷ [])) (folded_path way) ≡ true → begins_path (folded_path path) (folded_path way) ≡ true
    on_path way on = front_begins (folded_path path) (folded_path (name ∷ [])) (folded_path way) (ap (λ p. begins_path p (folded_path way)) (sym (map-append folded path (name ∷ []))) ∙ on)

    not_root : (path : List (List ℕ)) → path ++ name ∷ [] ≡ [] → ⊥
    not_root [] e = cc
    not_root (n ∷ path) e = cc

    by_cause : (why : Refusal) → RemovalRefused trees moment hive (path ++ name ∷ []) why → RemovalRefused trees moment hive path why
    by_cause _ (is_root root) = absurd (not_root path root)
    by_cause why (is_kept _ ops kept are_legal below on not_kept) = is_kept why ops kept are_legal (all_below_parent hive path name ops below) (on_path kept on) not_kept
    by_cause _ (is_unnamed ops way other are_legal below on has none) = is_unnamed ops way other are_legal (all_below_parent hive path name ops below) (on_path way on) has none
    by_cause _ (is_deep ops way other are_legal below on has deep) = is_deep ops way other are_legal (all_below_parent hive path name ops below) (on_path way on) has deep

-- the refusal of a subkey is one of the key above it, which has that subkey
pub subkey_refuses : (first between : Extension) (moment hive : ℕ) (path : List (List ℕ)) (name : List ℕ) (why : Refusal) → HasSubkey first.view hive path name → DeletesMore first moment hive path between
    → (why ≡ NoMemory) ⊎ (ChildRefused path name why ⊎ RemovalRefused between.view moment hive path why) → Refuses first.view moment hive path why
subkey_refuses first between moment hive path name why has more (inl lacking) = inl lacking
subkey_refuses first between moment hive path name why has more (inr (inl (inl bad))) =
    inr (subst (RemovalRefused first.view moment hive path) (sym bad.0) (is_unnamed [] path name tt no_ops (begins_self path) has bad.1))
  where
    no_ops : All (DeletesBelow hive path) []
    no_ops k d lt = absurd (let no : ⊥ = omega (arith, lt) in no)
subkey_refuses first between moment hive path name why has more (inr (inl (inr deep))) =
    inr (subst (RemovalRefused first.view moment hive path) (sym deep.0) (is_deep [] path name tt no_ops (begins_self path) has deep.1))
  where
    no_ops : All (DeletesBelow hive path) []
    no_ops k d lt = absurd (let no : ⊥ = omega (arith, lt) in no)
subkey_refuses first between moment hive path name why has more (inr (inr refused)) = later_refuses first between moment hive path why more (inr refused)
