-- Children that are added to others.
use Rattle.std.proofs.Common.{◌≡◌, ℕ, List, [], ◌∷◌, ◌++◌, map, take, drop, Result, Ok, Err, OnOk, sym, ◌∙◌, ap, subst, append_assoc, append-nil}
use Rattle.std.specs.declared.sync.Arc.{Arc}
use Rattle.std.specs.declared.alloc.Global.{Global}
use Rattle.std.specs.Arc.{arc_value}
use Rattle.std.proofs.lemmas.List.{map-append}
use Rattle.persistent_map.specs.Listings.{entries_in, children_entries}
use Rattle.persistent_map.specs.Children.{ChildKind, IsChild, EachIsChild, AreChildren, IsMore}
use Rattle.persistent_map.proofs.Halves.{map-halves}
use Rattle.persistent_map.proofs.Steps.{entries_in-append, all_join, all_front, all_back}

-- what follows from what was done
pub on_ok : {A E : Type 0} {P Q : Type 0} (r : Result A E) → (P → Q) → OnOk r P → OnOk r Q
on_ok (Ok a) f done = f done
on_ok (Err e) f done = tt

module _ {A P : Type 0} (kind : ChildKind A P) where
  appended : (xs ys : List (Arc P Global)) → children_entries kind.list (xs ++ ys) ≡ children_entries kind.list xs ++ children_entries kind.list ys
  appended xs ys = ap (entries_in kind.list) (map-append arc_value xs ys) ∙ entries_in-append kind.list (map arc_value xs) (map arc_value ys)

  -- one child is added
  pub child_added : (es : List (List ℕ × A)) (child : Arc P Global) (old new : List (Arc P Global)) → new ≡ old ++ (child ∷ []) → kind.list (arc_value child) ≡ es → IsChild kind (arc_value child) → IsMore kind es old new
  child_added es child old new pushed holds is = (child ∷ [], (pushed, (append-nil (kind.list (arc_value child)) ∙ holds, (is, tt))))

  -- children of some entries and then of others are children of all
  pub added_join : (es fs gs : List (List ℕ × A)) (old mid new : List (Arc P Global)) → es ++ fs ≡ gs → IsMore kind es old mid → IsMore kind fs mid new → IsMore kind gs old new
  added_join es fs gs old mid new all m n = (
    m.0 ++ n.0,
    (
      n.1.0 ∙ ap (λ ws. ws ++ n.0) m.1.0 ∙ append_assoc old m.0 n.0,
      (
        appended m.0 n.0 ∙ ap (λ xs. xs ++ children_entries kind.list n.0) m.1.1.0 ∙ ap (λ ys. es ++ ys) n.1.1.0 ∙ all,
        subst (EachIsChild kind) (sym (map-append arc_value m.0 n.0)) (all_join kind (map arc_value m.0) (map arc_value n.0) m.1.1.1 n.1.1.1),
      ),
    ),
  )

  -- children that are added to nothing
  pub all_children : (es : List (List ℕ × A)) (old new : List (Arc P Global)) → old ≡ [] → IsMore kind es old new → AreChildren kind new
  all_children es old new none m = subst (AreChildren kind) (sym (m.1.0 ∙ ap (λ o. o ++ m.0) none)) m.1.1.1

  pub all_entries : (es : List (List ℕ × A)) (old new : List (Arc P Global)) → old ≡ [] → IsMore kind es old new → children_entries kind.list new ≡ es
  all_entries es old new none m = ap (children_entries kind.list) (m.1.0 ∙ ap (λ o. o ++ m.0) none) ∙ m.1.1.0

  -- the halves of children
  module _ (children front back : List (Arc P Global)) (h : ℕ) (f : front ≡ take h children) (b : back ≡ drop h children) where
    halves : map arc_value front ++ map arc_value back ≡ map arc_value children
    halves = ap (λ ps. map arc_value ps ++ map arc_value back) f ∙ ap (λ ps. map arc_value (take h children) ++ map arc_value ps) b ∙ map-halves arc_value h children

    pub halves_entries : children_entries kind.list front ++ children_entries kind.list back ≡ children_entries kind.list children
    halves_entries = sym (entries_in-append kind.list (map arc_value front) (map arc_value back)) ∙ ap (entries_in kind.list) halves

    module _ (are : AreChildren kind children) where
      pub front_children : AreChildren kind front
      front_children = all_front kind (map arc_value front) (map arc_value back) (subst (EachIsChild kind) (sym halves) are)

      pub back_children : AreChildren kind back
      back_children = all_back kind (map arc_value front) (map arc_value back) (subst (EachIsChild kind) (sym halves) are)
