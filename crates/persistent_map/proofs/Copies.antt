-- Pointers to the same things.
use Rattle.std.proofs.Common.{◌≡◌, ℕ, ◌+◌, List, [], ◌∷◌, ◌++◌, ◌-◌, map, take, drop, length, refl, ◌∙◌, ap, append_assoc, arith, length-drop}
use Rattle.std.proofs.lemmas.List.{map-append}
use Rattle.std.specs.List.{AllZip, AppendsClones}
use Rattle.std.specs.declared.sync.Arc.{Arc}
use Rattle.std.specs.declared.alloc.Global.{Global}
use Rattle.std.specs.Arc.{arc_value}
use Rattle.persistent_map.proofs.SortedLists.{whole}

same_values : {T : Type 0} (xs ys : List (Arc T Global)) → AllZip (λ c d. arc_value d ≡ arc_value c) xs ys → map arc_value ys ≡ map arc_value xs
same_values [] [] all = refl
same_values [] (y ∷ ys) all = absurd all
same_values (x ∷ xs) [] all = absurd all
same_values (x ∷ xs) (y ∷ ys) all = ap (λ v. v ∷ map arc_value ys) all.0 ∙ ap (λ vs. arc_value x ∷ vs) (same_values xs ys all.1)

-- added to others
pub added_values : {T : Type 0} (old new more : List (Arc T Global)) → AppendsClones (λ c d. arc_value d ≡ arc_value c) old new more → map arc_value new ≡ map arc_value old ++ map arc_value more
added_values old new more added = ap (map arc_value) added.1 ∙ map-append arc_value old added.0 ∙ ap (λ vs. map arc_value old ++ vs) (same_values more added.0 added.2)

-- those before an index, more, and those after the index
pub spliced : {T : Type 0} (items front mid new more : List (Arc T Global)) (i : ℕ) → map arc_value front ≡ map arc_value (take i items) → mid ≡ front ++ more → map arc_value new ≡ map arc_value mid ++ map arc_value (take (length items - (i + 1)) (drop (i + 1) items)) → map arc_value new ≡ map arc_value (take i items) ++ (map arc_value more ++ map arc_value (drop (i + 1) items))
spliced items front mid new more i first second third =
    third ∙ ap (λ xs. map arc_value mid ++ map arc_value xs) (whole (drop (i + 1) items) (length items - (i + 1)) (omega (arith, length-drop (i + 1) items)))
    ∙ ap (λ vs. vs ++ map arc_value (drop (i + 1) items)) (ap (map arc_value) second ∙ map-append arc_value front more ∙ ap (λ vs. vs ++ map arc_value more) first)
    ∙ append_assoc (map arc_value (take i items)) (map arc_value more) (map arc_value (drop (i + 1) items))
