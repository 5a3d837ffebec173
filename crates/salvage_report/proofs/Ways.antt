-- Paths that others begin.
use Rattle.std.proofs.Common.{arith, ◌==◌, length, ◌≡◌, ℕ, Bool, true, false, ◌&&◌, ◌||◌, List, [], ◌∷◌, ◌++◌, refl, sym, ◌∙◌, ap}
use Rattle.std.proofs.lemmas.Bool.Decides.{nat_tests}
use Rattle.std.specs.Ordering.{eq_by_cmp}
use Rattle.std.specs.Cmp.{eq_by_cmp_equiv}
use Rattle.std.proofs.lemmas.List.{map-append}
use Rattle.reg_names.specs.Names.{folded, folded_path}
use Rattle.reg_tree_parts.specs.Orders.{name_order}
use Rattle.reg_tree_parts.specs.Nodes.{begins_path}
use Rattle.reg_tree_parts.proofs.Keys.{names_total}
use Rattle.salvage_report.specs.Told.{same_path}

begins_none : (path : List (List ℕ)) → begins_path path [] ≡ same_path path []
begins_none [] = refl
begins_none (n ∷ path) = refl

shared : (a b c : Bool) → (a && (b || c)) ≡ ((a && b) || (a && c))
shared true b c = refl
shared false b c = refl

-- a path begins a longer one if it begins what stands before the last name, or is the whole
begins_end : (path other : List (List ℕ)) (m : List ℕ) → begins_path path (other ++ m ∷ []) ≡ (begins_path path other || same_path path (other ++ m ∷ []))
begins_end [] other m = refl
begins_end (n ∷ path) [] m = ap (λ b. eq_by_cmp name_order m n && b) (begins_none path)
begins_end (n ∷ path) (o ∷ other) m =
    ap (λ b. eq_by_cmp name_order o n && b) (begins_end path other m) ∙ shared (eq_by_cmp name_order o n) (begins_path path other) (same_path path (other ++ m ∷ []))

never_longer : (other : List (List ℕ)) (m : List ℕ) → same_path [] (other ++ m ∷ []) ≡ false
never_longer [] m = refl
never_longer (o ∷ other) m = refl

never_shorter : (path : List (List ℕ)) (n : List ℕ) → same_path (path ++ n ∷ []) [] ≡ false
never_shorter [] n = refl
never_shorter (o ∷ path) n = refl

and_false : (a : Bool) → (a && false) ≡ false
and_false true = refl
and_false false = refl

turned : (a b c : Bool) → (a && (b && c)) ≡ (b && (a && c))
turned true true c = refl
turned true false c = refl
turned false true c = refl
turned false false c = refl

-- paths are the same if their last names are, and what stands before them
same_end : (path other : List (List ℕ)) (n m : List ℕ) → same_path (path ++ n ∷ []) (other ++ m ∷ []) ≡ (eq_by_cmp name_order m n && same_path path other)
same_end [] [] n m = refl
same_end [] (o ∷ other) n m =
    ap (λ b. eq_by_cmp name_order o n && b) (never_longer other m) ∙ and_false (eq_by_cmp name_order o n) ∙ sym (and_false (eq_by_cmp name_order m n))
same_end (p ∷ path) [] n m =
    ap (λ b. eq_by_cmp name_order m p && b) (never_shorter path n) ∙ and_false (eq_by_cmp name_order m p) ∙ sym (and_false (eq_by_cmp name_order m n))
same_end (p ∷ path) (o ∷ other) n m =
    ap (λ b. eq_by_cmp name_order o p && b) (same_end path other n m) ∙ turned (eq_by_cmp name_order o p) (eq_by_cmp name_order m n) (same_path path other)

pub begins_root : (path : List (List ℕ)) → (length path == 0) ≡ begins_path (folded_path path) []
begins_root [] = refl
begins_root (n ∷ path) = grind (arith, nat_tests)

pub same_root : (path : List (List ℕ)) → (length path == 0) ≡ same_path (folded_path path) []
same_root [] = refl
same_root (n ∷ path) = grind (arith, nat_tests)

-- the same of names as they are spelled
pub begins_below : (path above : List (List ℕ)) (name : List ℕ) (b c : Bool) → b ≡ begins_path (folded_path path) (folded_path above) → c ≡ same_path (folded_path path) (folded_path (above ++ name ∷ []))
    → (b || c) ≡ begins_path (folded_path path) (folded_path (above ++ name ∷ []))
begins_below path above name b c at whole =
    (λ i. at i || whole i)
    ∙ ap (λ p. begins_path (folded_path path) (folded_path above) || same_path (folded_path path) p) (map-append folded above (name ∷ []))
    ∙ sym (begins_end (folded_path path) (folded_path above) (folded name))
    ∙ ap (begins_path (folded_path path)) (sym (map-append folded above (name ∷ [])))

pub leads_below : (names front above : List (List ℕ)) (last name : List ℕ) → names ≡ front ++ last ∷ []
    → same_path (folded_path names) (folded_path (above ++ name ∷ [])) ≡ (eq_by_cmp name_order (folded name) (folded last) && same_path (folded_path front) (folded_path above))
leads_below names front above last name parted =
    ap (λ p. same_path (folded_path p) (folded_path (above ++ name ∷ []))) parted
    ∙ (λ i. same_path (map-append folded front (last ∷ []) i) (map-append folded above (name ∷ []) i))
    ∙ same_end (folded_path front) (folded_path above) (folded last) (folded name)

-- the same the other way round
same_turned : (path other : List (List ℕ)) → same_path path other ≡ same_path other path
same_turned [] [] = refl
same_turned [] (m ∷ other) = refl
same_turned (n ∷ path) [] = refl
same_turned (n ∷ path) (m ∷ other) = let rest = same_turned path other in λ i. (eq_by_cmp_equiv names_total).symm m n i && rest i

and_first : (a b : Bool) → (a && b) ≡ true → a ≡ true
and_first true b e = refl
and_first false b e = e

and_second : (a b : Bool) → (a && b) ≡ true → b ≡ true
and_second true b e = e
and_second false b e = absurd (let no : ⊥ = cc in no)

both_true : (a b : Bool) → a ≡ true → b ≡ true → (a && b) ≡ true
both_true a b e f = (λ i. e i && f i)

-- a path begins itself
same_begins : (path other : List (List ℕ)) → same_path path other ≡ true → begins_path path other ≡ true
same_begins [] other e = refl
same_begins (n ∷ path) [] e = e
same_begins (n ∷ path) (m ∷ other) e = both_true _ _ (and_first (eq_by_cmp name_order m n) (same_path path other) e) (same_begins path other (and_second (eq_by_cmp name_order m n) (same_path path other) e))

pub same_above : (names way : List (List ℕ)) → same_path (folded_path names) (folded_path way) ≡ true → begins_path (folded_path way) (folded_path names) ≡ true
same_above names way e = same_begins (folded_path way) (folded_path names) (same_turned (folded_path way) (folded_path names) ∙ e)

or_false : (a : Bool) → a ≡ (a || false)
or_false true = refl
or_false false = refl

-- another path than a whole one begins it if it begins what stands before the last name
pub above_front : (names front way : List (List ℕ)) (last : List ℕ) → names ≡ front ++ last ∷ [] → same_path (folded_path names) (folded_path way) ≡ false
    → begins_path (folded_path way) (folded_path front) ≡ begins_path (folded_path way) (folded_path names)
above_front names front way last parted apart =
    or_false (begins_path (folded_path way) (folded_path front))
    ∙ ap (λ b. begins_path (folded_path way) (folded_path front) || b) (sym apart ∙ same_turned (folded_path names) (folded_path way) ∙ ap (same_path (folded_path way)) whole)
    ∙ sym (begins_end (folded_path way) (folded_path front) (folded last))
    ∙ ap (begins_path (folded_path way)) (sym whole)
  where
    whole : folded_path names ≡ folded_path front ++ folded last ∷ []
    whole = ap folded_path parted ∙ map-append folded front (last ∷ [])

none_of : (names : List (List ℕ)) → length names ≡ 0 → names ≡ []
none_of [] e = refl
none_of (n ∷ names) e = absurd (omega (arith, e))

pub above_none : (names way : List (List ℕ)) → length names ≡ 0 → same_path (folded_path names) (folded_path way) ≡ false → false ≡ begins_path (folded_path way) (folded_path names)
above_none names way empty apart =
    let none = none_of names empty in
    sym apart ∙ ap (λ n. same_path (folded_path n) (folded_path way)) none ∙ same_turned [] (folded_path way) ∙ sym (begins_none (folded_path way)) ∙ ap (λ n. begins_path (folded_path way) (folded_path n)) (sym none)
