-- The entry at an index, over children.
use Rattle.std.proofs.Common.{◌≡◌, ℕ, zero, suc, ◌+◌, ◌<◌, ◌≤◌, List, [], ◌∷◌, ◌++◌, map, take, drop, get_or, length, slice_get, Option, None, sum_by, refl, sym, ◌∙◌, ap, subst, arith}
use Rattle.std.specs.declared.sync.Arc.{Arc}
use Rattle.std.specs.declared.alloc.Global.{Global}
use Rattle.std.specs.Arc.{arc_value}
use Rattle.std.specs.Option.{option_map}
use Rattle.std.proofs.lemmas.List.{get_or_default}
use Rattle.std.proofs.lemmas.Option.{slice_get-map}
use Rattle.persistent_map.specs.Listings.{entries_in, children_entries}
use Rattle.persistent_map.specs.Children.{ChildKind, EachIsChild, AreChildren, IsChild, IsNth}
use Rattle.persistent_map.proofs.Halves.{map-around}
use Rattle.persistent_map.proofs.Steps.{entries_in-append, all_front, all_back}
use Rattle.persistent_map.proofs.Sums.{counts}

get-past : {X : Type 0} (xs ys : List X) (n j : ℕ) → n ≡ length xs + j → slice_get (xs ++ ys) n ≡ slice_get ys j
get-past [] ys n j e = let same : n ≡ j = omega arith in ap (slice_get ys) same
get-past (x ∷ xs) ys zero j e = absurd (omega arith)
get-past (x ∷ xs) ys (suc n) j e = get-past xs ys n j (omega arith)

get-front : {X : Type 0} (xs ys : List X) (j : ℕ) → j < length xs → slice_get (xs ++ ys) j ≡ slice_get xs j
get-front [] ys j lt = absurd (omega arith)
get-front (x ∷ xs) ys zero lt = refl
get-front (x ∷ xs) ys (suc j) lt = get-front xs ys j (omega arith)

past_end : {X : Type 0} (xs : List X) (i : ℕ) → length xs ≤ i → slice_get xs i ≡ None
past_end [] i past = refl
past_end (x ∷ xs) zero past = absurd (omega arith)
past_end (x ∷ xs) (suc i) past = past_end xs i (omega arith)

-- an item is the same, whatever is the default
pub nth_within : {P : Type 0} (count : P → ℕ) (children : List (Arc P Global)) (i j : ℕ) (child : Arc P Global) → i < length children → child ≡ get_or children i child → j < count (arc_value child) → (d : Arc P Global) → j < count (arc_value (get_or children i d))
nth_within count children i j child below is less d = subst (λ p. j < count (arc_value p)) (is ∙ get_or_default children i child d below) less

module _ {A P : Type 0} (kind : ChildKind A P) (children : List (Arc P Global)) (are : AreChildren kind children) where
  -- in the child that has it
  module _ (index i j : ℕ) (child_index : IsNth kind.count children index i j) (child : Arc P Global) (is : child ≡ get_or children i child) where
    split : map arc_value children ≡ map arc_value (take i children) ++ (arc_value child ∷ map arc_value (drop (i + 1) children))
    split = map-around arc_value children i child child_index.in_range is

    are_split : EachIsChild kind (map arc_value (take i children) ++ (arc_value child ∷ map arc_value (drop (i + 1) children)))
    are_split = subst (EachIsChild kind) split are

    pub nth_is : IsChild kind (arc_value child)
    nth_is = (all_back kind (map arc_value (take i children)) _ are_split).0

    within : j < kind.count (arc_value child)
    within = subst (λ (p : Arc P Global). j < kind.count (arc_value p)) (sym is) (child_index.within child)

    nth_step : slice_get (children_entries kind.list children) index ≡ slice_get (kind.list (arc_value child)) j
    nth_step =
        ap (λ ss. slice_get (entries_in kind.list ss) index) split
        ∙ ap (λ es. slice_get es index) (entries_in-append kind.list (map arc_value (take i children)) (arc_value child ∷ map arc_value (drop (i + 1) children)))
        ∙ get-past (entries_in kind.list (map arc_value (take i children))) _ index j (sym child_index.before ∙ ap (λ n. n + j) (counts kind (map arc_value (take i children)) (all_front kind (map arc_value (take i children)) _ are_split)))
        ∙ get-front (kind.list (arc_value child)) _ j (subst (λ n. j < n) nth_is.count within)

    -- the answer about a thing of the child is the answer about the whole
    pub nth_answer : (p : P) (answer : Option A) → p ≡ arc_value child → answer ≡ slice_get (map (λ e. e.1) (kind.list p)) j → answer ≡ slice_get (map (λ e. e.1) (children_entries kind.list children)) index
    nth_answer p answer at told =
        told ∙ ap (λ q. slice_get (map (λ e. e.1) (kind.list q)) j) at ∙ slice_get-map (λ (e : List ℕ × A). e.1) (kind.list (arc_value child)) j
        ∙ sym (slice_get-map (λ (e : List ℕ × A). e.1) (children_entries kind.list children) index ∙ ap (option_map (λ e. e.1)) nth_step)

  -- past the last
  nth_past : (index : ℕ) → sum_by kind.count (map arc_value children) ≤ index → slice_get (children_entries kind.list children) index ≡ None
  nth_past index past = past_end (children_entries kind.list children) index (subst (λ n. n ≤ index) (counts kind (map arc_value children) are) past)

  pub no_thing : (index : ℕ) → sum_by kind.count (map arc_value children) ≤ index → slice_get (map (λ e. e.1) (children_entries kind.list children)) index ≡ None
  no_thing index past = slice_get-map (λ (e : List ℕ × A). e.1) (children_entries kind.list children) index ∙ ap (option_map (λ e. e.1)) (nth_past index past)
