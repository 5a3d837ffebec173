-- One step down a map: the child in which a name belongs decides what is found and what an edit leaves.
use Rattle.std.proofs.Common.{◌≡◌, ℕ, suc, ◌+◌, true, false, not, T, Option, List, [], ◌∷◌, ◌++◌, map, take, drop, get_or, length, refl, sym, ◌∙◌, ap, subst, arith, inl, inr, append_assoc}
use Rattle.std.proofs.lemmas.Bool.{cases_lt}
use Rattle.std.specs.Ordering.{is_lt, eq_by_cmp}
use Rattle.std.specs.FinMap.Entries.{find, put, where_key, is_sorted, below_all}
use Rattle.std.specs.Arc.{arc_value}
use Rattle.std.specs.declared.sync.Arc.{Arc}
use Rattle.std.specs.declared.alloc.Global.{Global}
use Rattle.persistent_map.specs.Orders.{name_order}
use Rattle.persistent_map.specs.Listings.{entries_in, children_entries}
use Rattle.persistent_map.specs.Children.{ChildKind, StartsAt, IsChild, EachIsChild, AreChildren, IsChildIndex}
use Rattle.persistent_map.specs.declared.edit.MapEdit.{MapEdit}
use Rattle.persistent_map.specs.declared.edit.MapEdit.TheVariants.{Put, Remove}
use Rattle.persistent_map.specs.Writes.{merged, written, edit_name, edited}
use Rattle.persistent_map.proofs.Names.{names_total}
use Rattle.persistent_map.proofs.SortedLists.{front_of, less_of}
use Rattle.persistent_map.proofs.Halves.{map-around, map-from, map-past, item_at}
use Rattle.persistent_map.proofs.Spans.{both, all_less, sorted_front, sorted_back, across, less_on, below_on, find_within, put_within, where_within}

pub entries_in-append : {E P : Type 0} (list : P → List E) (xs ys : List P) → entries_in list (xs ++ ys) ≡ entries_in list xs ++ entries_in list ys
entries_in-append list [] ys = refl
entries_in-append list (x ∷ xs) ys = ap (λ es. list x ++ es) (entries_in-append list xs ys) ∙ sym (append_assoc (list x) (entries_in list xs) (entries_in list ys))

module _ {A : Type 0} where
  -- all of the front is below a name from which the rest begins at or before it
  after_front : (front rest : List (List ℕ × A)) (first name : List ℕ) → T (is_sorted name_order (front ++ rest)) → StartsAt first rest → is_lt (name_order name first) ≡ false → T (all_less name_order front name)
  after_front front [] first name h starts at = absurd starts
  after_front front (e ∷ rest) first name h starts at = less_on name_order names_total front e.0 name (across name_order front e rest h) (ap (λ k. is_lt (name_order name k)) starts ∙ at)

  -- all that begins after a name is above it
  before_back : (back : List (List ℕ × A)) (first name : List ℕ) → T (is_sorted name_order back) → StartsAt first back → is_lt (name_order name first) ≡ true → T (below_all name_order name back)
  before_back [] first name h starts at = absurd starts
  before_back (e ∷ back) first name h starts at =
      let less : T (is_lt (name_order name e.0)) = subst T (sym (ap (λ k. is_lt (name_order name k)) starts ∙ at)) tt in
      both _ _ less (below_on name_order names_total name e.0 back (less_of _ less) (front_of _ _ h))

  pub starts_more : (first : List ℕ) (xs ys : List (List ℕ × A)) → StartsAt first xs → StartsAt first (xs ++ ys)
  starts_more first [] ys starts = absurd starts
  starts_more first (x ∷ xs) ys starts = starts

module _ {A P : Type 0} (kind : ChildKind A P) where
  pub all_join : (xs ys : List P) → EachIsChild kind xs → EachIsChild kind ys → EachIsChild kind (xs ++ ys)
  all_join [] ys f g = g
  all_join (x ∷ xs) ys f g = (f.0, all_join xs ys f.1 g)

  pub all_front : (xs ys : List P) → EachIsChild kind (xs ++ ys) → EachIsChild kind xs
  all_front [] ys f = tt
  all_front (x ∷ xs) ys f = (f.0, all_front xs ys f.1)

  pub all_back : (xs ys : List P) → EachIsChild kind (xs ++ ys) → EachIsChild kind ys
  all_back [] ys f = f
  all_back (x ∷ xs) ys f = all_back xs ys f.1

  module _ (children : List (Arc P Global)) (are : AreChildren kind children) (sorted : T (is_sorted name_order (children_entries kind.list children)))
      (name : List ℕ) (i : ℕ) (child_index : IsChildIndex kind.first children name i) (child : Arc P Global) (is : child ≡ get_or children i child) where
    front : List P
    front = map arc_value (take i children)

    back : List P
    back = map arc_value (drop (i + 1) children)

    split : map arc_value children ≡ front ++ (arc_value child ∷ back)
    unfolding front back
    split = map-around arc_value children i child child_index.in_range is

    entries_split : children_entries kind.list children ≡ entries_in kind.list (map arc_value (take i children)) ++ (kind.list (arc_value child) ++ entries_in kind.list (map arc_value (drop (i + 1) children)))
    unfolding front back
    entries_split = ap (entries_in kind.list) split ∙ entries_in-append kind.list front (arc_value child ∷ back)

    are_split : EachIsChild kind (front ++ (arc_value child ∷ back))
    are_split = subst (EachIsChild kind) split are

    pub child_is : IsChild kind (arc_value child)
    child_is = (all_back front (arc_value child ∷ back) are_split).0

    sorted_split : T (is_sorted name_order (entries_in kind.list (map arc_value (take i children)) ++ (kind.list (arc_value child) ++ entries_in kind.list (map arc_value (drop (i + 1) children)))))
    sorted_split = subst (λ es. T (is_sorted name_order es)) entries_split sorted

    pub child_sorted : T (is_sorted name_order (kind.list (arc_value child)))
    child_sorted = sorted_front name_order (kind.list (arc_value child)) _ (sorted_back name_order (entries_in kind.list (map arc_value (take i children))) _ sorted_split)

    less : T (all_less name_order (entries_in kind.list (map arc_value (take i children))) name)
    less = elim (cases_lt 0 i) [
      | inl some ↦ after_front (entries_in kind.list (map arc_value (take i children))) (kind.list (arc_value child) ++ entries_in kind.list (map arc_value (drop (i + 1) children))) (kind.first (arc_value child)) name sorted_split
          (starts_more (kind.first (arc_value child)) (kind.list (arc_value child)) _ child_is.first) (ap (λ (p : Arc P Global). is_lt (name_order name (kind.first (arc_value p)))) is ∙ child_index.reached child some)
      | inr none ↦ let zero_i : i ≡ 0 = omega arith in subst (λ n. T (all_less name_order (entries_in kind.list (map arc_value (take n children))) name)) (sym zero_i) tt
    ]

    above : T (below_all name_order name (entries_in kind.list (map arc_value (drop (i + 1) children))))
    unfolding front back
    above = elim (cases_lt (i + 1) (length children)) [
      | inl more ↦
          let next = item_at children (i + 1) more in
          let begins : map arc_value (drop (i + 1) children) ≡ arc_value next.0 ∷ map arc_value (drop (suc (i + 1)) children) = map-from arc_value children (i + 1) next.0 more (sym (next.1 next.0)) in
          let after : EachIsChild kind (arc_value next.0 ∷ map arc_value (drop (suc (i + 1)) children)) = subst (EachIsChild kind) begins (back_are) in
          before_back (entries_in kind.list (map arc_value (drop (i + 1) children))) (kind.first (arc_value next.0)) name back_sorted
          (subst (λ ss. StartsAt (kind.first (arc_value next.0)) (entries_in kind.list ss)) (sym begins) (starts_more (kind.first (arc_value next.0)) (kind.list (arc_value next.0)) _ after.0.first))
          (ap (λ (p : Arc P Global). is_lt (name_order name (kind.first (arc_value p)))) (sym (next.1 next.0)) ∙ child_index.before_next next.0 more)
      | inr last ↦ subst (λ ss. T (below_all name_order name (entries_in kind.list ss))) (sym (map-past arc_value children (i + 1) last)) tt
    ]
      where
        back_are : EachIsChild kind (map arc_value (drop (i + 1) children))
        back_are = (all_back front (arc_value child ∷ back) are_split).1

        back_sorted : T (is_sorted name_order (entries_in kind.list (map arc_value (drop (i + 1) children))))
        back_sorted = sorted_back name_order (kind.list (arc_value child)) _ (sorted_back name_order (entries_in kind.list (map arc_value (take i children))) _ sorted_split)

    -- the child decides what is found
    find_step : find name_order name (children_entries kind.list children) ≡ find name_order name (kind.list (arc_value child))
    find_step = ap (find name_order name) entries_split ∙ find_within name_order names_total name _ _ _ less above

    pub find_answer : (p : P) (answer : Option A) → p ≡ arc_value child → answer ≡ find name_order name (kind.list p) → answer ≡ find name_order name (children_entries kind.list children)
    find_answer p answer at told = told ∙ ap (λ q. find name_order name (kind.list q)) at ∙ sym find_step

    module _ (new made : List P) (spliced : made ≡ map arc_value (take i children) ++ (new ++ map arc_value (drop (i + 1) children))) where
      made_entries : entries_in kind.list made ≡ entries_in kind.list (map arc_value (take i children)) ++ (entries_in kind.list new ++ entries_in kind.list (map arc_value (drop (i + 1) children)))
      made_entries =
          ap (entries_in kind.list) spliced ∙ entries_in-append kind.list (map arc_value (take i children)) (new ++ map arc_value (drop (i + 1) children))
          ∙ ap (λ es. entries_in kind.list (map arc_value (take i children)) ++ es) (entries_in-append kind.list new (map arc_value (drop (i + 1) children)))

      -- what is put into the child is put into the whole
      put_step : (v : A) → entries_in kind.list new ≡ put name_order name v (kind.list (arc_value child)) → entries_in kind.list made ≡ put name_order name v (children_entries kind.list children)
      put_step v is_put =
          made_entries ∙ ap (λ es. entries_in kind.list (map arc_value (take i children)) ++ (es ++ entries_in kind.list (map arc_value (drop (i + 1) children)))) is_put
          ∙ sym (ap (put name_order name v) entries_split ∙ put_within name_order names_total name _ _ _ less above v)

      -- what is written in the child is written in the whole
      written_step : (key : A → List ℕ) (over : A → A → A) (new_thing : A) → key new_thing ≡ name → entries_in kind.list new ≡ written key over new_thing (kind.list (arc_value child)) → entries_in kind.list made ≡ written key over new_thing (children_entries kind.list children)
      written_step key over new_thing is is_written =
          let as_named : (es : List (List ℕ × A)) → written key over new_thing es ≡ put name_order name (merged over (find name_order name es) new_thing) es = λ es. ap (λ k. put name_order k (merged over (find name_order k es) new_thing) es) is in
          put_step (merged over (find name_order name (children_entries kind.list children)) new_thing) (is_written ∙ as_named (kind.list (arc_value child)) ∙ ap (λ f. put name_order name (merged over f new_thing) (kind.list (arc_value child))) (sym find_step))
          ∙ sym (as_named (children_entries kind.list children))

      -- what is taken out of the child is taken out of the whole
      where_step : entries_in kind.list new ≡ where_key name_order (λ x. not (eq_by_cmp name_order name x)) (kind.list (arc_value child)) → entries_in kind.list made ≡ where_key name_order (λ x. not (eq_by_cmp name_order name x)) (children_entries kind.list children)
      where_step is_taken =
          made_entries ∙ ap (λ es. entries_in kind.list (map arc_value (take i children)) ++ (es ++ entries_in kind.list (map arc_value (drop (i + 1) children)))) is_taken
          ∙ sym (ap (where_key name_order (λ x. not (eq_by_cmp name_order name x))) entries_split ∙ where_within name_order names_total name _ _ _ less above)

      -- so an edit of the child is one of the whole
      pub edited_step : (key : A → List ℕ) (over : A → A → A) (edit : MapEdit A) → edit_name key edit ≡ name → entries_in kind.list new ≡ edited key over edit (kind.list (arc_value child)) → entries_in kind.list made ≡ edited key over edit (children_entries kind.list children)
      edited_step key over (Put thing) is is_edited = written_step key over (arc_value thing) is is_edited
      edited_step key over (Remove named) is is_edited =
          let without : List ℕ → List (List ℕ × A) → List (List ℕ × A) = λ k es. where_key name_order (λ x. not (eq_by_cmp name_order k x)) es in
          where_step (is_edited ∙ ap (λ k. without k (kind.list (arc_value child))) is) ∙ ap (λ k. without k (children_entries kind.list children)) (sym is)

      -- and the children stay children
      pub are_step : EachIsChild kind new → EachIsChild kind made
      unfolding front back
      are_step fits = subst (EachIsChild kind) (sym spliced) (all_join front (new ++ back) (all_front front (arc_value child ∷ back) are_split) (all_join new back fits (all_back front (arc_value child ∷ back) are_split).1))
