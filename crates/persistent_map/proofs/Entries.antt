-- Entries are children by themselves, and what an edit makes of one.
use Rattle.std.proofs.Common.{◌≡◌, ℕ, cond, not, true, false, List, [], ◌∷◌, ◌++◌, Some, None, refl, sym, ◌∙◌, ap, arith, append_assoc, append-nil}
use Rattle.std.proofs.lemmas.List.Sums.{sum_by-cons}
use Rattle.std.specs.declared.sync.Arc.{Arc}
use Rattle.std.specs.declared.alloc.Global.{Global}
use Rattle.std.specs.Arc.{arc_value}
use Rattle.std.specs.declared.cmp.Ordering.{Ordering}
use Rattle.std.specs.declared.cmp.Ordering.TheVariants.{Less, Equal, Greater}
use Rattle.std.specs.Ordering.{is_eq, eq_by_cmp}
use Rattle.std.specs.FinMap.Entries.{where_key, by_order}
use Rattle.persistent_map.specs.Orders.{name_order}
use Rattle.persistent_map.specs.Listings.{keyed_all, entry_list, children_entries}
use Rattle.persistent_map.specs.Children.{AreChildren, IsChild, entry_kind, IsMore}
use Rattle.persistent_map.specs.Writes.{merged, written}

module _ {A : Type 0} (key : A → List ℕ) where
  -- the entries of things are those of the children that they are
  pub singles : (items : List (Arc A Global)) → children_entries (entry_list key) items ≡ keyed_all key items
  singles [] = refl
  singles (x ∷ items) = ap (λ es. (key (arc_value x), arc_value x) ∷ es) (singles items)

  -- what a new thing and one that is there make together, by the order of their names
  abbrev pub ordered : (over : A → A → A) (new old : A) → Ordering → List (List ℕ × A)
  ordered over new old o =
      let thing = merged over (cond (is_eq o) (Some old) None) new in
      by_order o ((key new, thing) ∷ (key old, old) ∷ []) ((key old, thing) ∷ []) ((key old, old) ∷ (key new, thing) ∷ [])

  module _ (entry_weight : A → ℕ) where
    entry_is : (thing : A) → IsChild (entry_kind key entry_weight) thing
    entry_is thing = record {
      first = refl;
      count = refl;
      weighs = omega (arith, sum_by-cons (λ (e : List ℕ × A). entry_weight e.1) (key thing, thing) []);
      fits = tt;
    }

    pub entries_are : (items : List (Arc A Global)) → AreChildren (entry_kind key entry_weight) items
    entries_are [] = tt
    entries_are (x ∷ items) = (entry_is (arc_value x), entries_are items)

    -- things that are added
    pub added : (es : List (List ℕ × A)) (old new more : List (Arc A Global)) → new ≡ old ++ more → keyed_all key more ≡ es → IsMore (entry_kind key entry_weight) es old new
    added es old new more is all = (more, (is, (singles more ∙ all, entries_are more)))

  -- what is written if there is one thing
  one_written : (over : A → A → A) (new old : A) (o : Ordering) → name_order (key new) (key old) ≡ o → written key over new (entry_list key old) ≡ ordered over new old o
  one_written over new old o is = ap (ordered over new old) is

  module _ (over : A → A → A) (entry_weight : A → ℕ) (new old : A) (before mid after : List (Arc A Global)) (x y : Arc A Global) (first : mid ≡ before ++ (x ∷ [])) where
    two : after ≡ mid ++ (y ∷ []) → after ≡ before ++ (x ∷ y ∷ [])
    two second = second ∙ ap (λ xs. xs ++ (y ∷ [])) first ∙ append_assoc before (x ∷ []) (y ∷ [])

    -- the new one and then the old
    pub put_before : name_order (key new) (key old) ≡ Less → arc_value x ≡ new → arc_value y ≡ old → after ≡ mid ++ (y ∷ []) → IsMore (entry_kind key entry_weight) (written key over new (entry_list key old)) before after
    put_before less is_new is_old second =
        added entry_weight _ before after (x ∷ y ∷ []) (two second) ((λ i. (key (is_new i), is_new i) ∷ (key (is_old i), is_old i) ∷ []) ∙ sym (one_written over new old Less less))

    -- the old one and then the new
    pub put_behind : name_order (key new) (key old) ≡ Greater → arc_value x ≡ old → arc_value y ≡ new → after ≡ mid ++ (y ∷ []) → IsMore (entry_kind key entry_weight) (written key over new (entry_list key old)) before after
    put_behind greater is_old is_new second =
        added entry_weight _ before after (x ∷ y ∷ []) (two second) ((λ i. (key (is_old i), is_old i) ∷ (key (is_new i), is_new i) ∷ []) ∙ sym (one_written over new old Greater greater))

    -- what the new one makes of the old
    pub put_over : name_order (key new) (key old) ≡ Equal → arc_value x ≡ over old new → key (arc_value x) ≡ key old → IsMore (entry_kind key entry_weight) (written key over new (entry_list key old)) before mid
    put_over equal is same = added entry_weight _ before mid (x ∷ []) first ((λ i. (same i, is i) ∷ []) ∙ sym (one_written over new old Equal equal))

  -- what is left of a thing if a name is removed
  pub one_stays : (entry_weight : A → ℕ) (k : List ℕ) (x thing : Arc A Global) (before after : List (Arc A Global)) → eq_by_cmp name_order k (key (arc_value thing)) ≡ false → arc_value x ≡ arc_value thing → after ≡ before ++ (x ∷ []) → IsMore (entry_kind key entry_weight) (where_key name_order (λ n. not (eq_by_cmp name_order k n)) (entry_list key (arc_value thing))) before after
  one_stays entry_weight k x thing before after apart is pushed =
      added entry_weight _ before after (x ∷ []) pushed (ap (λ v. (key v, v) ∷ []) is ∙ sym (ap (λ b. cond (not b) ((key (arc_value thing), arc_value thing) ∷ []) []) apart))

  pub one_goes : (entry_weight : A → ℕ) (k : List ℕ) (thing : Arc A Global) (before : List (Arc A Global)) → eq_by_cmp name_order k (key (arc_value thing)) ≡ true → IsMore (entry_kind key entry_weight) (where_key name_order (λ n. not (eq_by_cmp name_order k n)) (entry_list key (arc_value thing))) before before
  one_goes entry_weight k thing before same = added entry_weight _ before before [] (sym (append-nil before)) (sym (ap (λ b. cond (not b) ((key (arc_value thing), arc_value thing) ∷ []) []) same))
