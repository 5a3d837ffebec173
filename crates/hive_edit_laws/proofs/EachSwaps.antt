-- A list that is read element by element. One of them reads as something else after a change of cells.
use Rattle.std.proofs.Common.{◌≡◌, ℕ, List, [], ◌∷◌, ◌++◌, refl, ◌∙◌, ap, sym, subst, append-nil, append_assoc}
use Rattle.hive_tree_model.specs.Lists.{IsIn, Once}
use Rattle.hive_tree_model.proofs.Basics.{in_front, in_back, once_back, once_apart}
use Rattle.hive_records.specs.Readers.{Read, Reader, done, each, ◌⟫◌}
use Rattle.hive_records.specs.Fields.{Gives}
use Rattle.hive_cells.specs.Bins.{Cells}
use Rattle.hive_records.proofs.Local.{Local, local_each}
use Rattle.hive_records.proofs.StepsAgain.{gives_on, gives_last}
use Rattle.hive_edit_laws.proofs.ReaderSteps.{BindStep, split_of, done_of}

-- a reading whose cells stay
pub same_reading : {A : Type 0} (m : Reader A) → Local m → (old new : Cells) (own lent : List ℕ) (x : A) → Gives m old own lent x → ((cell : ℕ) → IsIn cell own → new cell ≡ old cell) → ((cell : ℕ) → IsIn cell lent → new cell ≡ old cell) → Gives m new own lent x
same_reading {A} m local old new own lent x h a b = record {
  reads = local.stays old new x (ap (λ (z : Read A). z.says) h.reads)
      (λ cell i. a cell (subst (λ (o : List ℕ). IsIn cell o) (ap (λ (z : Read A). z.own) h.reads) i))
      (λ cell i. b cell (subst (λ (o : List ℕ). IsIn cell o) (ap (λ (z : Read A). z.lent) h.reads) i)) ∙ h.reads;
}

-- one of a list, as it was read, and how all are read after it reads as something else
pub record ElementSwap {A B : Type 0} (f : A → Reader B) (first : List A) (x : A) (rest : List A) (old new : Cells) (own lent : List ℕ) (ys : List B) : Type 0 where
  pub front : List B
  pub was : B
  pub back : List B
  pub its_own : List ℕ
  pub its_lent : List ℕ
  pub front_own : List ℕ
  pub back_own : List ℕ
  pub own_is : own ≡ front_own ++ (its_own ++ back_own)
  pub within : (cell : ℕ) → IsIn cell its_own → IsIn cell own
  pub lent_within : (cell : ℕ) → IsIn cell its_lent → IsIn cell lent
  pub one : Gives (f x) old its_own its_lent was
  pub before : ys ≡ front ++ was ∷ back
  pub after : ((cell : ℕ) → IsIn cell own → (IsIn cell its_own → ⊥) → new cell ≡ old cell) → ((cell : ℕ) → IsIn cell lent → new cell ≡ old cell) → Once own → (now : B) (now_own : List ℕ) → Gives (f x) new now_own its_lent now → Gives (each f (first ++ x ∷ rest)) new (front_own ++ (now_own ++ back_own)) lent (front ++ now ∷ back)

module _ {A B : Type 0} (f : A → Reader B) (local : (x : A) → Local (f x)) (old new : Cells) where
  -- the steps of a reading of a list
  pub record Steps (x : A) (rest : List A) (own lent : List ℕ) (ys : List B) : Type 0 where
    pub y : B
    pub zs : List B
    pub own_first : List ℕ
    pub own_next : List ℕ
    pub lent_first : List ℕ
    pub lent_next : List ℕ
    pub one : Gives (f x) old own_first lent_first y
    pub others : Gives (each f rest) old own_next lent_next zs
    pub own_is : own ≡ own_first ++ own_next
    pub lent_is : lent ≡ lent_first ++ lent_next
    pub are : ys ≡ y ∷ zs

  pub steps_of : (x : A) (rest : List A) (own lent : List ℕ) (ys : List B) → Gives (each f (x ∷ rest)) old own lent ys → Steps x rest own lent ys
  unfolding each
  steps_of x rest own lent ys h =
      let s : BindStep (f x) (λ y. each f rest ⟫ λ zs. done (y ∷ zs)) old own lent ys = split_of (f x) (λ y. each f rest ⟫ λ zs. done (y ∷ zs)) old own lent ys h in
      let t : BindStep (each f rest) (λ zs. done (s.x ∷ zs)) old s.own_next s.lent_next ys = split_of (each f rest) (λ zs. done (s.x ∷ zs)) old s.own_next s.lent_next ys s.next in
      let d = done_of (s.x ∷ t.x) old t.own_next t.lent_next ys t.next in
      record {
        y = s.x;
        zs = t.x;
        own_first = s.own_first;
        own_next = t.own_first;
        lent_first = s.lent_first;
        lent_next = t.lent_first;
        one = s.first;
        others = t.first;
        own_is = s.own_is ∙ ap (λ (z : List ℕ). s.own_first ++ z) (t.own_is ∙ ap (λ (z : List ℕ). t.own_first ++ z) d.0 ∙ append-nil t.own_first);
        lent_is = s.lent_is ∙ ap (λ (z : List ℕ). s.lent_first ++ z) (t.lent_is ∙ ap (λ (z : List ℕ). t.lent_first ++ z) d.1 ∙ append-nil t.lent_first);
        are = sym d.2;
      }

  joined : (x : A) (rest : List A) (own_first own_next lent_first lent_next : List ℕ) (y : B) (zs : List B) → Gives (f x) new own_first lent_first y → Gives (each f rest) new own_next lent_next zs → Gives (each f (x ∷ rest)) new (own_first ++ own_next) (lent_first ++ lent_next) (y ∷ zs)
  unfolding each
  joined x rest own_first own_next lent_first lent_next y zs h g = gives_on _ h (gives_last (λ zs. y ∷ zs) g)

  moved : {m : Reader (List B)} (own other lent more : List ℕ) (ys : List B) → own ≡ other → lent ≡ more → Gives m new other more ys → Gives m new own lent ys
  moved {m} own other lent more ys e g h = subst (λ (o : List ℕ). Gives m new o lent ys) (sym e) (subst (λ (o : List ℕ). Gives m new other o ys) (sym g) h)

  pub element_swap : (first : List A) (x : A) (rest : List A) (own lent : List ℕ) (ys : List B) → Gives (each f (first ++ x ∷ rest)) old own lent ys → ElementSwap f first x rest old new own lent ys
  element_swap [] x rest own lent ys h =
      let s : Steps x rest own lent ys = steps_of x rest own lent ys h in
      record {
        front = [];
        was = s.y;
        back = s.zs;
        its_own = s.own_first;
        its_lent = s.lent_first;
        front_own = [];
        back_own = s.own_next;
        own_is = s.own_is;
        within = λ cell i. subst (λ (o : List ℕ). IsIn cell o) (sym s.own_is) (in_front cell s.own_first s.own_next i);
        lent_within = λ cell i. subst (λ (o : List ℕ). IsIn cell o) (sym s.lent_is) (in_front cell s.lent_first s.lent_next i);
        one = s.one;
        before = s.are;
        after = λ stays lent_stays once now now_own given. moved (now_own ++ s.own_next) (now_own ++ s.own_next) lent (s.lent_first ++ s.lent_next) (now ∷ s.zs) refl s.lent_is
            (joined x rest now_own s.own_next s.lent_first s.lent_next now s.zs given
            (same_reading (each f rest) (local_each local rest) old new s.own_next s.lent_next s.zs s.others
            (λ cell i. stays cell (subst (λ (o : List ℕ). IsIn cell o) (sym s.own_is) (in_back cell s.own_first s.own_next i))
            (λ j. once_apart cell s.own_first s.own_next (subst (λ (o : List ℕ). Once o) s.own_is once) j i))
            (λ cell i. lent_stays cell (subst (λ (o : List ℕ). IsIn cell o) (sym s.lent_is) (in_back cell s.lent_first s.lent_next i)))));
      }
  element_swap (w ∷ first) x rest own lent ys h =
      let s : Steps w (first ++ x ∷ rest) own lent ys = steps_of w (first ++ x ∷ rest) own lent ys h in
      let t : ElementSwap f first x rest old new s.own_next s.lent_next s.zs = element_swap first x rest s.own_next s.lent_next s.zs s.others in
      record {
        front = s.y ∷ t.front;
        was = t.was;
        back = t.back;
        its_own = t.its_own;
        its_lent = t.its_lent;
        front_own = s.own_first ++ t.front_own;
        back_own = t.back_own;
        own_is = s.own_is ∙ ap (λ (z : List ℕ). s.own_first ++ z) t.own_is ∙ sym (append_assoc s.own_first t.front_own (t.its_own ++ t.back_own));
        within = λ cell i. subst (λ (o : List ℕ). IsIn cell o) (sym s.own_is) (in_back cell s.own_first s.own_next (t.within cell i));
        lent_within = λ cell i. subst (λ (o : List ℕ). IsIn cell o) (sym s.lent_is) (in_back cell s.lent_first s.lent_next (t.lent_within cell i));
        one = t.one;
        before = s.are ∙ ap (λ (z : List B). s.y ∷ z) t.before;
        after = λ stays lent_stays once now now_own given.
            let once_so : Once (s.own_first ++ s.own_next) = subst (λ (o : List ℕ). Once o) s.own_is once in
            moved ((s.own_first ++ t.front_own) ++ (now_own ++ t.back_own)) (s.own_first ++ (t.front_own ++ (now_own ++ t.back_own))) lent (s.lent_first ++ s.lent_next) (s.y ∷ (t.front ++ now ∷ t.back)) (append_assoc s.own_first t.front_own (now_own ++ t.back_own)) s.lent_is
            (joined w (first ++ x ∷ rest) s.own_first (t.front_own ++ (now_own ++ t.back_own)) s.lent_first s.lent_next s.y (t.front ++ now ∷ t.back)
            (same_reading (f w) (local w) old new s.own_first s.lent_first s.y s.one
            (λ cell i. stays cell (subst (λ (o : List ℕ). IsIn cell o) (sym s.own_is) (in_front cell s.own_first s.own_next i))
            (λ j. once_apart cell s.own_first s.own_next once_so i (t.within cell j)))
            (λ cell i. lent_stays cell (subst (λ (o : List ℕ). IsIn cell o) (sym s.lent_is) (in_front cell s.lent_first s.lent_next i))))
            (t.after
            (λ cell i apart. stays cell (subst (λ (o : List ℕ). IsIn cell o) (sym s.own_is) (in_back cell s.own_first s.own_next i)) apart)
            (λ cell i. lent_stays cell (subst (λ (o : List ℕ). IsIn cell o) (sym s.lent_is) (in_back cell s.lent_first s.lent_next i)))
            (once_back s.own_first s.own_next once_so) now now_own given));
      }
