-- Elements of lists that were read, one by one.
use Rattle.std.proofs.Common.{◌≡◌, ◌≢◌, inl, inr, ℕ, zero, suc, ◌<◌, ◌+◌, ◌*◌, ◌==◌, List, [], ◌∷◌, ◌++◌, length, take, drop, flat_map, refl, ◌∙◌, ap, sym, subst, Bool, true, false, not, Ok, Err, Result, Some, None, Option, slice_get, arith}
use Rattle.std.proofs.lemmas.Bool.Decides.{eqb_tells}
use Rattle.std.proofs.Math.Nat.{mul-suc}
use Rattle.refusals.specs.declared.refusal.Refusal.{Refusal}
use Rattle.refusals.specs.declared.refusal.Cause.TheVariants as cause
use Rattle.hive_tree_model.specs.Lists.{IsIn}
use Rattle.hive_tree_model.proofs.Basics.{clash, some_same, some_none, in_front, in_back, in_either}
use Rattle.hive_cells.specs.Tiles.{u32_at, IsAllocatedCell, cell_data}
use Rattle.hive_cells.specs.Bins.{Cells, Shows}
use Rattle.hive_records.specs.Readers.{Read, Reader, done, rule, look, each, ◌⟫◌}
use Rattle.hive_records.specs.Numbers.{words_from}
use Rattle.hive_records.specs.Lists.{leaf_in, leaf_at, list_in, subkeys_at}
use Rattle.hive_records.specs.Heads.{list_fault, IsSubkeyList}
use Rattle.hive_records.specs.RecordReaders.{elements_of, leaf_from, list_from, subkeys_from}
use Rattle.hive_records.specs.declared.list_record.SubkeyList.{SubkeyList}
use Rattle.hive_records.specs.Fields.{Gives}
use Rattle.hive_records.proofs.Local.{never_ok}
use Rattle.hive_records.proofs.ListsGoOn.{leaf_out, leaf_on, subkeys_out, subkeys_on}
use Rattle.hive_edit_laws.specs.Found.{HoldsList, LeafHas}
use Rattle.hive_edit_laws.proofs.ReaderSteps.{BindStep, split_of, rule_of, LookStep, look_of, choice_of, done_of}
use Rattle.hive_edit_laws.proofs.CellsShown.{shown_some, shown_here}

-- words of a list
pub word_get : (bytes : List ℕ) (from stride n index : ℕ) → index < n → slice_get (words_from bytes from stride n) index ≡ Some (u32_at bytes (from + stride * index))
word_get bytes from stride zero index h = absurd (omega (arith, h))
word_get bytes from stride (suc n) zero h = ap (λ (k : ℕ). Some (u32_at bytes k)) (omega arith)
word_get bytes from stride (suc n) (suc index) h =
    let size : stride * suc index ≡ stride * index + stride = mul-suc stride index in
    word_get bytes (from + stride) stride n index (omega (arith, h)) ∙ ap (λ (k : ℕ). Some (u32_at bytes k)) (omega (arith, size))

pub word_in : (bytes : List ℕ) (from stride n index : ℕ) → index < n → IsIn (u32_at bytes (from + stride * index)) (words_from bytes from stride n)
word_in bytes from stride zero index h = absurd (omega (arith, h))
word_in bytes from stride (suc n) zero h = inl (ap (u32_at bytes) (omega arith))
word_in bytes from stride (suc n) (suc index) h =
    let size : stride * suc index ≡ stride * index + stride = mul-suc stride index in
    inr (subst (λ (k : ℕ). IsIn (u32_at bytes k) (words_from bytes (from + stride) stride n)) (omega (arith, size)) (word_in bytes (from + stride) stride n index (omega (arith, h))))

pub word_back : (bytes : List ℕ) (from stride n x : ℕ) → IsIn x (words_from bytes from stride n) → (index : ℕ) × (index < n) × (x ≡ u32_at bytes (from + stride * index))
word_back bytes from stride zero x i = absurd i
word_back bytes from stride (suc n) x (inl e) = (0, omega arith, e ∙ ap (u32_at bytes) (omega arith))
word_back bytes from stride (suc n) x (inr i) =
    let r = word_back bytes (from + stride) stride n x i in
    let size : stride * suc r.0 ≡ stride * r.0 + stride = mul-suc stride r.0 in
    let less : r.0 < n = r.1 in
    (suc r.0, omega (arith, less), r.2 ∙ ap (u32_at bytes) (omega (arith, size)))

pub get_in : {A : Type 0} (xs : List A) (i : ℕ) (x : A) → slice_get xs i ≡ Some x → IsIn x xs
get_in [] i x e = some_none x e
get_in (y ∷ ys) zero x e = inl (sym (some_same y x e))
get_in (y ∷ ys) (suc i) x e = inr (get_in ys i x e)

pub around_index : (xs : List ℕ) (i x : ℕ) → slice_get xs i ≡ Some x → xs ≡ take i xs ++ x ∷ drop (suc i) xs
around_index [] i x e = some_none x e
around_index (y ∷ ys) zero x e = ap (λ (z : ℕ). z ∷ ys) (some_same y x e)
around_index (y ∷ ys) (suc i) x e = ap (λ (zs : List ℕ). y ∷ zs) (around_index ys i x e)

-- lists that are joined
pub in_flat : {A : Type 0} (x : A) (xs : List A) (lists : List (List A)) → IsIn xs lists → IsIn x xs → IsIn x (flat_map (λ (l : List A). l) lists)
in_flat x xs [] i j = absurd i
in_flat {A} x xs (l ∷ lists) (inl e) j = in_front x l (flat_map (λ (l : List A). l) lists) (subst (λ (z : List A). IsIn x z) e j)
in_flat {A} x xs (l ∷ lists) (inr i) j = in_back x l (flat_map (λ (l : List A). l) lists) (in_flat x xs lists i j)

pub flat_in : {A : Type 0} (x : A) (lists : List (List A)) → IsIn x (flat_map (λ (l : List A). l) lists) → (xs : List A) × IsIn xs lists × IsIn x xs
flat_in x [] i = absurd i
flat_in {A} x (l ∷ lists) i = elim (in_either x l (flat_map (λ (l : List A). l) lists) i) [
  | inl j ↦ (l, inl refl, j)
  | inr j ↦ let r = flat_in x lists j in (r.0, inr r.1, r.2)
]

module _ {A B : Type 0} (f : A → Reader B) (cells : Cells) where
  record Two (x : A) (rest : List A) (ys : List B) : Type 0 where
    y : B
    zs : List B
    own_first : List ℕ
    own_next : List ℕ
    lent_first : List ℕ
    lent_next : List ℕ
    one : Gives (f x) cells own_first lent_first y
    others : Gives (each f rest) cells own_next lent_next zs
    are : ys ≡ y ∷ zs

  two_of : (x : A) (rest : List A) (own lent : List ℕ) (ys : List B) → Gives (each f (x ∷ rest)) cells own lent ys → Two x rest ys
  unfolding each
  two_of x rest own lent ys h =
      let s : BindStep (f x) (λ y. each f rest ⟫ λ zs. done (y ∷ zs)) cells own lent ys = split_of (f x) (λ y. each f rest ⟫ λ zs. done (y ∷ zs)) cells own lent ys h in
      let t : BindStep (each f rest) (λ zs. done (s.x ∷ zs)) cells s.own_next s.lent_next ys = split_of (each f rest) (λ zs. done (s.x ∷ zs)) cells s.own_next s.lent_next ys s.next in
      let d = done_of (s.x ∷ t.x) cells t.own_next t.lent_next ys t.next in
      record { y = s.x; zs = t.x; own_first = s.own_first; own_next = t.own_first; lent_first = s.lent_first; lent_next = t.lent_first; one = s.first; others = t.first; are = sym d.2 }

  none_of : (own lent : List ℕ) (ys : List B) → Gives (each f []) cells own lent ys → ys ≡ []
  unfolding each
  none_of own lent ys h = sym (done_of [] cells own lent ys h).2

  -- an element is read, and what is read comes from an element
  pub each_in : (xs : List A) (own lent : List ℕ) (ys : List B) → Gives (each f xs) cells own lent ys → (x : A) → IsIn x xs → (y : B) × (o : List ℕ) × (l : List ℕ) × Gives (f x) cells o l y × IsIn y ys
  each_in [] own lent ys h x i = absurd i
  each_in (w ∷ xs) own lent ys h x (inl e) = let t = two_of w xs own lent ys h in (t.y, t.own_first, t.lent_first, subst (λ (z : A). Gives (f z) cells t.own_first t.lent_first t.y) (sym e) t.one, subst (λ (zs : List B). IsIn t.y zs) (sym t.are) (inl refl))
  each_in (w ∷ xs) own lent ys h x (inr i) =
      let t = two_of w xs own lent ys h in
      let r = each_in xs t.own_next t.lent_next t.zs t.others x i in
      (r.0, r.1, r.2, r.3, subst (λ (zs : List B). IsIn r.0 zs) (sym t.are) (inr r.4))

  pub each_back : (xs : List A) (own lent : List ℕ) (ys : List B) → Gives (each f xs) cells own lent ys → (y : B) → IsIn y ys → (x : A) × (o : List ℕ) × (l : List ℕ) × Gives (f x) cells o l y × IsIn x xs
  each_back [] own lent ys h y i = absurd (subst (λ (zs : List B). IsIn y zs) (none_of own lent ys h) i)
  each_back (w ∷ xs) own lent ys h y i =
      let t = two_of w xs own lent ys h in
      go t (λ j. each_back xs t.own_next t.lent_next t.zs t.others y j) (subst (λ (zs : List B). IsIn y zs) t.are i)
    where
      go : (t : Two w xs ys) → (IsIn y t.zs → (x : A) × (o : List ℕ) × (l : List ℕ) × Gives (f x) cells o l y × IsIn x xs) → IsIn y (t.y ∷ t.zs) → (x : A) × (o : List ℕ) × (l : List ℕ) × Gives (f x) cells o l y × IsIn x (w ∷ xs)
      go t later (inl e) = (w, t.own_first, t.lent_first, subst (λ (z : B). Gives (f w) cells t.own_first t.lent_first z) (sym e) t.one, inl refl)
      go t later (inr j) = let r = later j in (r.0, r.1, r.2, r.3, inr r.4)

module _ (bytes : List ℕ) (cells : Cells) (shows : Shows bytes cells) where
  -- a list that is no list of lists
  pub leaf_holds : (leaf : ℕ) (its : List ℕ) → LeafHas cells leaf its → HoldsList bytes leaf
  leaf_holds leaf its h = let l = look_of leaf leaf_in cells h.0 h.1 its h.2 in let s = shown_some bytes cells shows leaf l.bytes l.here in (s.0, go s.0 (list_fault (cell_data bytes leaf)) refl)
    where
      go : IsAllocatedCell bytes leaf → (o : Option Refusal) → list_fault (cell_data bytes leaf) ≡ o → list_fault (cell_data bytes leaf) ≡ None
      go a None e = e
      go a (Some r) e = never_ok r its (sym (ap (λ (z : Read (List ℕ)). z.says) (leaf_out cells leaf (cell_data bytes leaf) r (shown_here bytes cells shows leaf a) e)) ∙ ap (λ (z : Read (List ℕ)). z.says) h.2.reads)

  pub leaf_read : (leaf : ℕ) (its : List ℕ) → LeafHas cells leaf its → (list : SubkeyList) → IsSubkeyList list (cell_data bytes leaf) → (list.is_indirect ≡ false) × (elements_of list ≡ its)
  leaf_read leaf its h list is = by (look_of leaf (λ _. leaf_from list) cells h.0 h.1 its on)
    where
      holds : HoldsList bytes leaf
      holds = leaf_holds leaf its h

      on : Gives (look leaf ⟫ λ _. leaf_from list) cells h.0 h.1 its
      on = record { reads = sym (leaf_on cells leaf (cell_data bytes leaf) list (shown_here bytes cells shows leaf holds.0) holds.1 is) ∙ h.2.reads }

      is_not : (b : Bool) → not b ≡ true → b ≡ false
      is_not true e = sym e
      is_not false e = refl

      by : LookStep leaf (λ _. leaf_from list) cells h.0 h.1 its → (list.is_indirect ≡ false) × (elements_of list ≡ its)
      by l = let r = rule_of (not list.is_indirect) cause.BadList (λ _. done (elements_of list)) cells l.own_next h.1 its l.next in (is_not list.is_indirect r.0, (done_of (elements_of list) cells l.own_next h.1 its r.1).2)

  module _ (count at : ℕ) (own lent subkeys : List ℕ) (h : Gives (subkeys_at count at) cells own lent subkeys) where
    abbrev from : List ℕ → Reader (List ℕ)
    from b = list_in b ⟫ λ subkey_list. rule (length subkey_list == count) cause.BadList ⟫ λ _. done subkey_list

    pub list_many : length subkeys ≡ count
    list_many = elim (choice_of (count == 0) (done []) (look at ⟫ from) cells own lent subkeys h) [
      | inl g ↦ ap length (sym (done_of [] cells own lent subkeys g.1).2) ∙ sym (is_zero g.0)
      | inr g ↦ many g.1
    ]
      where
        is_zero : (count == 0) ≡ true → count ≡ 0
        is_zero e = elim (eqb_tells count 0) [ inl k ↦ k.1 | inr k ↦ clash (count == 0) e k.0 ]

        is_count : (n : ℕ) → (n == count) ≡ true → n ≡ count
        is_count n e = elim (eqb_tells n count) [ inl k ↦ k.1 | inr k ↦ clash (n == count) e k.0 ]

        many : Gives (look at ⟫ from) cells own lent subkeys → length subkeys ≡ count
        many g =
            let l = look_of at from cells own lent subkeys g in
            let s = split_of (list_in l.bytes) _ cells l.own_next lent subkeys l.next in
            let r = rule_of _ _ _ cells s.own_next s.lent_next subkeys s.next in
            ap length (sym (done_of _ cells s.own_next s.lent_next subkeys r.1).2) ∙ is_count (length s.x) r.0

    module _ (some : count ≢ 0) where
      looks : Gives (look at ⟫ from) cells own lent subkeys
      looks = elim (choice_of (count == 0) (done []) (look at ⟫ from) cells own lent subkeys h) [
        | inl g ↦ elim (eqb_tells count 0) [ inl k ↦ absurd (some k.1) | inr k ↦ clash (count == 0) g.0 k.0 ]
        | inr g ↦ g.1
      ]

      pub list_holds : HoldsList bytes at
      list_holds = let l = look_of at from cells own lent subkeys looks in let s = shown_some bytes cells shows at l.bytes l.here in (s.0, go s.0 (list_fault (cell_data bytes at)) refl)
        where
          go : IsAllocatedCell bytes at → (o : Option Refusal) → list_fault (cell_data bytes at) ≡ o → list_fault (cell_data bytes at) ≡ None
          go a None e = e
          go a (Some r) e = never_ok r subkeys (sym (ap (λ (z : Read (List ℕ)). z.says) (subkeys_out cells count at (cell_data bytes at) r some (shown_here bytes cells shows at a) e)) ∙ ap (λ (z : Read (List ℕ)). z.says) h.reads)

      module _ (list : SubkeyList) (is : IsSubkeyList list (cell_data bytes at)) where
        record ReadList : Type 0 where
          its_own : List ℕ
          its_lent : List ℕ
          its : Gives (list_from list) cells its_own its_lent subkeys

        listed : ReadList
        listed = looked (look_of at (λ _. subkeys_from count list) cells own lent subkeys on)
          where
            on : Gives (look at ⟫ λ _. subkeys_from count list) cells own lent subkeys
            on = record { reads = sym (subkeys_on cells count at (cell_data bytes at) list some (shown_here bytes cells shows at list_holds.0) list_holds.1 is) ∙ h.reads }

            by : (o : List ℕ) → BindStep (list_from list) (λ subkey_list. rule (length subkey_list == count) cause.BadList ⟫ λ _. done subkey_list) cells o lent subkeys → ReadList
            by o s =
                let r = rule_of (length s.x == count) cause.BadList (λ _. done s.x) cells s.own_next s.lent_next subkeys s.next in
                let d = done_of s.x cells s.own_next s.lent_next subkeys r.1 in
                record { its_own = s.own_first; its_lent = s.lent_first; its = subst (λ (z : List ℕ). Gives (list_from list) cells s.own_first s.lent_first z) d.2 s.first }

            looked : LookStep at (λ _. subkeys_from count list) cells own lent subkeys → ReadList
            looked l = by l.own_next (split_of (list_from list) (λ subkey_list. rule (length subkey_list == count) cause.BadList ⟫ λ _. done subkey_list) cells l.own_next lent subkeys l.next)

        -- one list
        pub list_read : list.is_indirect ≡ false → elements_of list ≡ subkeys
        list_read plain = by listed
          where
            by : ReadList → elements_of list ≡ subkeys
            by g = elim (choice_of list.is_indirect (each leaf_at (elements_of list) ⟫ λ lists. done (flat_map (λ l. l) lists)) (done (elements_of list)) cells g.its_own g.its_lent subkeys g.its) [
              | inl k ↦ clash list.is_indirect k.0 plain
              | inr k ↦ (done_of (elements_of list) cells g.its_own g.its_lent subkeys k.1).2
            ]

        -- a list of lists
        record Leaves : Type 0 where
          lists : List (List ℕ)
          leaves_own : List ℕ
          leaves_lent : List ℕ
          reads : Gives (each leaf_at (elements_of list)) cells leaves_own leaves_lent lists
          joined : flat_map (λ (l : List ℕ). l) lists ≡ subkeys

        leaves : list.is_indirect ≡ true → Leaves
        leaves indirect = by listed
          where
            of : (o l : List ℕ) → Gives (each leaf_at (elements_of list) ⟫ λ lists. done (flat_map (λ l. l) lists)) cells o l subkeys → Leaves
            of o l g =
                let s = split_of (each leaf_at (elements_of list)) (λ lists. done (flat_map (λ l. l) lists)) cells o l subkeys g in
                record { lists = s.x; leaves_own = s.own_first; leaves_lent = s.lent_first; reads = s.first; joined = (done_of (flat_map (λ l. l) s.x) cells s.own_next s.lent_next subkeys s.next).2 }

            by : ReadList → Leaves
            by g = elim (choice_of list.is_indirect (each leaf_at (elements_of list) ⟫ λ lists. done (flat_map (λ l. l) lists)) (done (elements_of list)) cells g.its_own g.its_lent subkeys g.its) [
              | inl k ↦ of g.its_own g.its_lent k.1
              | inr k ↦ clash list.is_indirect indirect k.0
            ]

        pub leaf_there : list.is_indirect ≡ true → (leaf : ℕ) → IsIn leaf (elements_of list) → (its : List ℕ) × LeafHas cells leaf its × ((offset : ℕ) → IsIn offset its → IsIn offset subkeys)
        leaf_there indirect leaf i =
            let v : Leaves = leaves indirect in
            let r = each_in leaf_at cells (elements_of list) v.leaves_own v.leaves_lent v.lists v.reads leaf i in
            (r.0, (r.1, r.2, r.3), λ offset j. subst (λ (z : List ℕ). IsIn offset z) v.joined (in_flat offset r.0 v.lists r.4 j))

        pub in_leaf : list.is_indirect ≡ true → (offset : ℕ) → IsIn offset subkeys → (leaf : ℕ) × (its : List ℕ) × IsIn leaf (elements_of list) × LeafHas cells leaf its × IsIn offset its
        in_leaf indirect offset i =
            let v : Leaves = leaves indirect in
            let p = flat_in offset v.lists (subst (λ (z : List ℕ). IsIn offset z) (sym v.joined) i) in
            let r = each_back leaf_at cells (elements_of list) v.leaves_own v.leaves_lent v.lists v.reads p.0 p.1 in
            (r.0, p.0, r.4, (r.1, r.2, r.3), p.2)

pub leaf_one : (cells : Cells) (leaf : ℕ) (its other : List ℕ) → LeafHas cells leaf its → LeafHas cells leaf other → its ≡ other
leaf_one cells leaf its other h g = by (sym (ap (λ (z : Read (List ℕ)). z.says) h.2.reads) ∙ ap (λ (z : Read (List ℕ)). z.says) g.2.reads)
  where
    by : ◌≡◌ {A = Result (List ℕ) Refusal} (Ok its) (Ok other) → its ≡ other
    by e = ap (λ (r : Result (List ℕ) Refusal). elim r as (λ z. List ℕ) [ Ok v ↦ v | Err c ↦ its ]) e
