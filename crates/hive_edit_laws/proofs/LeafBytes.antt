-- Lists of subkeys, by the bytes of their cells.
use Rattle.std.proofs.Common.{◌≡◌, ◌≢◌, inl, inr, ℕ, zero, suc, ◌<◌, ◌≤◌, ◌+◌, ◌*◌, ◌==◌, ne_eqb, nat_le, le-leb, ◌||◌, ◌&&◌, List, [], ◌∷◌, ◌++◌, length, flat_map, slice_index, refl, ◌∙◌, ap, sym, subst, true, false, if◌then◌else◌, Some, Ok, arith, append-nil}
use Rattle.std.proofs.lemmas.Bool.Decides.{eqb_tells}
use Rattle.std.proofs.Math.Nat.{mul-suc}
use Rattle.refusals.specs.declared.refusal.Cause.TheVariants as cause
use Rattle.hive_tree_model.specs.Lists.{IsIn}
use Rattle.hive_tree_model.proofs.Basics.{clash, decided, some_same, yes_if, no_if}
use Rattle.hive_cells.specs.Tiles.{u32_at}
use Rattle.hive_cells.specs.Bins.{Cells}
use Rattle.hive_records.specs.Readers.{done, rule, each, ◌⟫◌}
use Rattle.hive_records.specs.Numbers.{u16_at, words_from, begins_with}
use Rattle.hive_records.specs.Lists.{is_plain, is_hinted, is_indirect, offsets_in, leaf_in, leaf_at, list_in, subkeys_at}
use Rattle.hive_records.specs.Heads.{stride_of}
use Rattle.hive_records.specs.Fields.{Gives}
use Rattle.hive_records.proofs.Local.{Local, local_done, local_choice, local_rule, local_look, local_bind, local_each}
use Rattle.hive_records.proofs.StepsAgain.{gives_on, gives_same, gives_done, gives_rule, gives_yes, gives_no, gives_look, gives_last, second_not}
use Rattle.hive_edit_laws.specs.Shifts.{with_at, without_at, ShiftsIn, ShiftsOut}
use Rattle.hive_edit_laws.specs.Found.{LeafHas, LeavesHave, IsLeaf, IsListOfLists, leaf_words, list_words}
use Rattle.hive_edit_laws.proofs.ReaderSteps.{split_of, rule_of, LookStep, look_of, choice_of, done_of}
use Rattle.hive_edit_laws.proofs.EachSwaps.{same_reading}
use Rattle.hive_edit_laws.proofs.EachParts.{halves, of_halves, of_one, of_none, none_are}
use Rattle.hive_edit_laws.proofs.Shifts.{words_in, words_out, word_like}
use Rattle.hive_edit_laws.proofs.Bools.{second_of, neither, left, right, or_right, at_least}

equal : (n : ℕ) → (n == n) ≡ true
equal n = elim (eqb_tells n n) [ inl k ↦ k.0 | inr k ↦ absurd (k.1 refl) ]

module _ (bytes : List ℕ) where
  letters : (l : ℕ) → begins_with bytes l 4 ≡ true → u16_at bytes 0 ≡ l
  letters l e = elim (eqb_tells (u16_at bytes 0) l) [ inl k ↦ k.1 | inr k ↦ clash (u16_at bytes 0 == l) (second_of (nat_le 4 (length bytes)) (u16_at bytes 0 == l) e) k.0 ]

  other : (l m : ℕ) → u16_at bytes 0 ≡ l → l ≢ m → begins_with bytes m 4 ≡ false
  other l m e n = second_not (nat_le 4 (length bytes)) (u16_at bytes 0 == m) (ne_eqb (u16_at bytes 0) m (λ h. n (sym e ∙ h)))

  plain_stride : is_plain bytes ≡ true → stride_of bytes ≡ 4
  plain_stride e = let l : u16_at bytes 0 ≡ 0x696c = letters 0x696c e in
      no_if (is_hinted bytes) 8 4 (neither (begins_with bytes 0x666c 4) (begins_with bytes 0x686c 4) (other 0x696c 0x666c l (λ h. absurd (omega (arith, h)))) (other 0x696c 0x686c l (λ h. absurd (omega (arith, h)))))

  hinted_stride : is_hinted bytes ≡ true → stride_of bytes ≡ 8
  hinted_stride e = yes_if (is_hinted bytes) 8 4 e

  module _ (cells : Cells) (at : ℕ) (here : cells at ≡ Some bytes) where
    -- what a leaf says, and that it is read so
    pub leaf_says : (its : List ℕ) → LeafHas cells at its → IsLeaf bytes × (its ≡ leaf_words bytes)
    leaf_says its h = by (look_of at leaf_in cells h.0 h.1 its h.2)
      where
        of : (o l : List ℕ) → Gives (leaf_in bytes) cells o l its → IsLeaf bytes × (its ≡ leaf_words bytes)
        of o l g = elim (choice_of (is_plain bytes) (offsets_in 4 bytes) (rule (is_hinted bytes) cause.BadList ⟫ λ _. offsets_in 8 bytes) cells o l its g) [
          | inl p ↦
              let r = rule_of _ _ _ cells o l its p.1 in
              let d = done_of _ cells o l its r.1 in
              let s : stride_of bytes ≡ 4 = plain_stride p.0 in
              ((left (is_plain bytes) (is_hinted bytes) p.0, subst (λ (k : ℕ). 4 + k * u16_at bytes 2 ≤ length bytes) (sym s) (at_least (4 + 4 * u16_at bytes 2) (length bytes) r.0)), sym d.2 ∙ ap (λ (k : ℕ). words_from bytes 4 k (u16_at bytes 2)) (sym s))
          | inr p ↦
              let q = rule_of _ _ _ cells o l its p.1 in
              let r = rule_of _ _ _ cells o l its q.1 in
              let d = done_of _ cells o l its r.1 in
              let s : stride_of bytes ≡ 8 = hinted_stride q.0 in
              ((right (is_plain bytes) (is_hinted bytes) q.0, subst (λ (k : ℕ). 4 + k * u16_at bytes 2 ≤ length bytes) (sym s) (at_least (4 + 8 * u16_at bytes 2) (length bytes) r.0)), sym d.2 ∙ ap (λ (k : ℕ). words_from bytes 4 k (u16_at bytes 2)) (sym s))
        ]

        by : LookStep at leaf_in cells h.0 h.1 its → IsLeaf bytes × (its ≡ leaf_words bytes)
        by k = of k.own_next h.1 (subst (λ (z : List ℕ). Gives (leaf_in z) cells k.own_next h.1 its) (some_same k.bytes bytes (sym k.here ∙ here)) k.next)

    leaf_inside : IsLeaf bytes → Gives (leaf_in bytes) cells [] [] (leaf_words bytes)
    leaf_inside is = elim (decided (is_plain bytes)) [
      | inl p ↦
          let s : stride_of bytes ≡ 4 = plain_stride p in
          gives_yes _ (is_plain bytes) p
          (gives_on _ (gives_rule (nat_le (4 + 4 * u16_at bytes 2) (length bytes)) _ cells (le-leb (4 + 4 * u16_at bytes 2) (length bytes) (subst (λ (k : ℕ). 4 + k * u16_at bytes 2 ≤ length bytes) s is.1)))
          (gives_same (ap (λ (k : ℕ). words_from bytes 4 k (u16_at bytes 2)) (sym s)) (gives_done (words_from bytes 4 4 (u16_at bytes 2)) cells)))
      | inr p ↦
          let h : is_hinted bytes ≡ true = or_right (is_plain bytes) (is_hinted bytes) is.0 p in
          let s : stride_of bytes ≡ 8 = hinted_stride h in
          gives_no (offsets_in 4 bytes) (is_plain bytes) p
          (gives_on _ (gives_rule (is_hinted bytes) _ cells h)
          (gives_on _ (gives_rule (nat_le (4 + 8 * u16_at bytes 2) (length bytes)) _ cells (le-leb (4 + 8 * u16_at bytes 2) (length bytes) (subst (λ (k : ℕ). 4 + k * u16_at bytes 2 ≤ length bytes) s is.1)))
          (gives_same (ap (λ (k : ℕ). words_from bytes 4 k (u16_at bytes 2)) (sym s)) (gives_done (words_from bytes 4 8 (u16_at bytes 2)) cells))))
    ]

    pub leaf_gives : IsLeaf bytes → Gives (leaf_at at) cells (at ∷ []) [] (leaf_words bytes)
    leaf_gives is = gives_on _ (gives_look at cells bytes here) (leaf_inside is)

    indirect_plain : is_indirect bytes ≡ true → is_plain bytes ≡ false
    indirect_plain e = other 0x6972 0x696c (letters 0x6972 e) (λ h. absurd (omega (arith, h)))

    leaf_direct : (is_plain bytes || is_hinted bytes) ≡ true → is_indirect bytes ≡ false
    leaf_direct e = elim (decided (is_indirect bytes)) [
      | inl i ↦
          let l : u16_at bytes 0 ≡ 0x6972 = letters 0x6972 i in
          clash (is_plain bytes || is_hinted bytes) e (neither (is_plain bytes) (is_hinted bytes) (indirect_plain i) (neither (begins_with bytes 0x666c 4) (begins_with bytes 0x686c 4) (other 0x6972 0x666c l (λ h. absurd (omega (arith, h)))) (other 0x6972 0x686c l (λ h. absurd (omega (arith, h))))))
      | inr i ↦ i
    ]

    -- a key's list is one leaf
    pub one_leaf : (count : ℕ) → count ≢ 0 → IsLeaf bytes → length (leaf_words bytes) ≡ count → Gives (subkeys_at count at) cells (at ∷ []) [] (leaf_words bytes)
    one_leaf count some is many =
        gives_no (done []) (count == 0) (ne_eqb count 0 some)
        (gives_on _ (gives_look at cells bytes here)
        (gives_on _ (gives_no _ (is_indirect bytes) (leaf_direct is.0) (leaf_inside is))
        (gives_on _ (gives_rule (length (leaf_words bytes) == count) _ cells (ap (λ (n : ℕ). length (leaf_words bytes) == n) (sym many) ∙ equal (length (leaf_words bytes))))
        (gives_done (leaf_words bytes) cells))))

    -- a key's list is a list of lists
    pub many_leaves : (count : ℕ) (lists : List (List ℕ)) (own : List ℕ) → count ≢ 0 → IsListOfLists bytes → Gives (each leaf_at (list_words bytes)) cells own [] lists → length (flat_map (λ (l : List ℕ). l) lists) ≡ count → Gives (subkeys_at count at) cells (at ∷ own) [] (flat_map (λ (l : List ℕ). l) lists)
    many_leaves count lists own some is reads many = record {
      reads = (gives_no (done []) (count == 0) (ne_eqb count 0 some)
          (gives_on _ (gives_look at cells bytes here)
          (gives_on _ (gives_yes _ (is_indirect bytes) is.0
          (gives_on _ (gives_on _ (gives_rule (nat_le (4 + 4 * u16_at bytes 2) (length bytes)) _ cells (le-leb (4 + 4 * u16_at bytes 2) (length bytes) is.1)) (gives_done (list_words bytes) cells))
          (gives_last (λ (ls : List (List ℕ)). flat_map (λ (l : List ℕ). l) ls) reads)))
          (gives_on _ (gives_rule (length (flat_map (λ (l : List ℕ). l) lists) == count) _ cells (ap (λ (n : ℕ). length (flat_map (λ (l : List ℕ). l) lists) == n) (sym many) ∙ equal (length (flat_map (λ (l : List ℕ). l) lists))))
          (gives_done (flat_map (λ (l : List ℕ). l) lists) cells))))).reads ∙ (λ i. record { own = ap (λ (z : List ℕ). at ∷ z) (append-nil own) i; lent = []; says = Ok (flat_map (λ (l : List ℕ). l) lists) });
    }

-- two lists of one kind
module _ (old new : List ℕ) (same : u16_at new 0 ≡ u16_at old 0) (long_old : 4 ≤ length old) (long_new : 4 ≤ length new) where
  begins_like : (l : ℕ) → begins_with new l 4 ≡ begins_with old l 4
  begins_like l = λ i. (le-leb 4 (length new) long_new ∙ sym (le-leb 4 (length old) long_old)) i && (same i == l)

  pub kind_like : ((is_plain new || is_hinted new) ≡ (is_plain old || is_hinted old)) × (stride_of new ≡ stride_of old) × (is_indirect new ≡ is_indirect old)
  kind_like = (
    λ i. begins_like 0x696c i || (begins_like 0x666c i || begins_like 0x686c i),
    λ i. if begins_like 0x666c i || begins_like 0x686c i then 8 else 4,
    begins_like 0x6972,
  )

module _ (old new : List ℕ) (was : IsLeaf old) (same : u16_at new 0 ≡ u16_at old 0) where
  long_old : 4 ≤ length old
  long_old = (let h : 4 + stride_of old * u16_at old 2 ≤ length old = was.1 in omega (arith, h))

  -- a leaf with another count
  pub leaf_like : (n : ℕ) → u16_at new 2 ≡ n → 4 + stride_of old * n ≤ length new → IsLeaf new × (leaf_words new ≡ words_from new 4 (stride_of old) n)
  leaf_like n count long =
      let long_new : 4 ≤ length new = omega (arith, long) in
      let k = kind_like old new same long_old long_new in
      ((k.0 ∙ was.0, subst (λ (m : ℕ). 4 + m ≤ length new) (λ i. sym k.1 i * sym count i) long), λ i. words_from new 4 (k.1 i) (count i))

-- a leaf with one element more, or one less
pub leaf_more : (before after : Cells) (from at : ℕ) (its old new : List ℕ) (index x : ℕ) → LeafHas before from its → before from ≡ Some old → after at ≡ Some new → u16_at new 0 ≡ u16_at old 0 → u16_at new 2 ≡ suc (u16_at old 2) → 4 + stride_of old * suc (u16_at old 2) ≤ length new → index ≤ u16_at old 2 → ShiftsIn old new 4 (stride_of old) (u16_at old 2) index x →
    Gives (leaf_at at) after (at ∷ []) [] (with_at index x its)
leaf_more before after from at its old new index x had here there same count long most shifts =
    let was = leaf_says old before from here its had in
    let now = leaf_like old new was.0 same (suc (u16_at old 2)) count long in
    gives_same (now.1 ∙ words_in old new 4 (stride_of old) (u16_at old 2) index x most shifts ∙ ap (with_at index x) (sym was.1)) (leaf_gives new after at there now.0)

pub leaf_fewer : (before after : Cells) (from at : ℕ) (its old new : List ℕ) (index : ℕ) → LeafHas before from its → before from ≡ Some old → after at ≡ Some new → u16_at new 0 ≡ u16_at old 0 → u16_at old 2 ≡ suc (u16_at new 2) → 4 + stride_of old * u16_at new 2 ≤ length new → index ≤ u16_at new 2 → ShiftsOut old new 4 (stride_of old) (u16_at new 2) index →
    Gives (leaf_at at) after (at ∷ []) [] (without_at index its)
leaf_fewer before after from at its old new index had here there same count long most shifts =
    let was = leaf_says old before from here its had in
    let now = leaf_like old new was.0 same (u16_at new 2) refl long in
    gives_same (now.1 ∙ words_out old new 4 (stride_of old) (u16_at new 2) index most shifts ∙ ap (λ (n : ℕ). without_at index (words_from old 4 (stride_of old) n)) (sym count) ∙ ap (without_at index) (sym was.1)) (leaf_gives new after at there now.0)

-- words in two parts, and words that are copied
pub words_cut : (bytes : List ℕ) (from stride i m : ℕ) → words_from bytes from stride (i + m) ≡ words_from bytes from stride i ++ words_from bytes (from + stride * i) stride m
words_cut bytes from stride zero m = (λ i. words_from bytes (add_none i) stride (none_add i))
  where
    add_none : from ≡ from + stride * 0
    add_none = omega arith

    none_add : 0 + m ≡ m
    none_add = omega arith
words_cut bytes from stride (suc i) m =
    let size : stride * suc i ≡ stride * i + stride = mul-suc stride i in
    ap (words_from bytes from stride) (next i m)
    ∙ ap (λ (ws : List ℕ). u32_at bytes from ∷ ws) (words_cut bytes (from + stride) stride i m ∙ ap (λ (k : ℕ). words_from bytes (from + stride) stride i ++ words_from bytes k stride m) (omega (arith, size)))
  where
    next : (i m : ℕ) → suc i + m ≡ suc (i + m)
    next i m = omega arith

pub words_copied : (old new : List ℕ) (from to stride m : ℕ) → 4 ≤ stride → ((j : ℕ) → j < stride * m → slice_index new (to + j) ≡ slice_index old (from + j)) → words_from new to stride m ≡ words_from old from stride m
words_copied old new from to stride zero wide same = refl
words_copied old new from to stride (suc m) wide same =
    let size : stride * suc m ≡ stride * m + stride = mul-suc stride m in
    (λ z. word_like new old to from (λ k h. same k (omega (arith, h, wide, size))) z ∷ words_from new (to + stride) stride m)
    ∙ ap (λ (ws : List ℕ). u32_at old from ∷ ws) (words_copied old new (from + stride) (to + stride) stride m wide (λ j h. ap (slice_index new) (omega arith) ∙ same (stride + j) (omega (arith, h, size)) ∙ ap (slice_index old) (omega arith)))

local_leaf : (at : ℕ) → Local (leaf_at at)
local_leaf at = local_bind (local_look _) (λ bytes. local_choice (is_plain bytes) (local_bind (local_rule _ _) (λ _. local_done _)) (local_bind (local_rule _ _) (λ _. local_bind (local_rule _ _) (λ _. local_done _))))

-- lists at offsets
offsets_none : (cells : Cells) (stride : ℕ) (bytes own lent ws : List ℕ) → Gives (offsets_in stride bytes) cells own lent ws → (own ≡ []) × (lent ≡ [])
offsets_none cells stride bytes own lent ws g = let r = rule_of _ _ _ cells own lent ws g in let d = done_of _ cells own lent ws r.1 in (d.0, d.1)

inside_none : (cells : Cells) (bytes own lent ws : List ℕ) → Gives (leaf_in bytes) cells own lent ws → (own ≡ []) × (lent ≡ [])
inside_none cells bytes own lent ws g = elim (choice_of (is_plain bytes) (offsets_in 4 bytes) (rule (is_hinted bytes) cause.BadList ⟫ λ _. offsets_in 8 bytes) cells own lent ws g) [
  | inl p ↦ offsets_none cells 4 bytes own lent ws p.1
  | inr p ↦ offsets_none cells 8 bytes own lent ws (rule_of _ _ _ cells own lent ws p.1).1
]

record One (cells : Cells) (leaf : ℕ) (own lent : List ℕ) (lists : List (List ℕ)) : Type 0 where
  its : List ℕ
  its_own : List ℕ
  its_lent : List ℕ
  reads : Gives (leaf_at leaf) cells its_own its_lent its
  own_is : own ≡ its_own
  lent_is : lent ≡ its_lent
  are : lists ≡ its ∷ []

one_read : (cells : Cells) (leaf : ℕ) (own lent : List ℕ) (lists : List (List ℕ)) → Gives (each leaf_at (leaf ∷ [])) cells own lent lists → One cells leaf own lent lists
unfolding each
one_read cells leaf own lent lists g =
    let s = split_of (leaf_at leaf) (λ y. done [] ⟫ λ ys. done (y ∷ ys)) cells own lent lists g in
    let t = split_of (done []) (λ ys. done (s.x ∷ ys)) cells s.own_next s.lent_next lists s.next in
    let d = done_of [] cells t.own_first t.lent_first t.x t.first in
    let e = done_of (s.x ∷ t.x) cells t.own_next t.lent_next lists t.next in
    record {
      its = s.x;
      its_own = s.own_first;
      its_lent = s.lent_first;
      reads = s.first;
      own_is = s.own_is ∙ ap (λ (z : List ℕ). s.own_first ++ z) (t.own_is ∙ (λ j. d.0 j ++ e.0 j)) ∙ append-nil s.own_first;
      lent_is = s.lent_is ∙ ap (λ (z : List ℕ). s.lent_first ++ z) (t.lent_is ∙ (λ j. d.1 j ++ e.1 j)) ∙ append-nil s.lent_first;
      are = sym e.2 ∙ ap (λ (z : List (List ℕ)). s.x ∷ z) (sym d.2);
    }

leaf_own : (cells : Cells) (leaf : ℕ) (own lent its : List ℕ) → Gives (leaf_at leaf) cells own lent its → (own ≡ leaf ∷ []) × (lent ≡ [])
leaf_own cells leaf own lent its h =
    let k = look_of leaf leaf_in cells own lent its h in
    let n = inside_none cells k.bytes k.own_next lent its k.next in
    (k.own_is ∙ ap (λ (z : List ℕ). leaf ∷ z) n.0, n.1)

pub leaves_own : (cells : Cells) (leaves : List ℕ) (lists : List (List ℕ)) (own lent : List ℕ) → Gives (each leaf_at leaves) cells own lent lists → (own ≡ leaves) × (lent ≡ [])
leaves_own cells [] lists own lent h = let d = none_are leaf_at cells own lent lists h in (d.0, d.1)
leaves_own cells (leaf ∷ leaves) lists own lent h =
    let t = halves leaf_at cells (leaf ∷ []) leaves own lent lists h in
    let rest = leaves_own cells leaves t.ws t.own_w t.lent_w t.second in
    let one = one_read cells leaf t.own_u t.lent_u t.us t.first in
    let mine = leaf_own cells leaf one.its_own one.its_lent one.its one.reads in
    (t.own_is ∙ (λ i. (one.own_is ∙ mine.0) i ++ rest.0 i), t.lent_is ∙ (λ i. (one.lent_is ∙ mine.1) i ++ rest.1 i))

pub leaves_none : (cells : Cells) → LeavesHave cells [] []
leaves_none cells = ([], [], of_none leaf_at cells)

pub leaves_one : (cells : Cells) (leaf : ℕ) (its : List ℕ) → LeafHas cells leaf its → LeavesHave cells (leaf ∷ []) (its ∷ [])
leaves_one cells leaf its h = (h.0 ++ [], h.1 ++ [], of_one leaf_at cells leaf [] h.0 [] h.1 [] its [] h.2 (of_none leaf_at cells))

pub one_of_leaves : (cells : Cells) (leaf : ℕ) (lists : List (List ℕ)) → LeavesHave cells (leaf ∷ []) lists → (its : List ℕ) × LeafHas cells leaf its × (lists ≡ its ∷ [])
one_of_leaves cells leaf lists h = let one = one_read cells leaf h.0 h.1 lists h.2 in (one.its, (one.its_own, one.its_lent, one.reads), one.are)

pub leaves_join : (cells : Cells) (xs ys : List ℕ) (us ws : List (List ℕ)) → LeavesHave cells xs us → LeavesHave cells ys ws → LeavesHave cells (xs ++ ys) (us ++ ws)
leaves_join cells xs ys us ws h g = (h.0 ++ g.0, h.1 ++ g.1, of_halves leaf_at cells xs ys h.0 g.0 h.1 g.1 us ws h.2 g.2)

pub leaves_split : (cells : Cells) (xs ys : List ℕ) (lists : List (List ℕ)) → LeavesHave cells (xs ++ ys) lists → (us : List (List ℕ)) × (ws : List (List ℕ)) × LeavesHave cells xs us × LeavesHave cells ys ws × (lists ≡ us ++ ws)
leaves_split cells xs ys lists h = let t = halves leaf_at cells xs ys h.0 h.1 lists h.2 in (t.us, t.ws, (t.own_u, t.lent_u, t.first), (t.own_w, t.lent_w, t.second), t.are)

pub leaves_stay : (before after : Cells) (leaves : List ℕ) (lists : List (List ℕ)) → LeavesHave before leaves lists → ((leaf : ℕ) → IsIn leaf leaves → after leaf ≡ before leaf) → LeavesHave after leaves lists
leaves_stay before after leaves lists h stays =
    let own = leaves_own before leaves lists h.0 h.1 h.2 in
    (h.0, h.1, same_reading (each leaf_at leaves) (local_each local_leaf leaves) before after h.0 h.1 lists h.2 (λ cell i. stays cell (subst (λ (z : List ℕ). IsIn cell z) own.0 i)) (λ cell i. absurd (subst (λ (z : List ℕ). IsIn cell z) own.1 i)))

-- a key's list in cells
pub list_cells_none : (cells : Cells) (count at : ℕ) (own lent its : List ℕ) → Gives (subkeys_at count at) cells own lent its → count ≡ 0 → (own ≡ []) × (its ≡ [])
list_cells_none cells count at own lent its h zero_is = elim (choice_of (count == 0) _ _ cells own lent its h) [
  | inl g ↦ let d = done_of [] cells own lent its g.1 in (d.0, sym d.2)
  | inr g ↦ elim (eqb_tells count 0) [ inl k ↦ clash (count == 0) k.0 g.0 | inr k ↦ absurd (k.1 zero_is) ]
]

module _ (cells : Cells) (count at : ℕ) (own lent its bytes : List ℕ) (h : Gives (subkeys_at count at) cells own lent its) (some : count ≢ 0) (here : cells at ≡ Some bytes) where
  record Inside : Type 0 where
    its_own : List ℕ
    its_lent : List ℕ
    reads : Gives (list_in bytes) cells its_own its_lent its
    own_is : own ≡ at ∷ its_own
    lent_is : lent ≡ its_lent
    many : length its ≡ count

  list_inside : Inside
  list_inside = elim (choice_of (count == 0) _ _ cells own lent its h) [
    | inl g ↦ elim (eqb_tells count 0) [ inl k ↦ absurd (some k.1) | inr k ↦ clash (count == 0) g.0 k.0 ]
    | inr g ↦ by (look_of at _ cells own lent its g.1)
  ]
    where
      by : LookStep at (λ b. list_in b ⟫ λ subkey_list. rule (length subkey_list == count) cause.BadList ⟫ λ _. done subkey_list) cells own lent its → Inside
      by l =
          let s = split_of (list_in l.bytes) _ cells l.own_next lent its l.next in
          let r = rule_of _ _ _ cells s.own_next s.lent_next its s.next in
          let d = done_of _ cells s.own_next s.lent_next its r.1 in
          let same : l.bytes ≡ bytes = some_same l.bytes bytes (sym l.here ∙ here) in
          record {
            its_own = s.own_first;
            its_lent = s.lent_first;
            reads = subst (λ (z : List ℕ). Gives (list_in z) cells s.own_first s.lent_first its) same (gives_same d.2 s.first);
            own_is = l.own_is ∙ ap (λ (z : List ℕ). at ∷ z) (s.own_is ∙ ap (λ (z : List ℕ). s.own_first ++ z) d.0 ∙ append-nil s.own_first);
            lent_is = s.lent_is ∙ ap (λ (z : List ℕ). s.lent_first ++ z) d.1 ∙ append-nil s.lent_first;
            many = ap length (sym d.2) ∙ elim (eqb_tells (length s.x) count) [ inl k ↦ k.1 | inr k ↦ clash (length s.x == count) r.0 k.0 ];
          }

  pub list_length : length its ≡ count
  list_length = by list_inside
    where
      by : Inside → length its ≡ count
      by k = k.many

  -- if it is one leaf
  pub list_is_leaf : is_indirect bytes ≡ false → (own ≡ at ∷ []) × LeafHas cells at its
  list_is_leaf direct = by list_inside
    where
      by : Inside → (own ≡ at ∷ []) × LeafHas cells at its
      by k = elim (choice_of (is_indirect bytes) _ _ cells k.its_own k.its_lent its k.reads) [
        | inl g ↦ clash (is_indirect bytes) g.0 direct
        | inr g ↦
            let leaf : Gives (leaf_at at) cells (at ∷ k.its_own) k.its_lent its = gives_on _ (gives_look at cells bytes here) g.1 in
            (k.own_is ∙ (leaf_own cells at (at ∷ k.its_own) k.its_lent its leaf).0, (at ∷ k.its_own, k.its_lent, leaf))
      ]

  -- if it is a list of lists
  pub list_has_leaves : is_indirect bytes ≡ true → IsListOfLists bytes × (own ≡ at ∷ list_words bytes) × (lists : List (List ℕ)) × LeavesHave cells (list_words bytes) lists × (its ≡ flat_map (λ (l : List ℕ). l) lists)
  list_has_leaves indirect = by list_inside
    where
      of : (k : Inside) → Gives (offsets_in 4 bytes ⟫ λ leaves. each leaf_at leaves ⟫ λ lists. done (flat_map (λ l. l) lists)) cells k.its_own k.its_lent its → IsListOfLists bytes × (own ≡ at ∷ list_words bytes) × (lists : List (List ℕ)) × LeavesHave cells (list_words bytes) lists × (its ≡ flat_map (λ (l : List ℕ). l) lists)
      of k g =
          let s = split_of (offsets_in 4 bytes) _ cells k.its_own k.its_lent its g in
          let r = rule_of _ _ _ cells s.own_first s.lent_first s.x s.first in
          let d = done_of _ cells s.own_first s.lent_first s.x r.1 in
          let t = split_of (each leaf_at s.x) _ cells s.own_next s.lent_next its s.next in
          let e = done_of _ cells t.own_next t.lent_next its t.next in
          let reads : Gives (each leaf_at (list_words bytes)) cells t.own_first t.lent_first t.x = subst (λ (ws : List ℕ). Gives (each leaf_at ws) cells t.own_first t.lent_first t.x) (sym d.2) t.first in
          let all = leaves_own cells (list_words bytes) t.x t.own_first t.lent_first reads in (
            (indirect, at_least (4 + 4 * u16_at bytes 2) (length bytes) r.0),
            k.own_is ∙ ap (λ (z : List ℕ). at ∷ z) (s.own_is ∙ ap (λ (z : List ℕ). z ++ s.own_next) d.0 ∙ t.own_is ∙ ap (λ (z : List ℕ). t.own_first ++ z) e.0 ∙ append-nil t.own_first ∙ all.0),
            t.x,
            (t.own_first, t.lent_first, reads),
            sym e.2,
          )

      by : Inside → IsListOfLists bytes × (own ≡ at ∷ list_words bytes) × (lists : List (List ℕ)) × LeavesHave cells (list_words bytes) lists × (its ≡ flat_map (λ (l : List ℕ). l) lists)
      by k = elim (choice_of (is_indirect bytes) _ _ cells k.its_own k.its_lent its k.reads) [
        | inl g ↦ of k g.1
        | inr g ↦ clash (is_indirect bytes) indirect g.0
      ]

pub lists_read : (bytes : List ℕ) (cells : Cells) (at : ℕ) → cells at ≡ Some bytes → (count : ℕ) (lists : List (List ℕ)) → count ≢ 0 → IsListOfLists bytes → LeavesHave cells (list_words bytes) lists → length (flat_map (λ (l : List ℕ). l) lists) ≡ count → Gives (subkeys_at count at) cells (at ∷ list_words bytes) [] (flat_map (λ (l : List ℕ). l) lists)
lists_read bytes cells at here count lists some is has many =
    let own = leaves_own cells (list_words bytes) lists has.0 has.1 has.2 in
    many_leaves bytes cells at here count lists (list_words bytes) some is (record { reads = (has.2).reads ∙ (λ i. record { own = own.0 i; lent = own.1 i; says = Ok lists }) }) many

-- a list of lists with another count
pub lists_like : (old new : List ℕ) (n : ℕ) → IsListOfLists old → u16_at new 0 ≡ u16_at old 0 → u16_at new 2 ≡ n → 4 + 4 * n ≤ length new → IsListOfLists new × (list_words new ≡ words_from new 4 4 n)
lists_like old new n was same count long =
    let long_old : 4 ≤ length old = (let h : 4 + 4 * u16_at old 2 ≤ length old = was.1 in omega (arith, h)) in
    let k = kind_like old new same long_old (omega (arith, long)) in
    ((k.2 ∙ was.0, subst (λ (m : ℕ). 4 + 4 * m ≤ length new) (sym count) long), ap (words_from new 4 4) count)
