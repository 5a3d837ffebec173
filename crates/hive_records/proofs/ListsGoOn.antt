-- The same for lists of subkeys: a list that breaks a rule by itself is refused wherever it is met; else its elements
-- are those that the definition reads.
use Rattle.std.proofs.Common.{◌≡◌, ◌≢◌, ℕ, zero, suc, ◌+◌, ◌-◌, ◌*◌, ◌≤◌, ◌<◌, ◌==◌, nat_le, Bool, true, false, not, ◌||◌, ◌&&◌, if◌then◌else◌, List, [], ◌∷◌, length, take, drop, slice_index, flat_map, refl, ◌∙◌, ap, sym, Err, Some, None, arith, mul-suc}
use Rattle.std.proofs.lemmas.Bool.{eqb-true, ne_eqb}
use Rattle.std.proofs.lemmas.List.{get_or-take, get_or-drop}
use Rattle.refusals.specs.declared.refusal.Refusal.{Refusal}
use Rattle.refusals.specs.declared.refusal.Cause.TheVariants as cause
use Rattle.hive_tree_model.proofs.Basics.{never}
use Rattle.hive_cells.specs.Tiles.{u32_at}
use Rattle.hive_cells.specs.Bins.{Cells}
use Rattle.hive_records.specs.Readers.{Reader, done, refuse, look, choice, rule, each, ◌⟫◌}
use Rattle.hive_records.specs.Numbers.{u16_at, begins_with, words_from}
use Rattle.hive_records.specs.Lists.{is_plain, is_hinted, is_indirect, leaf_in, leaf_at, list_in, subkeys_at}
use Rattle.hive_records.specs.Heads.{hive_damage, stride_of, list_fault, IsSubkeyList}
use Rattle.hive_records.specs.RecordReaders.{elements_of, leaf_from, list_from, subkeys_from}
use Rattle.hive_records.specs.declared.list_record.SubkeyList.{SubkeyList}
use Rattle.hive_records.proofs.RecordReaders.{guarded, guarded_out, guarded_on, rule_on, given_as, looked_out, looked_on, not_chosen}

-- ---- what the letters of a list say

second : (a b : Bool) → (a && b) ≡ true → b ≡ true
second true b e = e
second false b e = never e

letters : (bytes : List ℕ) (l : ℕ) → begins_with bytes l 4 ≡ true → u16_at bytes 0 ≡ l
letters bytes l e = eqb-true (u16_at bytes 0) l (second (nat_le 4 (length bytes)) (u16_at bytes 0 == l) e)

neither : (a b : Bool) → (a ≡ true → ⊥) → (b ≡ true → ⊥) → (a || b) ≡ false
neither true b h g = absurd (h refl)
neither false true h g = absurd (g refl)
neither false false h g = refl

no_other : (b : Bool) → (b ≡ true → ⊥) → b ≡ false
no_other true h = absurd (h refl)
no_other false h = refl

plain_alone : (bytes : List ℕ) → is_plain bytes ≡ true → is_hinted bytes ≡ false
plain_alone bytes e = let p = letters bytes 0x696c e in neither (begins_with bytes 0x666c 4) (begins_with bytes 0x686c 4)
    (λ h. let q = letters bytes 0x666c h in absurd (omega (arith, p, q)))
    (λ h. let q = letters bytes 0x686c h in absurd (omega (arith, p, q)))

indirect_alone : (bytes : List ℕ) → is_indirect bytes ≡ true → is_hinted bytes ≡ false
indirect_alone bytes e = let p = letters bytes 0x6972 e in neither (begins_with bytes 0x666c 4) (begins_with bytes 0x686c 4)
    (λ h. let q = letters bytes 0x666c h in absurd (omega (arith, p, q)))
    (λ h. let q = letters bytes 0x686c h in absurd (omega (arith, p, q)))

indirect_not_plain : (bytes : List ℕ) → is_indirect bytes ≡ true → is_plain bytes ≡ false
indirect_not_plain bytes e = let p = letters bytes 0x6972 e in no_other (is_plain bytes) (λ h. let q = letters bytes 0x696c h in absurd (omega (arith, p, q)))

-- ---- one list, by its kind

abbrev width_of : Bool → ℕ
width_of h = if h then 8 else 4

module _ (fit : ℕ → Bool) (words : ℕ → List ℕ) where
  abbrev its_words : ℕ → Reader (List ℕ)
  its_words stride = rule (fit stride) cause.BadList ⟫ λ _. done (words stride)

  list_kinds : (i p h : Bool) → (i ≡ true → h ≡ false) → (p ≡ true → h ≡ false) → (k : List ℕ → Reader (List ℕ)) →
      choice i (its_words 4 ⟫ k) (choice p (its_words 4) (rule h cause.BadList ⟫ λ _. its_words 8))
      ≡ choice (p || (h || i)) (choice (fit (width_of h)) (choice i (k (words (width_of h))) (done (words (width_of h)))) (refuse (hive_damage cause.BadList))) (refuse (hive_damage cause.BadList))
  unfolding choice
  list_kinds true p true a b k = never (sym (a refl))
  list_kinds true true false a b k = given_as (fit 4) cause.BadList (words 4) k
  list_kinds true false false a b k = given_as (fit 4) cause.BadList (words 4) k
  list_kinds false true true a b k = never (sym (b refl))
  list_kinds false true false a b k = rule_on (fit 4) cause.BadList (λ _. done (words 4)) refl
  list_kinds false false true a b k = rule_on true cause.BadList (λ _. its_words 8) (rule_on (fit 8) cause.BadList (λ _. done (words 8)) refl)
  list_kinds false false false a b k = rule_on false cause.BadList (λ _. its_words 8) refl

  none_either : (b : Bool) → choice b (refuse (hive_damage cause.BadList)) (refuse (hive_damage cause.BadList)) ≡ refuse {A = List ℕ} (hive_damage cause.BadList)
  unfolding choice
  none_either true = refl
  none_either false = refl

  leaf_kinds : (i p h : Bool) → (i ≡ true → p ≡ false) → (i ≡ true → h ≡ false) → (p ≡ true → h ≡ false) →
      choice p (its_words 4) (rule h cause.BadList ⟫ λ _. its_words 8)
      ≡ choice (p || (h || i)) (choice (fit (width_of h)) (rule (not i) cause.BadList ⟫ λ _. done (words (width_of h))) (refuse (hive_damage cause.BadList))) (refuse (hive_damage cause.BadList))
  unfolding choice
  leaf_kinds true true h a b c = never (sym (a refl))
  leaf_kinds true false true a b c = never (sym (b refl))
  leaf_kinds true false false a b c = rule_on false cause.BadList (λ _. its_words 8) refl
      ∙ sym (ap (λ (m : Reader (List ℕ)). choice (fit 4) m (refuse (hive_damage cause.BadList))) (rule_on false cause.BadList (λ _. done (words 4)) refl) ∙ none_either (fit 4))
  leaf_kinds false true true a b c = never (sym (c refl))
  leaf_kinds false true false a b c = rule_on (fit 4) cause.BadList (λ _. done (words 4)) refl
      ∙ ap (λ (m : Reader (List ℕ)). choice (fit 4) m (refuse (hive_damage cause.BadList))) (sym (rule_on true cause.BadList (λ _. done (words 4)) refl))
  leaf_kinds false false true a b c = rule_on true cause.BadList (λ _. its_words 8) (rule_on (fit 8) cause.BadList (λ _. done (words 8)) refl)
      ∙ ap (λ (m : Reader (List ℕ)). choice (fit 8) m (refuse (hive_damage cause.BadList))) (sym (rule_on true cause.BadList (λ _. done (words 8)) refl))
  leaf_kinds false false false a b c = rule_on false cause.BadList (λ _. its_words 8) refl

-- ---- the elements, cut out

from_zero : (k : ℕ) → 0 + k ≤ k
from_zero k = omega arith

front_off : (k : ℕ) → 4 + k - 4 ≡ k
front_off k = omega arith

index_cut : (bytes : List ℕ) (m i : ℕ) → i < m → slice_index (take m (drop 4 bytes)) i ≡ slice_index bytes (4 + i)
index_cut bytes m i h = get_or-take m (drop 4 bytes) i 0 h ∙ get_or-drop 4 bytes i 0

farther : (i k : ℕ) → 4 + (i + k) ≡ 4 + i + k
farther i k = omega arith

word_cut : (bytes : List ℕ) (m i : ℕ) → i + 4 ≤ m → u32_at (take m (drop 4 bytes)) i ≡ u32_at bytes (4 + i)
unfolding u32_at
word_cut bytes m i h =
    let a = index_cut bytes m i (omega (arith, h)) in
    let b = index_cut bytes m (i + 1) (omega (arith, h)) in
    let c = index_cut bytes m (i + 2) (omega (arith, h)) in
    let d = index_cut bytes m (i + 3) (omega (arith, h)) in
    let far : (k : ℕ) → slice_index bytes (4 + (i + k)) ≡ slice_index bytes (4 + i + k) = λ k. ap (λ (j : ℕ). slice_index bytes j) (farther i k) in
    rw (a, b, c, d, far 1, far 2, far 3) refl

words_cut : (bytes : List ℕ) (m stride : ℕ) → 4 ≤ stride → (n i : ℕ) → i + stride * n ≤ m → words_from (take m (drop 4 bytes)) i stride n ≡ words_from bytes (4 + i) stride n
words_cut bytes m stride wide zero i h = refl
words_cut bytes m stride wide (suc n) i h =
    (λ j. word_cut bytes m i enough j ∷ words_from (take m (drop 4 bytes)) (i + stride) stride n)
    ∙ ap (λ (ws : List ℕ). u32_at bytes (4 + i) ∷ ws) (words_cut bytes m stride wide n (i + stride) more ∙ ap (λ (z : ℕ). words_from bytes z stride n) (omega arith))
  where
    enough : i + 4 ≤ m
    enough = omega (arith, h, wide, mul-suc stride n)

    more : i + stride + stride * n ≤ m
    more = omega (arith, h, mul-suc stride n)

wide_enough : (h : Bool) → 4 ≤ width_of h
wide_enough true = omega arith
wide_enough false = omega arith

elements_same : (list : SubkeyList) (bytes : List ℕ) → IsSubkeyList list bytes → words_from bytes 4 (stride_of bytes) (u16_at bytes 2) ≡ elements_of list
elements_same list bytes h = sym (
    (λ i. words_from (h.elements i) 0 (h.stride i) (h.count i))
    ∙ ap (λ (k : ℕ). words_from (take k (drop 4 bytes)) 0 (stride_of bytes) (u16_at bytes 2)) (front_off (stride_of bytes * u16_at bytes 2))
    ∙ words_cut bytes (stride_of bytes * u16_at bytes 2) (stride_of bytes) (wide_enough (is_hinted bytes)) (u16_at bytes 2) 0 (from_zero (stride_of bytes * u16_at bytes 2)))

-- ---- whole lists

abbrev rules_of : List ℕ → List (Bool × Refusal)
rules_of bytes =
    (is_plain bytes || (is_hinted bytes || is_indirect bytes), hive_damage cause.BadList)
    ∷ (nat_le (4 + stride_of bytes * u16_at bytes 2) (length bytes), hive_damage cause.BadList)
    ∷ []

abbrev below_all : List ℕ → Reader (List ℕ)
below_all leaves = each leaf_at leaves ⟫ λ lists. done (flat_map (λ l. l) lists)

abbrev behind : List ℕ → Reader (List ℕ)
behind bytes = choice (is_indirect bytes) (below_all (words_from bytes 4 (stride_of bytes) (u16_at bytes 2))) (done (words_from bytes 4 (stride_of bytes) (u16_at bytes 2)))

abbrev leaf_behind : List ℕ → Reader (List ℕ)
leaf_behind bytes = rule (not (is_indirect bytes)) cause.BadList ⟫ λ _. done (words_from bytes 4 (stride_of bytes) (u16_at bytes 2))

list_guarded : (bytes : List ℕ) → list_in bytes ≡ guarded (rules_of bytes) (behind bytes)
list_guarded bytes = list_kinds (λ s. nat_le (4 + s * u16_at bytes 2) (length bytes)) (λ s. words_from bytes 4 s (u16_at bytes 2)) (is_indirect bytes) (is_plain bytes) (is_hinted bytes) (indirect_alone bytes) (plain_alone bytes) below_all

leaf_guarded : (bytes : List ℕ) → leaf_in bytes ≡ guarded (rules_of bytes) (leaf_behind bytes)
leaf_guarded bytes = leaf_kinds (λ s. nat_le (4 + s * u16_at bytes 2) (length bytes)) (λ s. words_from bytes 4 s (u16_at bytes 2)) (is_indirect bytes) (is_plain bytes) (is_hinted bytes) (indirect_not_plain bytes) (indirect_alone bytes) (plain_alone bytes)

behind_same : (list : SubkeyList) (bytes : List ℕ) → IsSubkeyList list bytes → behind bytes ≡ list_from list
behind_same list bytes h = λ i. choice (sym h.indirect i) (below_all (elements_same list bytes h i)) (done (elements_same list bytes h i))

leaf_same : (list : SubkeyList) (bytes : List ℕ) → IsSubkeyList list bytes → leaf_behind bytes ≡ leaf_from list
leaf_same list bytes h = λ i. rule (not (sym h.indirect i)) cause.BadList ⟫ λ _. done (elements_same list bytes h i)

pub leaf_out : (cells : Cells) (at : ℕ) (bytes : List ℕ) (r : Refusal) → cells at ≡ Some bytes → list_fault bytes ≡ Some r → leaf_at at cells ≡ record { own = at ∷ []; lent = []; says = Err r }
leaf_out cells at bytes r e f = looked_out at cells bytes leaf_in r e (leaf_guarded bytes ∙ guarded_out (rules_of bytes) (leaf_behind bytes) r f)

pub leaf_on : (cells : Cells) (at : ℕ) (bytes : List ℕ) (list : SubkeyList) → cells at ≡ Some bytes → list_fault bytes ≡ None → IsSubkeyList list bytes → leaf_at at cells ≡ (look at ⟫ λ _. leaf_from list) cells
leaf_on cells at bytes list e f h = looked_on at cells bytes leaf_in (leaf_from list) e (leaf_guarded bytes ∙ guarded_on (rules_of bytes) (leaf_behind bytes) f ∙ leaf_same list bytes h)

refused_so : {A B : Type 0} (r : Refusal) (g : A → Reader B) → (refuse r ⟫ g) ≡ refuse r
unfolding refuse ◌⟫◌
refused_so r g = refl

abbrev counted : ℕ → List ℕ → Reader (List ℕ)
counted count subkey_list = rule (length subkey_list == count) cause.BadList ⟫ λ _. done subkey_list

some_subkeys : (count : ℕ) (m : Reader (List ℕ)) → count ≢ 0 → choice (count == 0) (done []) m ≡ m
some_subkeys count m apart = not_chosen (count == 0) (done []) m (ne_eqb count 0 apart)

pub subkeys_out : (cells : Cells) (count at : ℕ) (bytes : List ℕ) (r : Refusal) → count ≢ 0 → cells at ≡ Some bytes → list_fault bytes ≡ Some r → subkeys_at count at cells ≡ record { own = at ∷ []; lent = []; says = Err r }
subkeys_out cells count at bytes r apart e f = ap (λ (m : Reader (List ℕ)). m cells) (some_subkeys count (look at ⟫ λ b. list_in b ⟫ counted count) apart)
    ∙ looked_out at cells bytes (λ b. list_in b ⟫ counted count) r e (ap (λ (m : Reader (List ℕ)). m ⟫ counted count) (list_guarded bytes ∙ guarded_out (rules_of bytes) (behind bytes) r f) ∙ refused_so r (counted count))

pub subkeys_on : (cells : Cells) (count at : ℕ) (bytes : List ℕ) (list : SubkeyList) → count ≢ 0 → cells at ≡ Some bytes → list_fault bytes ≡ None → IsSubkeyList list bytes → subkeys_at count at cells ≡ (look at ⟫ λ _. subkeys_from count list) cells
subkeys_on cells count at bytes list apart e f h = ap (λ (m : Reader (List ℕ)). m cells) (some_subkeys count (look at ⟫ λ b. list_in b ⟫ counted count) apart)
    ∙ looked_on at cells bytes (λ b. list_in b ⟫ counted count) (subkeys_from count list) e (ap (λ (m : Reader (List ℕ)). m ⟫ counted count) (list_guarded bytes ∙ guarded_on (rules_of bytes) (behind bytes) f ∙ behind_same list bytes h))
