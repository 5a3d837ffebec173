-- Big data, step by step.
use Rattle.std.proofs.Common.{◌≡◌, inl, inr, ◌<◌, ◌+◌, ◌-◌, ◌*◌, ◌==◌, nat_le, ℕ, zero, suc, List, [], ◌∷◌, ◌++◌, length, get_or, flat_map, refl, ◌∙◌, ap, sym, subst, true, false, Ok, Err, Result, Some, None, arith, take, append-nil, append_assoc, le_of_eq}
use Rattle.refusals.specs.declared.refusal.Refusal.{Refusal}
use Rattle.refusals.specs.declared.refusal.Refusal.TheVariants as refusal
use Rattle.refusals.specs.declared.refusal.Cause.TheVariants as cause
use Rattle.std.proofs.lemmas.List.{take_all}
use Rattle.std.proofs.lemmas.Bool.{eqb-true, eq-eqb, ne_eqb}
use Rattle.hive_tree_model.proofs.Basics.{decided, clash, yes_if, no_if}
use Rattle.hive_tree_model.specs.Loads.{CellMarks}
use Rattle.hive_cells.specs.Tiles.{u32_at}
use Rattle.hive_cells.specs.Bins.{Cells}
use Rattle.hive_records.specs.Readers.{done, look, each, ◌⟫◌}
use Rattle.hive_records.specs.Numbers.{words_from}
use Rattle.hive_records.specs.Values.{cell_prefix, segment_sizes, segments_of, big_data}
use Rattle.hive_records.specs.Follows.{Follows}
use Rattle.hive_records.specs.Heads.{big_fault, IsBigData}
use Rattle.hive_records.specs.RecordReaders.{big_from}
use Rattle.hive_records.specs.declared.big_data.BigData.{BigData}
use Rattle.hive_records.proofs.RecordReaders.{big_out, big_on}
use Rattle.hive_records.proofs.Follow.{follows_on, follows_out}
use Rattle.hive_load_parts.specs.CellReads.{joined_prefixes, size_at, FollowsIn}
use Rattle.hive_load_parts.proofs.Kit.{moved, says_err, err_as, rule_kept, rule_broken, done_follows}
use Rattle.hive_load_parts.proofs.Loops.{each_next, each_out, length_words, get_word}
use Rattle.hive_load_parts.proofs.ValueSteps.{looked_at}

module _ (size at : ℕ) (cells : Cells) (old mid : CellMarks) where
  pub big_unseen : (r : Refusal) → Follows (look at) cells old mid (Err r) → Follows (big_data size at) cells old mid (Err r)
  big_unseen r h = follows_out (look at) _ cells old mid mid r h

  module _ (bytes : List ℕ) (here : Follows (look at) cells old mid (Ok bytes)) where
    pub big_refused : (new : CellMarks) (r : Refusal) → big_fault bytes size ≡ Some r → Follows (big_data size at) cells old new (Err r)
    big_refused new r f = says_err (big_data size at) cells old new r _ _ (big_out cells size at bytes r (looked_at at cells old mid bytes here) f)

    module _ (big : BigData) (sound : (big_fault bytes size ≡ None) × IsBigData big bytes) where
      behind : (new : CellMarks) (r : Result (List ℕ) Refusal) → Follows (big_from size big) cells mid new r → Follows (big_data size at) cells old new r
      behind new r h = moved (big_data size at) (look at ⟫ λ _. big_from size big) cells old new r (big_on cells size at bytes big (looked_at at cells old mid bytes here) sound.0 sound.1)
          (follows_on (look at) (λ _. big_from size big) cells old mid new bytes r here h)

      pub big_listless : (new : CellMarks) (r : Refusal) → Follows (look big.segments) cells mid new (Err r) → Follows (big_data size at) cells old new (Err r)
      big_listless new r h = behind new (Err r) (follows_out (look big.segments) _ cells mid new new r h)

      pub big_short : (far : CellMarks) (list : List ℕ) (r : Refusal) → Follows (look big.segments) cells mid far (Ok list) → nat_le (4 * segments_of size) (length list) ≡ false → r ≡ refusal.HiveDamaged 0 cause.BadRecord → Follows (big_data size at) cells old far (Err r)
      big_short far list r h e is = behind far (Err r) (err_as (big_from size big) cells mid far r (refusal.HiveDamaged 0 cause.BadRecord) is
          (follows_on (look big.segments) _ cells mid far far list (Err (refusal.HiveDamaged 0 cause.BadRecord)) h (rule_broken (nat_le (4 * segments_of size) (length list)) cause.BadRecord _ cells far far e)))

      pub big_read : (far new : CellMarks) (list : List ℕ) (r : Result (List ℕ) Refusal) → Follows (look big.segments) cells mid far (Ok list) → nat_le (4 * segments_of size) (length list) ≡ true →
          Follows (joined_prefixes (segment_sizes size (words_from list 0 4 (segments_of size)))) cells far new r → Follows (big_data size at) cells old new r
      big_read far new list r h e g = behind new r (follows_on (look big.segments) _ cells mid far new list r h (rule_kept (nat_le (4 * segments_of size) (length list)) cause.BadRecord _ cells far new r e g))

      pub big_gives : {X : Type 0} (view : X → List ℕ) (far new : CellMarks) (list : List ℕ) (r : Result X Refusal) → Follows (look big.segments) cells mid far (Ok list) → nat_le (4 * segments_of size) (length list) ≡ true →
          FollowsIn view (joined_prefixes (segment_sizes size (words_from list 0 4 (segments_of size)))) cells far new r → FollowsIn view (big_data size at) cells old new r
      big_gives view far new list (Ok x) h e g = big_read far new list (Ok (view x)) h e g
      big_gives view far new list (Err r) h e g = big_read far new list (Err r) h e g

-- ---- segments

pub length_sizes : (left : ℕ) (ws : List ℕ) → length (segment_sizes left ws) ≡ length ws
length_sizes left [] = refl
length_sizes left (w ∷ []) = refl
length_sizes left (w ∷ v ∷ ws) = ap suc (length_sizes (left - 16_344) (v ∷ ws))

no_less : (i : ℕ) → i < length {A = ℕ} [] → ⊥
no_less i h = absurd (omega (arith, h))

no_less_one : (i : ℕ) → suc i < suc zero → ⊥
no_less_one i h = absurd (omega (arith, h))

nothing_off : (left : ℕ) → left ≡ left - 16_344 * 0
nothing_off left = omega arith

not_last : (n : ℕ) → (0 + 1 == suc (suc n)) ≡ false
not_last n = ne_eqb (0 + 1) (suc (suc n)) (λ e. absurd (omega (arith, e)))

later : (left n i : ℕ) → size_at (left - 16_344) n i ≡ size_at left (suc n) (suc i)
later left n i = elim (decided (i + 1 == n)) [
  | inl t ↦ yes_if (i + 1 == n) (left - 16_344 - 16_344 * i) 16_344 t ∙ more_off left i ∙ sym (yes_if (suc i + 1 == suc n) (left - 16_344 * suc i) 16_344 (eq-eqb (suc i + 1) (suc n) (let e = eqb-true (i + 1) n t in omega (arith, e))))
  | inr f ↦ no_if (i + 1 == n) (left - 16_344 - 16_344 * i) 16_344 f ∙ sym (no_if (suc i + 1 == suc n) (left - 16_344 * suc i) 16_344 (ne_eqb (suc i + 1) (suc n) (λ e. clash (i + 1 == n) (eq-eqb (i + 1) n (omega (arith, e))) f)))
]
  where
    more_off : (k j : ℕ) → k - 16_344 - 16_344 * j ≡ k - 16_344 * suc j
    more_off k j = omega arith

pub get_size : (left : ℕ) (ws : List ℕ) (i : ℕ) (d : ℕ × ℕ) → i < length ws → get_or (segment_sizes left ws) i d ≡ (size_at left (length ws) i, get_or ws i 0)
get_size left [] i d h = absurd (no_less i h)
get_size left (w ∷ []) zero d h = λ j. (nothing_off left j, w)
get_size left (w ∷ []) (suc i) d h = absurd (no_less_one i h)
get_size left (w ∷ v ∷ ws) zero d h = λ j. (sym (no_if (0 + 1 == length (w ∷ v ∷ ws)) (left - 16_344 * 0) 16_344 (not_last (length ws))) j, w)
get_size left (w ∷ v ∷ ws) (suc i) d h = get_size (left - 16_344) (v ∷ ws) i d (omega (arith, h)) ∙ (λ j. (later left (length (v ∷ ws)) i j, get_or (v ∷ ws) i 0))

length_cut : (size : ℕ) (list : List ℕ) → length (segment_sizes size (words_from list 0 4 (segments_of size))) ≡ segments_of size
length_cut size list = length_sizes size (words_from list 0 4 (segments_of size)) ∙ length_words list 0 4 (segments_of size)

place_of : (size : ℕ) (list : List ℕ) (i len at : ℕ) → i < segments_of size → len ≡ size_at size (segments_of size) i → at ≡ u32_at list (4 * i) → get_or (segment_sizes size (words_from list 0 4 (segments_of size))) i (0, 0) ≡ (len, at)
place_of size list i len at h e f =
    get_size size (words_from list 0 4 (segments_of size)) i (0, 0) (subst (λ z. i < z) (sym (length_words list 0 4 (segments_of size))) h)
    ∙ (λ j. (size_at size (length_words list 0 4 (segments_of size) j) i, get_word list 0 4 (segments_of size) i h j))
    ∙ (λ j. (sym e j, (ap (u32_at list) (front i) ∙ sym f) j))
  where
    front : (k : ℕ) → 0 + 4 * k ≡ 4 * k
    front k = omega arith

module _ (size : ℕ) (list : List ℕ) (cells : Cells) (old mid new : CellMarks) (i len at : ℕ) (h : i < segments_of size) (e : len ≡ size_at size (segments_of size) i) (f : at ≡ u32_at list (4 * i)) (ys : List (List ℕ))
    (before : Follows (each (λ s. cell_prefix s.0 s.1) (take i (segment_sizes size (words_from list 0 4 (segments_of size))))) cells old mid (Ok ys)) where
  pub segment_out : (r : Refusal) → Follows (cell_prefix len at) cells mid new (Err r) → Follows (joined_prefixes (segment_sizes size (words_from list 0 4 (segments_of size)))) cells old new (Err r)
  segment_out r g = follows_out (each (λ s. cell_prefix s.0 s.1) (segment_sizes size (words_from list 0 4 (segments_of size)))) _ cells old new new r
      (each_out (λ s. cell_prefix s.0 s.1) (segment_sizes size (words_from list 0 4 (segments_of size))) i (0, 0) (len, at) cells old mid new ys r (subst (λ z. i < z) (sym (length_cut size list)) h) (place_of size list i len at h e f) before g)

  pub segment_next : (y : List ℕ) → Follows (cell_prefix len at) cells mid new (Ok y) → Follows (each (λ s. cell_prefix s.0 s.1) (take (i + 1) (segment_sizes size (words_from list 0 4 (segments_of size))))) cells old new (Ok (ys ++ y ∷ []))
  segment_next y g = each_next (λ s. cell_prefix s.0 s.1) (segment_sizes size (words_from list 0 4 (segments_of size))) i (0, 0) (len, at) cells old mid new ys y (subst (λ z. i < z) (sym (length_cut size list)) h) (place_of size list i len at h e f) before g

pub flat_more : (ys : List (List ℕ)) (y : List ℕ) → flat_map (λ p. p) (ys ++ y ∷ []) ≡ flat_map (λ p. p) ys ++ y
flat_more [] y = append-nil y
flat_more (x ∷ ys) y = ap (λ z. x ++ z) (flat_more ys y) ∙ sym (append_assoc x (flat_map (λ p. p) ys) y)

pub segments_all : (size : ℕ) (list : List ℕ) (cells : Cells) (old new : CellMarks) (ys : List (List ℕ)) (bytes : List ℕ) (n : ℕ) → n ≡ segments_of size → bytes ≡ flat_map (λ p. p) ys →
    Follows (each (λ s. cell_prefix s.0 s.1) (take n (segment_sizes size (words_from list 0 4 (segments_of size))))) cells old new (Ok ys) → Follows (joined_prefixes (segment_sizes size (words_from list 0 4 (segments_of size)))) cells old new (Ok bytes)
segments_all size list cells old new ys bytes n e f g =
    follows_on (each (λ s. cell_prefix s.0 s.1) (segment_sizes size (words_from list 0 4 (segments_of size)))) (λ pieces. done (flat_map (λ p. p) pieces)) cells old new new ys (Ok bytes)
    (subst (λ z. Follows (each (λ s. cell_prefix s.0 s.1) z) cells old new (Ok ys)) (take_all n (segment_sizes size (words_from list 0 4 (segments_of size))) (le_of_eq (length_cut size list ∙ sym e))) g)
    (done_follows (flat_map (λ p. p) ys) bytes cells new (sym f))
