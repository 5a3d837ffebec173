-- Rules that are right in a store.
use Rattle.std.proofs.Common.{◌≡◌, inl, inr, ℕ, List, Bool, true, refl, sym, ap, subst, ◌∙◌, Some}
use Rattle.std.specs.Prelude.{nat_eq, ◌&&◌, ◌==◌, if◌then◌else◌}
use Rattle.std.specs.Cmp.Lexicographic.{pointwise}
use Rattle.std.proofs.lemmas.Bool.{cases_Bool, eqb-true, eq-eqb, and_from, and_parts}
use Rattle.std.proofs.lemmas.Slice.Eq.{bytes_eq-Decides}
use Rattle.std.proofs.lemmas.Option.{same_Some}
use Rattle.reg_tree.specs.Maps.{TreeMap}
use Rattle.hive_flush_model.specs.StoredTrees.{TreeDecoder, FilesHoldTree}
use Rattle.hive_load.specs.Limits.{BinsEncodeTreeInLimits}
use Rattle.hive_flush.specs.Decoders.{HiveFilesHold, DecoderIsSound, decoder_with}

-- what two files hold by a rule that is right in a store, they hold as a hive of it
pub held_under : (store : List ℕ) (stands : TreeDecoder TreeMap) (primary log : List ℕ) (x : TreeMap × ℕ) → DecoderIsSound store stands → FilesHoldTree stands primary log x → HiveFilesHold store primary log x
held_under store stands primary log x right h =
    let hive_refusal = right h.bins h.block.root h.block.minor h.block.store x.0 h.tree in
    record { block = h.block; bins = h.bins; in_use = h.in_use; own = h.own; sector = h.sector; store_is = hive_refusal.0; tree = hive_refusal.1; number = h.number }

-- ---- one tree more

same_for : (bytes : List ℕ) (root minor : ℕ) (store b : List ℕ) (r m : ℕ) (s : List ℕ) → Bool
same_for bytes root minor store b r m s = pointwise nat_eq b bytes && (pointwise nat_eq s store && ((r == root) && (m == minor)))

pub gives : (stands : TreeDecoder TreeMap) (bytes : List ℕ) (root minor : ℕ) (store : List ℕ) (tree : TreeMap) → decoder_with stands bytes root minor store tree bytes root minor store ≡ Some tree
unfolding same_for
gives stands bytes root minor store tree =
    let it : same_for bytes root minor store bytes root minor store ≡ true =
    and_from _ _ ((bytes_eq-Decides bytes bytes).1 refl) (and_from _ _ ((bytes_eq-Decides store store).1 refl) (and_from _ _ (eq-eqb root root refl) (eq-eqb minor minor refl))) in
    ap (λ (t : Bool). if t then Some tree else stands bytes root minor store) it

pub gives_right : (stands : TreeDecoder TreeMap) (bytes : List ℕ) (root minor : ℕ) (store : List ℕ) (tree : TreeMap) (of : List ℕ) → DecoderIsSound of stands → store ≡ of → BinsEncodeTreeInLimits bytes root minor tree
    → DecoderIsSound of (decoder_with stands bytes root minor store tree)
unfolding same_for
gives_right stands bytes root minor store tree of right is within b r m s t e = elim (cases_Bool (same_for bytes root minor store b r m s)) [
  | inl it ↦
      let parts = and_parts _ _ it in
      let more = and_parts _ _ parts.1 in
      let rest = and_parts _ _ more.1 in
      let b_is : b ≡ bytes = (bytes_eq-Decides b bytes).0 parts.0 in
      let s_is : s ≡ store = (bytes_eq-Decides s store).0 more.0 in
      let r_is : r ≡ root = eqb-true r root rest.0 in
      let m_is : m ≡ minor = eqb-true m minor rest.1 in
      let t_is : tree ≡ t = same_Some tree t (sym (ap (λ (q : Bool). if q then Some tree else stands b r m s) it) ∙ e) in (
        s_is ∙ is,
        subst (λ (u : TreeMap). BinsEncodeTreeInLimits b r m u) t_is (subst (λ (n : ℕ). BinsEncodeTreeInLimits b r n tree) (sym m_is) (subst (λ (n : ℕ). BinsEncodeTreeInLimits b n minor tree) (sym r_is)
            (subst (λ (l : List ℕ). BinsEncodeTreeInLimits l root minor tree) (sym b_is) within))),
      )
  | inr other ↦ right b r m s t (sym (ap (λ (q : Bool). if q then Some tree else stands b r m s) other) ∙ e)
]

pub gives_still : (stands : TreeDecoder TreeMap) (bytes : List ℕ) (root minor : ℕ) (store : List ℕ) (tree : TreeMap) (b : List ℕ) (r m : ℕ) (s : List ℕ) (t : TreeMap)
    → (b ≡ bytes → r ≡ root → m ≡ minor → tree ≡ t) → stands b r m s ≡ Some t → decoder_with stands bytes root minor store tree b r m s ≡ Some t
unfolding same_for
gives_still stands bytes root minor store tree b r m s t one e = elim (cases_Bool (same_for bytes root minor store b r m s)) [
  | inl it ↦
      let parts = and_parts _ _ it in
      let rest = and_parts _ _ (and_parts _ _ parts.1).1 in
      ap (λ (q : Bool). if q then Some tree else stands b r m s) it ∙ ap (λ (u : TreeMap). Some u) (one ((bytes_eq-Decides b bytes).0 parts.0) (eqb-true r root rest.0) (eqb-true m minor rest.1))
  | inr other ↦ ap (λ (q : Bool). if q then Some tree else stands b r m s) other ∙ e
]
