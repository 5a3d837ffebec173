-- The function `held` and the relation `FilesHoldTree` are one.
use Rattle.std.proofs.Common.{◌≡◌, ◌⊎◌, inl, inr, ℕ, zero, suc, ◌+◌, ◌*◌, ◌/◌, ◌%◌, ◌<◌, ◌≤◌, Bool, true, false, eqb, leb, List, length, take, drop, refl, sym, ap, ◌∙◌, subst, arith, Option, Some, None}
use Rattle.std.specs.Prelude.{◌&&◌, ◌||◌, not, codes, nat_eq, if◌then◌else◌}
use Rattle.std.specs.Cmp.Lexicographic.{pointwise, same_text}
use Rattle.std.specs.Bool.{MatchBool}
use Rattle.std.proofs.lemmas.Bool.{cases_Bool, cases_eq, eq-eqb, ne_eqb, le-leb, leb-true, eqb-true, and_from, and_parts, MatchBool-at_true, MatchBool-at_false}
use Rattle.std.proofs.lemmas.Option.{same_Some, none-some}
use Rattle.base_block.specs.declared.block.BaseBlock.{BaseBlock}
use Rattle.base_block.specs.declared.block.TheConstants.{MINOR_VERSION, OLDEST_MINOR_VERSION}
use Rattle.base_block.specs.Judgements.{IsUsable, IsPrimaryVersion, IsLogVersion, IsPrimary, IsLog}
use Rattle.dirty_vector.specs.Pages.{Pages, is_dirty, dirty_count}
use Rattle.dirt_log.specs.LogEncoding.{bitmap_end, pages_at}
use Rattle.dirt_log.specs.WholeLog.{LogIsWhole, IsCovered, block_of, pages_in, page_bytes_in, repaired}
use Rattle.dirt_log.specs.FileContents.{is_clean_file, PrimaryDecodesTo, LogRepairsTo}
use Rattle.hive_flush_model.specs.StoredTrees.{TreeDecoder, tree_under, FilesHoldTree}
use Rattle.hive_flush_model.proofs.StoredTrees.{true_false}
use Rattle.hive_flush_model.specs.Decisions.{is_usable, is_primary_version, is_log_version, is_primary, is_log, is_whole, covers_below, with_number, held_by_clean, held_by_log, held}

or_left : (x y : Bool) → x ≡ true → (x || y) ≡ true
or_left x y e = ap (λ (b : Bool). b || y) e

or_right : (x y : Bool) → y ≡ true → (x || y) ≡ true
or_right x y e = elim (cases_Bool x) [ inl t ↦ ap (λ (b : Bool). b || y) t | inr f ↦ ap (λ (b : Bool). b || y) f ∙ e ]

usable_test : (b : BaseBlock) → IsUsable b → is_usable b ≡ true
usable_test b h =
    and_from _ _ (eq-eqb b.signature.0 1718052210 h.signature)
    (and_from _ _ (eq-eqb (b.bins_size % 4096) 0 h.bins_size.0) (and_from _ _ (ap not (ne_eqb b.bins_size 0 h.bins_size.1)) (le-leb b.bins_size 67108864 h.within)))

primary_version_test : (b : BaseBlock) → IsPrimaryVersion b → is_primary_version b ≡ true
primary_version_test b h =
    and_from _ _ (eq-eqb b.major 1 h.0)
    (and_from _ _ (le-leb OLDEST_MINOR_VERSION b.minor h.1) (and_from _ _ (le-leb b.minor MINOR_VERSION h.2) (eq-eqb b.format 1 h.3)))

log_version_test : (b : BaseBlock) → IsLogVersion b → is_log_version b ≡ true
log_version_test b h = and_from _ _ (eq-eqb b.major 1 h.0) (and_from _ _ (eq-eqb b.minor MINOR_VERSION h.1) (eq-eqb b.format 1 h.2))

primary_test : (b : BaseBlock) → IsPrimary b → is_primary b ≡ true
primary_test b h = and_from _ _ (usable_test b h.0) (and_from _ _ (primary_version_test b h.1) (eq-eqb b.file_type.0 0 h.2))

log_test : (b : BaseBlock) → IsLog b → is_log b ≡ true
log_test b h = and_from _ _ (usable_test b h.0) (and_from _ _ h.1 (and_from _ _ (log_version_test b h.2) (elim h.3 [
  | inl e ↦ or_left (eqb b.file_type.0 1) (eqb b.file_type.0 2) (eq-eqb b.file_type.0 1 e)
  | inr e ↦ or_right (eqb b.file_type.0 1) (eqb b.file_type.0 2) (eq-eqb b.file_type.0 2 e)
])))

whole_test : (log : List ℕ) → LogIsWhole log → is_whole log ≡ true
whole_test log h =
    let b = block_of log in
    let len = 512 * dirty_count (pages_in log) in
    and_from _ _ (log_test b h.block) (and_from _ _
    (and_from _ _ (ap (λ (xs : List ℕ). pointwise nat_eq xs (codes "DIRT")) h.bitmap.0) (le-leb (bitmap_end b.bins_size) (length log) h.bitmap.1))
    (elim (cases_eq len 0) [
      | inl none ↦ or_left (eqb len 0) (leb (pages_at b.bins_size + len) (length log)) (eq-eqb len 0 none)
      | inr some ↦ or_right (eqb len 0) (leb (pages_at b.bins_size + len) (length log)) (le-leb (pages_at b.bins_size + len) (length log) (h.pages some))
    ]))

covers_test : (len : ℕ) (v : Pages) (n : ℕ) → n ≤ v.bins_size / 512 → IsCovered len v → covers_below len v n ≡ true
unfolding covers_below
covers_test len v zero le h = refl
covers_test len v (suc n) le h = and_from _ _ (covers_test len v n (omega arith) h) (elim (cases_Bool (is_dirty v n)) [
  | inl on ↦ or_left (is_dirty v n) (leb (512 * (n + 1)) len) on
  | inr off ↦ or_right (is_dirty v n) (leb (512 * (n + 1)) len) (le-leb (512 * (n + 1)) len (h n (omega arith) off))
])

some_pair : {T : Type 0} (tree : Option T) (k : ℕ) (x : T × ℕ) → tree ≡ Some x.0 → k ≡ x.1 → with_number k tree ≡ Some x
some_pair tree k x e f = ap (with_number k) e ∙ ap (λ (n : ℕ). Some (x.0, n)) f

pub held_is : {T : Type 0} (decode : TreeDecoder T) (p l : List ℕ) (x : T × ℕ) → FilesHoldTree decode p l x → held decode p l ≡ Some x
unfolding held
held_is decode p l x h = elim (cases_Bool (is_clean_file p)) [
  | inl e ↦
      let own = MatchBool-at_true (PrimaryDecodesTo p h.block h.bins) (LogRepairsTo p l h.block h.bins) e h.in_use in
      let b = block_of p in
      let kind : IsPrimary b = subst (λ (c : BaseBlock). IsPrimary c) own.read (h.own e) in
      let long : 4096 + b.bins_size ≤ length p = subst (λ (c : BaseBlock). 4096 + c.bins_size ≤ length p) own.read own.long in
      let part = take b.bins_size (drop 4096 p) in
      let test : (is_primary b && leb (4096 + b.bins_size) (length p)) ≡ true = and_from _ _ (primary_test b kind) (le-leb (4096 + b.bins_size) (length p) long) in
      let bins : h.bins ≡ part = own.part ∙ ap (λ (c : BaseBlock). take c.bins_size (drop 4096 p)) own.read in
      ap (λ (t : Bool). if t then held_by_clean decode p else held_by_log decode p l) e
      ∙ ap (λ (t : Bool). if t then with_number b.applied.0 (tree_under decode b part) else None) test
      ∙ some_pair (tree_under decode b part) b.applied.0 x
      (sym (ap (tree_under decode b) bins) ∙ sym (ap (λ (c : BaseBlock). tree_under decode c h.bins) own.read) ∙ h.tree)
      (sym (ap (λ (c : BaseBlock). c.applied.0) own.read) ∙ h.number)
  | inr e ↦
      let fixed = MatchBool-at_false (PrimaryDecodesTo p h.block h.bins) (LogRepairsTo p l h.block h.bins) e h.in_use in
      let b = block_of l in
      let bins = drop 4096 p in
      let image = repaired bins (pages_in l) (page_bytes_in l) in
      let test : (leb 512 (length p) && (is_whole l && covers_below (length bins) (pages_in l) (b.bins_size / 512))) ≡ true =
      and_from _ _ (le-leb 512 (length p) (h.sector e)) (and_from _ _ (whole_test l fixed.whole) (covers_test (length bins) (pages_in l) (b.bins_size / 512) (omega arith) fixed.covered)) in
      ap (λ (t : Bool). if t then held_by_clean decode p else held_by_log decode p l) e
      ∙ ap (λ (t : Bool). if t then with_number b.applied.0 (tree_under decode b image) else None) test
      ∙ some_pair (tree_under decode b image) b.applied.0 x
      (sym (ap (tree_under decode b) fixed.image) ∙ sym (ap (λ (c : BaseBlock). tree_under decode c h.bins) fixed.read) ∙ h.tree)
      (sym (ap (λ (c : BaseBlock). c.applied.0) fixed.read) ∙ h.number)
]

-- ---- the other way

usable_back : (b : BaseBlock) → is_usable b ≡ true → IsUsable b
usable_back b e =
    let a = and_parts _ _ e in
    let c = and_parts _ _ a.1 in
    let d = and_parts _ _ c.1 in
    record {
      signature = eqb-true b.signature.0 1718052210 a.0;
      bins_size = (eqb-true (b.bins_size % 4096) 0 c.0, λ none. true_false true refl (sym d.0 ∙ ap not (eq-eqb b.bins_size 0 none)));
      within = leb-true b.bins_size 67108864 d.1;
    }

primary_version_back : (b : BaseBlock) → is_primary_version b ≡ true → IsPrimaryVersion b
primary_version_back b e =
    let a = and_parts _ _ e in
    let c = and_parts _ _ a.1 in
    let d = and_parts _ _ c.1 in
    (eqb-true b.major 1 a.0, leb-true OLDEST_MINOR_VERSION b.minor c.0, leb-true b.minor MINOR_VERSION d.0, eqb-true b.format 1 d.1)

log_version_back : (b : BaseBlock) → is_log_version b ≡ true → IsLogVersion b
log_version_back b e =
    let a = and_parts _ _ e in
    let c = and_parts _ _ a.1 in
    (eqb-true b.major 1 a.0, eqb-true b.minor MINOR_VERSION c.0, eqb-true b.format 1 c.1)

primary_back : (b : BaseBlock) → is_primary b ≡ true → IsPrimary b
primary_back b e =
    let a = and_parts _ _ e in
    let c = and_parts _ _ a.1 in
    (usable_back b a.0, primary_version_back b c.0, eqb-true b.file_type.0 0 c.1)

or_cases : (x y : Bool) → (x || y) ≡ true → (x ≡ true) ⊎ (y ≡ true)
or_cases x y e = elim (cases_Bool x) [ inl t ↦ inl t | inr f ↦ inr (sym (ap (λ (b : Bool). b || y) f) ∙ e) ]

log_back : (b : BaseBlock) → is_log b ≡ true → IsLog b
log_back b e =
    let a = and_parts _ _ e in
    let c = and_parts _ _ a.1 in
    let d = and_parts _ _ c.1 in
    (usable_back b a.0, c.0, log_version_back b d.0, elim (or_cases (eqb b.file_type.0 1) (eqb b.file_type.0 2) d.1) [ inl k ↦ inl (eqb-true b.file_type.0 1 k) | inr k ↦ inr (eqb-true b.file_type.0 2 k) ])

whole_back : (log : List ℕ) → is_whole log ≡ true → LogIsWhole log
whole_back log e =
    let b = block_of log in
    let len = 512 * dirty_count (pages_in log) in
    let a = and_parts _ _ e in
    let c = and_parts _ _ a.1 in
    let d = and_parts _ _ c.0 in
    record {
      block = log_back b a.0;
      bitmap = (same_text (take 4 (drop 512 log)) (codes "DIRT") (sym d.0), leb-true (bitmap_end b.bins_size) (length log) d.1);
      pages = λ some. elim (or_cases (eqb len 0) (leb (pages_at b.bins_size + len) (length log)) c.1) [
        | inl none ↦ absurd (some (eqb-true len 0 none))
        | inr le ↦ leb-true (pages_at b.bins_size + len) (length log) le
      ];
    }

covers_back : (len : ℕ) (v : Pages) (n : ℕ) → covers_below len v n ≡ true → (page : ℕ) → page < n → is_dirty v page ≡ false → 512 * (page + 1) ≤ len
unfolding covers_below
covers_back len v zero e page lt off = absurd (omega (arith, lt))
covers_back len v (suc n) e page lt off = elim (cases_eq page n) [
  | inl here ↦ elim (or_cases (is_dirty v n) (leb (512 * (n + 1)) len) (and_parts _ _ e).1) [
    | inl on ↦ absurd (true_false (is_dirty v n) on (sym (ap (is_dirty v) here) ∙ off))
    | inr le ↦ let k = leb-true (512 * (n + 1)) len le in omega (arith, k, here)
  ]
  | inr other ↦ covers_back len v n (and_parts _ _ e).0 page (omega (arith, lt, other)) off
]

told : {T : Type 0} (tree : Option T) (k : ℕ) (x : T × ℕ) → with_number k tree ≡ Some x → (tree ≡ Some x.0) × (k ≡ x.1)
told {T = T} None k x e = absurd (none-some x e)
told {T = T} (Some t) k x e = let p : (t, k) ≡ x = same_Some (t, k) x e in (ap (λ (y : T × ℕ). Some y.0) p, ap (λ (y : T × ℕ). y.1) p)

told_if : {T : Type 0} (test : Bool) (tree : Option T) (k : ℕ) (x : T × ℕ) → (if test then with_number k tree else None) ≡ Some x → (test ≡ true) × (tree ≡ Some x.0) × (k ≡ x.1)
told_if true tree k x e = let t = told tree k x e in (refl, t.0, t.1)
told_if false tree k x e = absurd (none-some x e)

pub is_held : {T : Type 0} (decode : TreeDecoder T) (p l : List ℕ) (x : T × ℕ) → held decode p l ≡ Some x → FilesHoldTree decode p l x
unfolding held
is_held decode p l x e = elim (cases_Bool (is_clean_file p)) [
  | inl clean ↦
      let b = block_of p in
      let bins = take b.bins_size (drop 4096 p) in
      let t = told_if (is_primary b && leb (4096 + b.bins_size) (length p)) (tree_under decode b bins) b.applied.0 x
      (sym (ap (λ (t : Bool). if t then held_by_clean decode p else held_by_log decode p l) clean) ∙ e) in
      let a = and_parts _ _ t.0 in
      record {
        block = b;
        bins = bins;
        in_use = subst (λ (t : Bool). MatchBool t (PrimaryDecodesTo p b bins) (LogRepairsTo p l b bins)) (sym clean) (record { read = refl; long = leb-true (4096 + b.bins_size) (length p) a.1; part = refl });
        own = λ _. primary_back b a.0;
        sector = λ unclean. absurd (true_false (is_clean_file p) clean unclean);
        tree = t.1;
        number = t.2;
      }
  | inr unclean ↦
      let b = block_of l in
      let v = pages_in l in
      let old = drop 4096 p in
      let bins = repaired old v (page_bytes_in l) in
      let t = told_if (leb 512 (length p) && (is_whole l && covers_below (length old) v (b.bins_size / 512))) (tree_under decode b bins) b.applied.0 x
      (sym (ap (λ (t : Bool). if t then held_by_clean decode p else held_by_log decode p l) unclean) ∙ e) in
      let a = and_parts _ _ t.0 in
      let c = and_parts _ _ a.1 in
      record {
        block = b;
        bins = bins;
        in_use = subst (λ (t : Bool). MatchBool t (PrimaryDecodesTo p b bins) (LogRepairsTo p l b bins)) (sym unclean)
            (record { whole = whole_back l c.0; read = refl; covered = covers_back (length old) v (b.bins_size / 512) c.1; image = refl });
        own = λ clean. absurd (true_false (is_clean_file p) clean unclean);
        sector = λ _. leb-true 512 (length p) a.0;
        tree = t.1;
        number = t.2;
      }
]
