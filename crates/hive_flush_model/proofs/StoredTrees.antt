-- What two files hold: at most one tree and number, and how a clean and an unclean primary file come to hold it.
use Rattle.std.proofs.Common.{◌≡◌, inl, inr, ℕ, ◌+◌, ◌*◌, ◌/◌, ◌<◌, ◌≤◌, Bool, true, false, List, length, take, drop, get_or, refl, sym, ap, ◌∙◌, subst, arith, length-take, length-drop, Some}
use Rattle.std.specs.Prelude.{nat_le, ◌&&◌, codes}
use Rattle.std.specs.Bool.{MatchBool}
use Rattle.std.proofs.lemmas.Bool.{cases_Bool, cases_eq, cases_lt, le-leb, lt-leb, leb-true, and_parts, and_right, MatchBool-at_true, MatchBool-at_false}
use Rattle.std.proofs.lemmas.Option.{same_Some}
use Rattle.std.proofs.lemmas.Grind.{same_number_lists}
use Rattle.std.proofs.lemmas.List.{get_or-take, get_or-drop}
use Rattle.dirty_vector.specs.Marks.{is_marked_in_bitmap, marked_below}
use Rattle.disk_model.specs.Sector.{HasRightSum}
use Rattle.base_block.specs.declared.block.BaseBlock.{BaseBlock}
use Rattle.base_block.specs.Judgements.{IsLog}
use Rattle.base_block.specs.Layout.{block_at, is_clean_block}
use Rattle.dirty_vector.specs.Pages.{Pages, dirty_count}
use Rattle.dirt_log.specs.LogEncoding.{bitmap_end, pages_at}
use Rattle.dirt_log.specs.WholeLog.{LogIsWhole, IsCovered, HasPages, block_of, bitmap_in, pages_in, page_bytes_in, repaired}
use Rattle.dirt_log.specs.FileContents.{is_clean_file, PrimaryDecodesTo, LogRepairsTo, FilesDecodeTo}
use Rattle.hive_flush_model.specs.StoredTrees.{TreeDecoder, tree_under, FilesHoldTree, CleanPrimaryHolds}
use Rattle.hive_flush_model.specs.Plans.{FlushPlan, PlanFitsImage, IsBehind}
use Rattle.hive_flush_model.proofs.Sums.{same}

-- ---- at most one

match_at_true : {b : Bool} (P Q : Type 0) → b ≡ true → P → MatchBool b P Q
match_at_true P Q e x = subst (λ (b : Bool). MatchBool b P Q) (sym e) x

match_at_false : {b : Bool} (P Q : Type 0) → b ≡ false → Q → MatchBool b P Q
match_at_false P Q e x = subst (λ (b : Bool). MatchBool b P Q) (sym e) x

pub same_parts : (p l : List ℕ) (b c : BaseBlock) (xs ys : List ℕ) → FilesDecodeTo p l b xs → FilesDecodeTo p l c ys → (b ≡ c) × (xs ≡ ys)
same_parts p l b c xs ys h k = elim (cases_Bool (is_clean_file p)) [
  | inl e ↦ own (MatchBool-at_true (PrimaryDecodesTo p b xs) (LogRepairsTo p l b xs) e h) (MatchBool-at_true (PrimaryDecodesTo p c ys) (LogRepairsTo p l c ys) e k)
  | inr e ↦ fixed (MatchBool-at_false (PrimaryDecodesTo p b xs) (LogRepairsTo p l b xs) e h) (MatchBool-at_false (PrimaryDecodesTo p c ys) (LogRepairsTo p l c ys) e k)
]
  where
    own : PrimaryDecodesTo p b xs → PrimaryDecodesTo p c ys → (b ≡ c) × (xs ≡ ys)
    own x y = let e : b ≡ c = x.read ∙ sym y.read in (e, x.part ∙ ap (λ (d : BaseBlock). take d.bins_size (drop 4096 p)) e ∙ sym y.part)

    fixed : LogRepairsTo p l b xs → LogRepairsTo p l c ys → (b ≡ c) × (xs ≡ ys)
    fixed x y = (x.read ∙ sym y.read, x.image ∙ sym y.image)

abbrev made : {T : Type 0} → T → ℕ → T × ℕ
made t n = (t, n)

pub one_held : {T : Type 0} (decode : TreeDecoder T) (p l : List ℕ) (x y : T × ℕ) → FilesHoldTree decode p l x → FilesHoldTree decode p l y → x ≡ y
one_held {T = T} decode p l x y h k =
    let e = same_parts p l h.block k.block h.bins k.bins h.in_use k.in_use in
    let tree : Some x.0 ≡ Some y.0 = sym h.tree ∙ ap (λ (b : List ℕ). tree_under decode h.block b) e.1 ∙ ap (λ (b : BaseBlock). tree_under decode b k.bins) e.0 ∙ k.tree in
    let number : x.1 ≡ y.1 = sym h.number ∙ ap (λ (b : BaseBlock). b.applied.0) e.0 ∙ k.number in
    ap (λ (t : T). made t x.1) (same_Some x.0 y.0 tree) ∙ ap (λ (n : ℕ). made y.0 n) number

-- ---- a clean one

pub true_false : (b : Bool) → b ≡ true → b ≡ false → ⊥
true_false b t f = absurd cc

pub holds_clean : {T : Type 0} (decode : TreeDecoder T) (p l : List ℕ) (x : T × ℕ) → CleanPrimaryHolds decode p x → FilesHoldTree decode p l x
holds_clean decode p l x h =
    let block = block_of p in
    let bins = take block.bins_size (drop 4096 p) in
    record {
      block = block;
      bins = bins;
      in_use = match_at_true (PrimaryDecodesTo p block bins) (LogRepairsTo p l block bins) h.clean (record { read = refl; long = h.long; part = refl });
      own = λ e. h.own;
      sector = λ e. absurd (true_false (is_clean_file p) h.clean e);
      tree = h.tree;
      number = h.number;
    }

-- cleanness is the first sector's
pub clean_same : (a b : List ℕ) → take 512 a ≡ take 512 b → is_clean_file a ≡ is_clean_file b
clean_same a b e =
    let lengths : min_of a ≡ min_of b = ap length e in
    ap (λ (t : Bool). t && is_clean_block (block_at (take 512 a))) (tests (length a) (length b) (omega (arith, length-take 512 a, length-take 512 b, lengths)) (omega (arith, length-take 512 a, length-take 512 b, lengths)))
    ∙ ap (λ (s : List ℕ). nat_le 512 (length b) && is_clean_block (block_at s)) e
  where
    min_of : List ℕ → ℕ
    min_of c = length (take 512 c)

    tests : (n m : ℕ) → (512 ≤ n → 512 ≤ m) → (512 ≤ m → 512 ≤ n) → nat_le 512 n ≡ nat_le 512 m
    tests n m to from = elim (cases_lt n 512) [
      | inl lt ↦ lt-leb 512 n lt ∙ sym (lt-leb 512 m (elim (cases_lt m 512) [ inl l ↦ l | inr g ↦ absurd (omega (arith, from g, lt)) ]))
      | inr ge ↦ le-leb 512 n ge ∙ sym (le-leb 512 m (to ge))
    ]

pub clean_long : (a : List ℕ) → is_clean_file a ≡ true → 512 ≤ length a
clean_long a e = leb-true 512 (length a) (and_parts _ _ e).0

-- a sector whose sum is wrong is unclean
pub wrong_unclean : (c : List ℕ) → (HasRightSum (take 512 c) → ⊥) → is_clean_file c ≡ false
wrong_unclean c wrong = elim (cases_Bool (is_clean_file c)) [
  | inl e ↦
      let long = clean_long c e in
      let sum : (block_at (take 512 c)).sum_is_right ≡ true = (and_parts _ _ (and_parts _ _ e).1).0 in
      let fits : 512 ≤ length (take 512 c) = omega (arith, length-take 512 c, long) in
      absurd (wrong ((same (take 512 c) fits).1 sum))
  | inr e ↦ e
]

-- a sector of unequal numbers is unclean
pub sector_unclean : (c sector : List ℕ) → take 512 c ≡ sector → is_clean_block (block_at sector) ≡ false → is_clean_file c ≡ false
sector_unclean c sector e unclean = and_right _ _ (ap (λ (s : List ℕ). is_clean_block (block_at s)) e ∙ unclean)

-- ---- a log with something after it

pub record IsFront (encoding log : List ℕ) : Type 0 where
  pub whole : LogIsWhole log
  pub block : block_of log ≡ block_of encoding
  pub pages : pages_in log ≡ pages_in encoding
  pub bytes : page_bytes_in log ≡ page_bytes_in encoding

-- a part of what is in front
part_same : (encoding log : List ℕ) (a n : ℕ) → take (length encoding) log ≡ encoding → a + n ≤ length encoding → take n (drop a log) ≡ take n (drop a encoding)
part_same encoding log a n e within =
    let long : length encoding ≤ length log = omega (arith, length-take (length encoding) log, ap (λ (xs : List ℕ). length xs) e) in
    same_number_lists _ _ (omega (arith, length-take n (drop a log), length-take n (drop a encoding), length-drop a log, length-drop a encoding))
    (λ k h. let below : k < n = omega (arith, h, length-take n (drop a log)) in
    get_or-take n (drop a log) k 0 below ∙ get_or-drop a log k 0
    ∙ sym (get_or-take (length encoding) log (a + k) 0 (omega (arith, below, within))) ∙ ap (λ (xs : List ℕ). get_or xs (a + k) 0) e
    ∙ sym (get_or-drop a encoding k 0) ∙ sym (get_or-take n (drop a encoding) k 0 below))

abbrev marked_by : ℕ → List ℕ → Pages
marked_by size bitmap = record { bins_size = size; dirty = marked_below (is_marked_in_bitmap bitmap) (size / 512) }

pub front_of : (encoding log : List ℕ) → LogIsWhole encoding → take (length encoding) log ≡ encoding → IsFront encoding log
front_of encoding log whole e =
    let long : length encoding ≤ length log = omega (arith, length-take (length encoding) log, ap (λ (xs : List ℕ). length xs) e) in
    let size = (block_of encoding).bins_size in
    let end : 516 + size / 4096 ≤ length encoding = whole.bitmap.1 in
    let block : block_of log ≡ block_of encoding = ap block_at (part_same encoding log 0 512 e (omega (arith, end))) in
    let sizes : (block_of log).bins_size ≡ size = ap (λ (b : BaseBlock). b.bins_size) block in
    let bitmap : bitmap_in log size ≡ bitmap_in encoding size = part_same encoding log 516 (size / 4096) e end in
    let pages : pages_in log ≡ pages_in encoding = ap (λ (n : ℕ). marked_by n (bitmap_in log n)) sizes ∙ ap (marked_by size) bitmap in
    let count : dirty_count (pages_in log) ≡ dirty_count (pages_in encoding) = ap (λ (u : Pages). dirty_count u) pages in
    let letters : take 4 (drop 512 log) ≡ codes "DIRT" = part_same encoding log 512 4 e (omega (arith, end)) ∙ whole.bitmap.0 in
    let len = 512 * dirty_count (pages_in encoding) in
    let bytes : take len (drop (pages_at size) log) ≡ take len (drop (pages_at size) encoding) = elim (cases_eq len 0) [
      | inl none ↦ ap (λ (n : ℕ). take n (drop (pages_at size) log)) none ∙ sym (ap (λ (n : ℕ). take n (drop (pages_at size) encoding)) none)
      | inr some ↦ part_same encoding log (pages_at size) len e (whole.pages some)
    ] in
    record {
      whole = record {
        block = subst (λ (b : BaseBlock). IsLog b) (sym block) whole.block;
        bitmap = (letters, subst (λ (n : ℕ). bitmap_end n ≤ length log) (sym sizes) (omega (arith, end, long)));
        pages = subst (λ (n : ℕ). HasPages log (pages_at n) (512 * dirty_count (pages_in log))) (sym sizes)
            (subst (λ (n : ℕ). HasPages log (pages_at size) (512 * n)) (sym count) (λ some. omega (arith, whole.pages some, long)));
      };
      block = block;
      pages = pages;
      bytes = ap (λ (n : ℕ). take (512 * n) (drop (pages_at (block_of log).bins_size) log)) count ∙ ap (λ (n : ℕ). take len (drop (pages_at n) log)) sizes ∙ bytes;
    }

-- ---- an unclean one, repaired by its log

pub holds_repaired : {T : Type 0} (decode : TreeDecoder T) (memory : T × ℕ) (image : List ℕ) (v : Pages) (plan : FlushPlan) (c log : List ℕ)
    → PlanFitsImage decode memory image v plan → is_clean_file c ≡ false → 512 ≤ length c → IsBehind image v c → take (length plan.encoding) log ≡ plan.encoding → FilesHoldTree decode c log memory
holds_repaired decode memory image v plan c log ready unclean long behind front =
    let f = front_of plan.encoding log ready.log_whole front in
    let bins = repaired (drop 4096 c) (pages_in log) (page_bytes_in log) in
    let pages : pages_in log ≡ v = f.pages ∙ ready.log_pages in
    let is : bins ≡ image = ap (λ (u : Pages). repaired (drop 4096 c) u (page_bytes_in log)) pages ∙ ap (repaired (drop 4096 c) v) f.bytes ∙ ready.log_repairs (drop 4096 c) behind.same in
    let root : (block_of log).root ≡ plan.block.root = ap (λ (b : BaseBlock). b.root) f.block ∙ ready.log_root in
    let minor : (block_of log).minor ≡ plan.block.minor = ap (λ (b : BaseBlock). b.minor) f.block ∙ ready.log_minor in
    let store : (block_of log).store ≡ plan.block.store = ap (λ (b : BaseBlock). b.store) f.block ∙ ready.log_store in
    record {
      block = block_of log;
      bins = bins;
      in_use = match_at_false (PrimaryDecodesTo c (block_of log) bins) (LogRepairsTo c log (block_of log) bins) unclean (record {
        whole = f.whole;
        read = refl;
        covered = subst (λ (u : Pages). IsCovered (length (drop 4096 c)) u) (sym pages) behind.covered;
        image = refl;
      });
      own = λ e. absurd (true_false (is_clean_file c) e unclean);
      sector = λ e. long;
      tree = ap (tree_under decode (block_of log)) is ∙ ap (λ (r : ℕ). decode image r (block_of log).minor (block_of log).store) root
          ∙ ap (λ (m : ℕ). decode image plan.block.root m (block_of log).store) minor
          ∙ ap (λ (s : List ℕ). decode image plan.block.root plan.block.minor s) store ∙ ready.tree;
      number = ap (λ (b : BaseBlock). b.applied.0) f.block ∙ ready.log_number ∙ ready.number;
    }
