-- What a crash leaves of the two files in each phase holds what the hive's choice leaves.
use Rattle.std.proofs.Common.{◌≡◌, ◌⊎◌, inl, inr, ℕ, ◌+◌, ◌-◌, ◌*◌, ◌/◌, ◌%◌, ◌<◌, ◌≤◌, Bool, true, false, List, [], ◌∷◌, length, take, drop, get_or, refl, sym, ap, ◌∙◌, subst, arith, length-take, length-drop, Some}
use Rattle.std.specs.Prelude.{◌==◌, ◌&&◌, nat_le, if◌then◌else◌}
use Rattle.std.proofs.lemmas.Bool.{cases_lt, le-leb, eq-eqb, and_from}
use Rattle.std.proofs.lemmas.Bool.Decides.{nat_tests}
use Rattle.std.proofs.lemmas.Option.{same_Some, none-some}
use Rattle.std.proofs.lemmas.Grind.{same_number_lists}
use Rattle.std.proofs.lemmas.List.{get_or-take, get_or-drop, get_or_past, take_all}
use Rattle.crash_model.specs.Promises.{Choice, HiveOn}
use Rattle.crash_model.specs.Promises as promises
use Rattle.disk_model.specs.FileState.{FileState, WrittenRange, Leaves, IsWritten, Covers, at_rest}
use Rattle.disk_model.specs.Sector.{HasRightSum, last_sector, IsHonest}
use Rattle.disk_model.proofs.Leaves.{left_at_rest}
use Rattle.base_block.specs.declared.block.BaseBlock.{BaseBlock}
use Rattle.base_block.specs.Judgements.{IsUsable, IsPrimary}
use Rattle.base_block.specs.Layout.{block_at, is_clean_block}
use Rattle.dirty_vector.specs.Pages.{Pages, is_dirty}
use Rattle.dirt_log.specs.WholeLog.{IsCovered, block_of}
use Rattle.dirt_log.specs.FileContents.{is_clean_file, SameWhereClean}
use Rattle.hive_flush_model.specs.StoredTrees.{TreeDecoder, tree_under, FilesHoldTree, CleanPrimaryHolds}
use Rattle.hive_flush_model.specs.Plans.{FlushPlan, IsBehind, PlanFitsImage}
use Rattle.hive_flush_model.specs.Phases.{Purpose, Purpose.Flush, Purpose.Repair, FlushPhase, FlushPhase.AtRest, FlushPhase.WritingLog, FlushPhase.LogSynced, FlushPhase.PrimaryMarkedDirty, FlushPhase.WritingPages, FlushPhase.PagesSynced, FlushPhase.HeaderWritten, FlushState, choice_for, choice_in}
use Rattle.hive_flush_model.specs.States.{AreAll, IsSectorOnWay, AreInDirty, ArePagesOnWay, Shows, HasLog, IsAtRest, IsLogSynced, IsWritingPages, ArePagesSynced, files_match_phase}
use Rattle.hive_flush_model.proofs.StoredTrees.{holds_clean, holds_repaired, clean_same, clean_long, wrong_unclean, sector_unclean, true_false}

-- ---- a first sector on its way

pub sector_covers : (sector : List ℕ) (rs : List WrittenRange) (q : ℕ) → length sector ≡ 512 → AreAll sector rs → IsWritten rs q → q < 512
sector_covers sector [] q size all w = absurd w
sector_covers sector (r ∷ rs) q size all (inl covers) = let c : Covers (record { from = 0; bytes = sector }) q = subst (λ (r : WrittenRange). Covers r q) all.0 covers in omega (arith, c.1, size)
sector_covers sector (r ∷ rs) q size all (inr w) = sector_covers sector rs q size all.1 w

last_same : (sector s : List ℕ) (rs : List WrittenRange) → length sector ≡ 512 → AreAll sector rs → last_sector rs ≡ Some s → s ≡ sector
last_same sector s [] size all e = absurd (none-some s e)
last_same sector s (r ∷ rs) size all e =
    let test : ((0 == 0) && nat_le 512 (length sector)) ≡ true = grind (arith, nat_tests) in
    let is : last_sector (r ∷ rs) ≡ Some sector =
    ap (λ (q : WrittenRange). last_sector (q ∷ rs)) all.0 ∙ ap (λ (b : Bool). if b then Some (take 512 sector) else last_sector rs) test ∙ ap (λ (l : List ℕ). Some l) (take_all 512 sector (omega (arith, size))) in
    same_Some s sector (sym e ∙ is)

-- the same but for the first sector
pub record IsBeside (body c : List ℕ) : Type 0 where
  pub size : length c ≡ length body
  pub rest : (i : ℕ) → 512 ≤ i → get_or c i 0 ≡ get_or body i 0

pub left_beside : (body sector c : List ℕ) (p : FileState) → length sector ≡ 512 → IsSectorOnWay body sector p → Leaves p c → IsBeside body c
left_beside body sector c p long on left = record {
  size = size;
  rest = λ i from. elim (cases_lt i (length body)) [
    | inl lt ↦ left.kept i (omega (arith, lt, on.least)) (λ w. omega (arith, from, sector_covers sector p.ranges i long on.ranges w)) ∙ ap (λ (xs : List ℕ). get_or xs i 0) on.synced
    | inr ge ↦ get_or_past c i 0 (omega (arith, ge, size)) ∙ sym (get_or_past body i 0 ge)
  ];
}
  where
    size : length c ≡ length body
    size = omega (arith, left.no_shorter, left.no_longer, on.least, on.greatest)

pub beside_drop : (body c : List ℕ) → IsBeside body c → drop 4096 c ≡ drop 4096 body
beside_drop body c h = same_number_lists _ _ (omega (arith, length-drop 4096 c, length-drop 4096 body, h.size))
    (λ k lt. get_or-drop 4096 c k 0 ∙ h.rest (4096 + k) (omega arith) ∙ sym (get_or-drop 4096 body k 0))

pub beside_same : (body c : List ℕ) → IsBeside body c → take 512 c ≡ take 512 body → c ≡ body
beside_same body c h e = same_number_lists _ _ h.size (λ k lt. elim (cases_lt k 512) [
  | inl front ↦ sym (get_or-take 512 c k 0 front) ∙ ap (λ (xs : List ℕ). get_or xs k 0) e ∙ get_or-take 512 body k 0 front
  | inr back ↦ h.rest k back
])

pub beside_behind : (image : List ℕ) (v : Pages) (body c : List ℕ) → IsBeside body c → IsBehind image v body → IsBehind image v c
beside_behind image v body c h b =
    let e = sym (beside_drop body c h) in
    record {
      same = subst (λ (xs : List ℕ). SameWhereClean image xs v) e b.same;
      covered = subst (λ (xs : List ℕ). IsCovered (length xs) v) e b.covered;
    }

-- the old one, the new sector, or a wrong sum
pub three : (body sector c : List ℕ) (p : FileState) → length sector ≡ 512 → IsSectorOnWay body sector p → Leaves p c → IsHonest p c
    → (c ≡ body) ⊎ ((take 512 c ≡ sector) ⊎ (HasRightSum (take 512 c) → ⊥))
three body sector c p long on left (inl old) = inl (beside_same body c (left_beside body sector c p long on left) (old ∙ ap (take 512) on.synced))
three body sector c p long on left (inr (inl new)) = inr (inl (last_same sector (take 512 c) p.ranges long on.ranges new))
three body sector c p long on left (inr (inr wrong)) = inr (inr wrong)

-- ---- pages on their way

pub dirty_covers : (v : Pages) (rs : List WrittenRange) (q : ℕ) → AreInDirty v rs → IsWritten rs q → 4096 ≤ q
dirty_covers v [] q all w = absurd w
dirty_covers v (r ∷ rs) q all (inl covers) = omega (arith, all.0.behind, covers.0)
dirty_covers v (r ∷ rs) q all (inr w) = dirty_covers v rs q all.1 w

pub dirty_page : (v : Pages) (rs : List WrittenRange) (i : ℕ) → AreInDirty v rs → IsWritten rs (4096 + i) → is_dirty v (i / 512) ≡ true
dirty_page v [] i all w = absurd w
dirty_page v (r ∷ rs) i all (inl covers) = all.0.dirty i covers
dirty_page v (r ∷ rs) i all (inr w) = dirty_page v rs i all.1 w

pub pages_sector : (image : List ℕ) (v : Pages) (p : FileState) (c : List ℕ) → ArePagesOnWay image v p → Leaves p c → take 512 c ≡ take 512 p.synced
pages_sector image v p c on left =
    same_number_lists _ _ (omega (arith, length-take 512 c, length-take 512 p.synced, left.no_shorter, on.sector, on.long))
    (λ k lt. let below : k < 512 = omega (arith, lt, length-take 512 c) in
    get_or-take 512 c k 0 below ∙ left.kept k (omega (arith, below, on.sector)) (λ w. omega (arith, below, dirty_covers v p.ranges k on.ranges w)) ∙ sym (get_or-take 512 p.synced k 0 below))

pub pages_unclean : (image : List ℕ) (v : Pages) (p : FileState) (c : List ℕ) → ArePagesOnWay image v p → Leaves p c → is_clean_file c ≡ false
pages_unclean image v p c on left = clean_same c p.synced (pages_sector image v p c on left) ∙ on.unclean

pub pages_behind : (image : List ℕ) (v : Pages) (p : FileState) (c : List ℕ) → v.bins_size % 512 ≡ 0 → ArePagesOnWay image v p → Leaves p c → IsBehind image v c
pages_behind image v p c whole on left = record {
  same = λ i lt off.
      let there : 512 * (i / 512 + 1) ≤ p.least - 4096 = on.covered (i / 512) (omega (arith, lt, whole)) off in
      get_or-drop 4096 c i 0
      ∙ left.kept (4096 + i) (omega (arith, there)) (λ w. true_false (is_dirty v (i / 512)) (dirty_page v p.ranges i on.ranges w) off)
      ∙ sym (get_or-drop 4096 p.synced i 0) ∙ on.same i lt off;
  covered = λ page lt off. omega (arith, on.covered page lt off, left.no_shorter, length-drop 4096 c);
}

-- ---- the whole image

pub shows_behind : (image : List ℕ) (v : Pages) (c : List ℕ) → length image ≡ v.bins_size → Shows image (length image) c → IsBehind image v c
shows_behind image v c size shows = record {
  same = λ i lt off. get_or-drop 4096 c i 0 ∙ (shows i (omega (arith, lt, size))).1;
  covered = λ page lt off. omega (arith, (shows (512 * page + 511) (omega (arith, lt, size))).0, length-drop 4096 c);
}

module _ {T : Type 0} (decode : TreeDecoder T) (memory : T × ℕ) (image : List ℕ) (v : Pages) (plan : FlushPlan) (ready : PlanFitsImage decode memory image v plan) where
  pub some_bins : 0 < length image
  some_bins = elim (cases_lt 0 (length image)) [ inl lt ↦ lt | inr none ↦ absurd (ready.own.0.bins_size.1 (omega (arith, none, ready.size, ready.bins))) ]

  pub whole_pages : v.bins_size % 512 ≡ 0
  whole_pages = let m : v.bins_size % 4096 ≡ 0 = subst (λ (n : ℕ). n % 4096 ≡ 0) ready.bins ready.own.0.bins_size.0 in omega (arith, m)

  pub shows_long : (c : List ℕ) → Shows image (length image) c → 4096 + length image ≤ length c
  shows_long c shows = omega (arith, (shows (length image - 1) (omega (arith, some_bins))).0, some_bins)

  same_usable : (b : BaseBlock) → IsUsable b → IsUsable (record b { sum_is_right = true })
  same_usable b u = record { signature = u.signature; bins_size = u.bins_size; within = u.within }

  pub clean_of : (c : List ℕ) → Shows image (length image) c → take 512 c ≡ plan.final → CleanPrimaryHolds decode c memory
  clean_of c shows e =
      let block : block_of c ≡ record plan.block { sum_is_right = true } = ap block_at e ∙ ready.final_reads in
      let long = shows_long c shows in
      let size : (block_of c).bins_size ≡ length image = ap (λ (b : BaseBlock). b.bins_size) block ∙ ready.bins ∙ sym ready.size in
      let bins : take (length image) (drop 4096 c) ≡ image = same_number_lists _ _ (omega (arith, length-take (length image) (drop 4096 c), length-drop 4096 c, long))
      (λ k lt. let below : k < length image = omega (arith, lt, length-take (length image) (drop 4096 c)) in
      get_or-take (length image) (drop 4096 c) k 0 below ∙ get_or-drop 4096 c k 0 ∙ (shows k below).1) in
      record {
        clean = and_from _ _ (le-leb 512 (length c) (omega (arith, long))) (ap is_clean_block block ∙ eq-eqb plan.block.primary.0 plan.block.secondary.0 ready.equal);
        own = subst (λ (b : BaseBlock). IsPrimary b) (sym block) (same_usable plan.block ready.own.0, ready.own.1, ready.own.2);
        long = omega (arith, size, long);
        tree = ap (λ (n : ℕ). tree_under decode (block_of c) (take n (drop 4096 c))) size ∙ ap (tree_under decode (block_of c)) bins
            ∙ ap (λ (b : BaseBlock). tree_under decode b image) block ∙ ready.tree;
        number = ap (λ (b : BaseBlock). b.applied.0) block ∙ ready.number;
      }

-- ---- the law

pub left_log : (encoding : List ℕ) (l : FileState) (c : List ℕ) → HasLog encoding l → Leaves l c → take (length encoding) c ≡ encoding
left_log encoding l c has left =
    let e : c ≡ l.synced = left_at_rest l.synced c (subst (λ (s : FileState). Leaves s c) has.rest left) in
    ap (take (length encoding)) e ∙ has.front

pub left_same : (p : FileState) (c : List ℕ) → p ≡ at_rest p.synced → Leaves p c → c ≡ p.synced
left_same p c rest left = left_at_rest p.synced c (subst (λ (s : FileState). Leaves s c) rest left)

module _ {T : Type 0} (decode : TreeDecoder T) (h : FlushState T) (p l : FileState) (c d : List ℕ) (left : Leaves p c) (honest : IsHonest p c) (log : Leaves l d) where
  quiet_holds : IsAtRest decode h p → FilesHoldTree decode c d h.now
  quiet_holds on = holds_clean decode c d h.now (subst (λ (xs : List ℕ). CleanPrimaryHolds decode xs h.now) (sym (left_same p c on.rest left)) on.clean)

  logged_holds : IsLogSynced decode h p l → FilesHoldTree decode c d h.now ⊎ FilesHoldTree decode c d h.memory
  logged_holds on =
      let beside = left_beside p.synced h.plan.raised c p on.ready.raised_long on.sector left in
      let fixed : is_clean_file c ≡ false → FilesHoldTree decode c d h.memory = λ unclean.
      holds_repaired decode h.memory h.image h.pages h.plan c d on.ready unclean (omega (arith, beside.size, clean_long p.synced on.clean.clean)) (beside_behind h.image h.pages p.synced c beside on.behind) (left_log h.plan.encoding l d on.encoding log) in
      elim (three p.synced h.plan.raised c p on.ready.raised_long on.sector left honest) [
        | inl old ↦ inl (holds_clean decode c d h.now (subst (λ (xs : List ℕ). CleanPrimaryHolds decode xs h.now) (sym old) on.clean))
        | inr z ↦ elim z [
          | inl new ↦ inr (fixed (sector_unclean c h.plan.raised new on.ready.raised_unclean))
          | inr wrong ↦ inr (fixed (wrong_unclean c wrong))
        ]
      ]

  paging_holds : (n : ℕ) → IsWritingPages decode h n p l → FilesHoldTree decode c d h.memory
  paging_holds n on =
      holds_repaired decode h.memory h.image h.pages h.plan c d on.ready (pages_unclean h.image h.pages p c on.pages left) (omega (arith, on.pages.sector, left.no_shorter))
      (pages_behind h.image h.pages p c (whole_pages decode h.memory h.image h.pages h.plan on.ready) on.pages left) (left_log h.plan.encoding l d on.encoding log)

  -- a wrong sum of the last sector: the log decides
  paged_fixed : (purpose : Purpose) → ArePagesSynced decode h purpose p l → is_clean_file c ≡ false → FilesHoldTree decode c d h.memory
  paged_fixed purpose on unclean =
      let beside = left_beside p.synced h.plan.final c p on.ready.final_long on.sector left in
      holds_repaired decode h.memory h.image h.pages h.plan c d on.ready unclean
      (omega (arith, beside.size, shows_long decode h.memory h.image h.pages h.plan on.ready p.synced on.shows)) (beside_behind h.image h.pages p.synced c beside (shows_behind h.image h.pages p.synced on.ready.size on.shows)) (left_log h.plan.encoding l d on.encoding log)

  paged_holds : (purpose : Purpose) → ArePagesSynced decode h purpose p l → (c ≡ p.synced) ⊎ FilesHoldTree decode c d h.memory
  paged_holds purpose on =
      let beside = left_beside p.synced h.plan.final c p on.ready.final_long on.sector left in
      elim (three p.synced h.plan.final c p on.ready.final_long on.sector left honest) [
        | inl old ↦ inl old
        | inr z ↦ elim z [
          | inl new ↦ inr (holds_clean decode c d h.memory (clean_of decode h.memory h.image h.pages h.plan on.ready c (beside_shows h.image p.synced c beside on.shows) new))
          | inr wrong ↦ inr (paged_fixed purpose on (wrong_unclean c wrong))
        ]
      ]
    where
      beside_shows : (image body c : List ℕ) → IsBeside body c → Shows image (length image) body → Shows image (length image) c
      beside_shows image body c b shows i lt = (omega (arith, (shows i lt).0, b.size), b.rest (4096 + i) (omega arith) ∙ (shows i lt).1)

either : {T : Type 0} (decode : TreeDecoder T) (now memory : T × ℕ) (c d : List ℕ) → FilesHoldTree decode c d now ⊎ FilesHoldTree decode c d memory
    → (x : T × ℕ) × promises.Leaves (promises.under_way now memory) x × FilesHoldTree decode c d x
either decode now memory c d (inl h) = (now, inl refl, h)
either decode now memory c d (inr h) = (memory, inr refl, h)

by_purpose : {T : Type 0} (decode : TreeDecoder T) (purpose : Purpose) (now memory : T × ℕ) (c d : List ℕ) → FilesHoldTree decode c d memory
    → (x : T × ℕ) × promises.Leaves (choice_for purpose now memory) x × FilesHoldTree decode c d x
by_purpose decode Flush now memory c d h = either decode now memory c d (inr h)
by_purpose decode Repair now memory c d h = (memory, inl refl, h)

-- what is there before the last sector, or what is in memory
paged_in : {T : Type 0} (decode : TreeDecoder T) (purpose : Purpose) (h : FlushState T) (p l : FileState) (c d : List ℕ) → Leaves p c → IsHonest p c → Leaves l d → ArePagesSynced decode h purpose p l
    → (x : T × ℕ) × promises.Leaves (choice_for purpose h.now h.memory) x × FilesHoldTree decode c d x
paged_in decode Flush h p l c d left honest log on = elim (paged_holds decode h p l c d left honest log Flush on) [
  | inl old ↦ either decode h.now h.memory c d (elim on.before [
    | inl unclean ↦ inr (paged_fixed decode h p l c d left honest log Flush on (ap is_clean_file old ∙ unclean))
    | inr clean ↦ inl (holds_clean decode c d h.now (subst (λ (xs : List ℕ). CleanPrimaryHolds decode xs h.now) (sym old) clean))
  ])
  | inr new ↦ either decode h.now h.memory c d (inr new)
]
paged_in decode Repair h p l c d left honest log on = elim (paged_holds decode h p l c d left honest log Repair on) [
  | inl old ↦ (h.memory, inl refl, paged_fixed decode h p l c d left honest log Repair on (ap is_clean_file old ∙ on.before))
  | inr new ↦ (h.memory, inl refl, new)
]

pub leaves_in : {T : Type 0} (decode : TreeDecoder T) (h : FlushState T) (phase : FlushPhase) (p l : FileState) → files_match_phase decode h phase p l
    → HiveOn (FilesHoldTree decode) (choice_in phase h.now h.memory) (λ c. Leaves p c × IsHonest p c) (Leaves l)
leaves_in decode h AtRest p l on c d pc ld = (h.now, inl refl, quiet_holds decode h p l c d pc.0 pc.1 ld on)
leaves_in decode h (WritingLog n) p l on c d pc ld = either decode h.now h.memory c d (inl (quiet_holds decode h p l c d pc.0 pc.1 ld on.quiet))
leaves_in decode h LogSynced p l on c d pc ld = either decode h.now h.memory c d (logged_holds decode h p l c d pc.0 pc.1 ld on)
leaves_in decode h PrimaryMarkedDirty p l on c d pc ld = either decode h.now h.memory c d (logged_holds decode h p l c d pc.0 pc.1 ld on.logged)
leaves_in decode h (WritingPages purpose n) p l on c d pc ld = by_purpose decode purpose h.now h.memory c d (paging_holds decode h p l c d pc.0 pc.1 ld n on)
leaves_in decode h (PagesSynced purpose) p l on c d pc ld = paged_in decode purpose h p l c d pc.0 pc.1 ld on
leaves_in decode h (HeaderWritten purpose) p l on c d pc ld = paged_in decode purpose h p l c d pc.0 pc.1 ld on.paged
