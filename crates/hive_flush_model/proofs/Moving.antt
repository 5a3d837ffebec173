-- Each call of a flush or a repair takes the files from one phase to the next, or leaves them in theirs if it failed.
use Rattle.std.proofs.Common.{◌≡◌, inl, inr, ℕ, ◌+◌, ◌-◌, ◌/◌, ◌<◌, ◌≤◌, false, List, [], ◌∷◌, length, take, drop, get_or, refl, sym, ap, ◌∙◌, subst, arith, length-take, length-drop}
use Rattle.std.proofs.lemmas.Bool.{cases_lt}
use Rattle.std.proofs.lemmas.Grind.{same_number_lists}
use Rattle.std.proofs.lemmas.List.{get_or-take, get_or-drop, take_all}
use Rattle.disk_model.specs.FileState.{FileState, Covers, IsSound, PutsPart, at_rest, put, after_write, Writes, MayWrite, Syncs}
use Rattle.disk_model.proofs.Steps.{length-put}
use Rattle.disk_model.proofs.Put.{get_or-put_outside, get_or-put_inside}
use Rattle.disk_model.proofs.Leaves.{length-put_within}
use Rattle.dirty_vector.specs.Pages.{Pages}
use Rattle.dirt_log.specs.FileContents.{is_clean_file}
use Rattle.hive_flush_model.specs.StoredTrees.{TreeDecoder}
use Rattle.hive_flush_model.specs.Phases.{Purpose, Purpose.Flush, Purpose.Repair, FlushState}
use Rattle.hive_flush_model.specs.States.{IsBeforeHeader, IsSectorOnWay, ArePagesOnWay, Shows, LogHas, HasLog, IsAtRest, IsWritingLog, IsLogSynced, IsPrimaryMarkedDirty, IsWritingPages, ArePagesSynced, IsHeaderWritten}
use Rattle.dirty_vector.specs.Changes.{ChangesAreMarked}
use Rattle.hive_flush_model.specs.Plans.{IsBehind, PlanFitsImage, AreClean, AreDirty}
use Rattle.hive_flush_model.proofs.StoredTrees.{clean_long, sector_unclean}
use Rattle.hive_flush_model.proofs.Leaving.{left_beside, beside_behind, pages_unclean, pages_behind, shows_behind, whole_pages, shows_long, clean_of}

-- ---- bytes

put_reaches : (file bytes : List ℕ) (offset : ℕ) → 0 < length bytes → offset + length bytes ≤ length (put file offset bytes)
put_reaches file [] offset some = absurd (omega arith)
put_reaches file (b ∷ bs) offset some = omega (arith, length-put file offset b bs)

put_grows : (file bytes : List ℕ) (offset : ℕ) → length file ≤ length (put file offset bytes)
put_grows file [] offset = omega arith
put_grows file (b ∷ bs) offset = omega (arith, length-put file offset b bs)

-- what a write that failed leaves outside its range
part_keeps : (offset : ℕ) (bytes old seen : List ℕ) → PutsPart offset bytes old seen → (q : ℕ) → q < length old → (Covers (record { from = offset; bytes = bytes }) q → ⊥) → get_or seen q 0 ≡ get_or old q 0
part_keeps offset bytes old seen part q lt out = part.elsewhere q (omega (arith, lt, part.no_shorter)) out ∙ get_or-put_outside old offset bytes q lt out

-- ---- the log

pub log_more : (n : ℕ) (encoding chunk seen : List ℕ) → LogHas n encoding seen → n + length chunk ≤ length encoding → chunk ≡ take (length chunk) (drop n encoding) → LogHas (n + length chunk) encoding (put seen n chunk)
log_more n encoding chunk seen has fits is = record {
  within = fits;
  long = long;
  front = same_number_lists _ _ (omega (arith, length-take (n + length chunk) (put seen n chunk), length-take (n + length chunk) encoding, long, fits))
      (λ k lt. let below : k < n + length chunk = omega (arith, lt, length-take (n + length chunk) (put seen n chunk)) in
      get_or-take (n + length chunk) (put seen n chunk) k 0 below
      ∙ elim (cases_lt k n) [
        | inl front ↦ get_or-put_outside seen n chunk k (omega (arith, front, has.long)) (λ covers. omega (arith, covers.0, front))
            ∙ sym (get_or-take n seen k 0 front) ∙ ap (λ (xs : List ℕ). get_or xs k 0) has.front ∙ get_or-take n encoding k 0 front
        | inr back ↦
            let place : n + (k - n) ≡ k = omega (arith, back) in
            get_or-put_inside seen n chunk k back below
            ∙ ap (λ (xs : List ℕ). get_or xs (k - n) 0) is ∙ get_or-take (length chunk) (drop n encoding) (k - n) 0 (omega (arith, back, below))
            ∙ get_or-drop n encoding (k - n) 0 ∙ ap (λ (i : ℕ). get_or encoding i 0) place
      ]
      ∙ sym (get_or-take (n + length chunk) encoding k 0 below));
}
  where
    long : n + length chunk ≤ length (put seen n chunk)
    long = elim (cases_lt 0 (length chunk)) [ inl some ↦ put_reaches seen chunk n some | inr none ↦ omega (arith, none, has.long, put_grows seen chunk n) ]

pub log_stays : (n : ℕ) (encoding chunk old seen : List ℕ) → LogHas n encoding old → PutsPart n chunk old seen → LogHas n encoding seen
log_stays n encoding chunk old seen has part = record {
  within = has.within;
  long = omega (arith, has.long, part.no_shorter);
  front = same_number_lists _ _ (omega (arith, length-take n seen, length-take n encoding, has.long, part.no_shorter, has.within))
      (λ k lt. let below : k < n = omega (arith, lt, length-take n seen) in
      get_or-take n seen k 0 below ∙ part_keeps n chunk old seen part k (omega (arith, below, has.long)) (λ covers. omega (arith, covers.0, below))
      ∙ sym (get_or-take n old k 0 below) ∙ ap (λ (xs : List ℕ). get_or xs k 0) has.front);
}

-- ---- a first sector

put_sector : (seen sector : List ℕ) → length sector ≡ 512 → take 512 (put seen 0 sector) ≡ sector
put_sector seen sector size = same_number_lists _ _ (omega (arith, length-take 512 (put seen 0 sector), size, put_reaches seen sector 0 (omega (arith, size))))
    (λ k lt. let below : k < 512 = omega (arith, lt, length-take 512 (put seen 0 sector)) in
    let place : k - 0 ≡ k = omega arith in
    get_or-take 512 (put seen 0 sector) k 0 below ∙ get_or-put_inside seen 0 sector k (omega arith) (omega (arith, below, size)) ∙ ap (λ (i : ℕ). get_or sector i 0) place)

sector_stays : (body sector seen : List ℕ) (p : FileState) → length sector ≡ 512 → 512 ≤ length body → IsSound p → IsSectorOnWay body sector p → IsSectorOnWay body sector (after_write p 0 sector seen)
sector_stays body sector seen p size long sound on =
    let there : length p.seen ≡ length body = omega (arith, sound.left.no_shorter, sound.left.no_longer, on.least, on.greatest) in
    let same : length (put p.seen 0 sector) ≡ length p.seen = length-put_within p.seen sector 0 (omega (arith, size, long, there)) in
    record { synced = on.synced; least = on.least; greatest = omega (arith, same, there, on.greatest); ranges = (refl, on.ranges) }

sector_at_rest : (body sector : List ℕ) → IsSectorOnWay body sector (at_rest body)
sector_at_rest body sector = record { synced = refl; least = refl; greatest = refl; ranges = tt }

module _ {T : Type 0} (decode : TreeDecoder T) (w : FlushState T) where
  -- ---- the log's calls

  pub begins : (p l : FileState) → PlanFitsImage decode w.memory w.image w.pages w.plan → IsAtRest decode w p → IsWritingLog decode w 0 p l
  begins p l ready on = record { ready = ready; quiet = on; encoding = record { within = omega arith; long = omega arith; front = refl } }

  pub log_written : (n : ℕ) (chunk : List ℕ) (p l new : FileState) → IsWritingLog decode w n p l → n + length chunk ≤ length w.plan.encoding → chunk ≡ take (length chunk) (drop n w.plan.encoding)
      → Writes n chunk l new → IsWritingLog decode w (n + length chunk) p new
  log_written n chunk p l new on fits is done = subst (λ (s : FileState). IsWritingLog decode w (n + length chunk) p s) (sym done)
      (record { ready = on.ready; quiet = on.quiet; encoding = log_more n w.plan.encoding chunk l.seen on.encoding fits is })

  pub log_failed : (n : ℕ) (chunk : List ℕ) (p l new : FileState) → IsWritingLog decode w n p l → MayWrite n chunk l new → IsWritingLog decode w n p new
  log_failed n chunk p l new on (inl same) = subst (λ (s : FileState). IsWritingLog decode w n p s) (sym same) on
  log_failed n chunk p l new on (inr part) = subst (λ (s : FileState). IsWritingLog decode w n p s) (sym part.2)
      (record { ready = on.ready; quiet = on.quiet; encoding = log_stays n w.plan.encoding chunk l.seen part.0 on.encoding part.1 })

  pub log_synced : (p l new : FileState) → IsWritingLog decode w (length w.plan.encoding) p l → Syncs l new → IsLogSynced decode w p new
  log_synced p l new on done = subst (λ (s : FileState). IsLogSynced decode w p s) (sym done)
      (record {
        ready = on.ready;
        sector = subst (λ (s : FileState). IsSectorOnWay p.synced w.plan.raised s) (sym on.quiet.rest) (sector_at_rest p.synced w.plan.raised);
        clean = on.quiet.clean;
        behind = on.quiet.behind;
        encoding = record { rest = refl; front = on.encoding.front ∙ take_all (length w.plan.encoding) w.plan.encoding (omega arith) };
      })

  -- no page is dirty: the image is in the file, and the last sector is next
  pub log_synced_alone : (p l new : FileState) → IsWritingLog decode w (length w.plan.encoding) p l → AreClean w.pages 0 (length w.image) → Syncs l new → ArePagesSynced decode w Flush p new
  log_synced_alone p l new on clean done = subst (λ (s : FileState). ArePagesSynced decode w Flush p s) (sym done)
      (record {
        ready = on.ready;
        sector = subst (λ (s : FileState). IsSectorOnWay p.synced w.plan.final s) (sym on.quiet.rest) (sector_at_rest p.synced w.plan.final);
        before = inr on.quiet.clean;
        shows = λ i lt.
            let whole = whole_pages decode w.memory w.image w.pages w.plan on.ready in
            let inside : i < w.pages.bins_size = omega (arith, lt, on.ready.size) in
            let off = clean i (omega arith) lt in (
              omega (arith, on.quiet.behind.covered (i / 512) (omega (arith, inside, whole)) off, length-drop 4096 p.synced),
              sym (get_or-drop 4096 p.synced i 0) ∙ on.quiet.behind.same i inside off,
            );
        encoding = record { rest = refl; front = on.encoding.front ∙ take_all (length w.plan.encoding) w.plan.encoding (omega arith) };
      })

  -- ---- the raised sector

  raised_stays : (p l : FileState) (seen : List ℕ) → IsSound p → IsLogSynced decode w p l → IsLogSynced decode w (after_write p 0 w.plan.raised seen) l
  raised_stays p l seen sound on = record {
    ready = on.ready;
    sector = sector_stays p.synced w.plan.raised seen p on.ready.raised_long (clean_long p.synced on.clean.clean) sound on.sector;
    clean = on.clean;
    behind = on.behind;
    encoding = on.encoding;
  }

  pub raised_written : (p l new : FileState) → IsSound p → IsLogSynced decode w p l → Writes 0 w.plan.raised p new → IsPrimaryMarkedDirty decode w new l
  raised_written p l new sound on done = subst (λ (s : FileState). IsPrimaryMarkedDirty decode w s l) (sym done)
      (record { logged = raised_stays p l (put p.seen 0 w.plan.raised) sound on; shown = put_sector p.seen w.plan.raised on.ready.raised_long })

  pub raised_failed : (p l new : FileState) → IsSound p → IsLogSynced decode w p l → MayWrite 0 w.plan.raised p new → IsLogSynced decode w new l
  raised_failed p l new sound on (inl same) = subst (λ (s : FileState). IsLogSynced decode w s l) (sym same) on
  raised_failed p l new sound on (inr part) = subst (λ (s : FileState). IsLogSynced decode w s l) (sym part.2) (raised_stays p l part.0 sound on)

  pub raised_synced : (p l new : FileState) → IsSound p → IsPrimaryMarkedDirty decode w p l → Syncs p new → IsWritingPages decode w 0 new l
  raised_synced p l new sound on done =
      let beside = left_beside p.synced w.plan.raised p.seen p on.logged.ready.raised_long on.logged.sector sound.left in
      let behind = beside_behind w.image w.pages p.synced p.seen beside on.logged.behind in
      let long : 512 ≤ length p.seen = omega (arith, beside.size, clean_long p.synced on.logged.clean.clean) in
      subst (λ (s : FileState). IsWritingPages decode w 0 s l) (sym done)
      (record {
        ready = on.logged.ready;
        pages = record {
          unclean = sector_unclean p.seen w.plan.raised on.shown on.logged.ready.raised_unclean;
          same = behind.same;
          sector = long;
          long = long;
          covered = λ page lt off. omega (arith, behind.covered page lt off, length-drop 4096 p.seen);
          ranges = tt;
        };
        within = omega arith;
        shows = λ i lt. absurd (omega (arith, lt));
        encoding = on.logged.encoding;
      })

  -- ---- the pages

  pages_stay : (a m : ℕ) (seen : List ℕ) (p : FileState) → AreDirty w.pages a (a + m) → ArePagesOnWay w.image w.pages p → ArePagesOnWay w.image w.pages (after_write p (4096 + a) (take m (drop a w.image)) seen)
  pages_stay a m seen p dirty on = record {
    unclean = on.unclean;
    same = on.same;
    sector = on.sector;
    long = on.long;
    covered = on.covered;
    ranges = (record { behind = omega arith; dirty = λ i covers. dirty i (omega (arith, covers.0)) (omega (arith, covers.1, length-take m (drop a w.image))) }, on.ranges);
  }

  -- clean bytes after what is written are shown too
  shows_clean : (n a : ℕ) (p : FileState) → PlanFitsImage decode w.memory w.image w.pages w.plan → IsSound p → ArePagesOnWay w.image w.pages p → a ≤ length w.image → AreClean w.pages n a
      → Shows w.image n p.seen → Shows w.image a p.seen
  shows_clean n a p ready sound on within clean shows i lt = elim (cases_lt i n) [
    | inl before ↦ shows i before
    | inr after ↦
        let behind = pages_behind w.image w.pages p p.seen (whole_pages decode w.memory w.image w.pages w.plan ready) on sound.left in
        let inside : i < w.pages.bins_size = omega (arith, lt, within, ready.size) in
        let whole = whole_pages decode w.memory w.image w.pages w.plan ready in (
          omega (arith, behind.covered (i / 512) (omega (arith, inside, whole)) (clean i after lt), length-drop 4096 p.seen),
          sym (get_or-drop 4096 p.seen i 0) ∙ behind.same i inside (clean i after lt),
        )
  ]

  pub page_written : (n a m : ℕ) (p l new : FileState) → IsSound p → IsWritingPages decode w n p l → n ≤ a → a + m ≤ length w.image → AreClean w.pages n a → AreDirty w.pages a (a + m)
      → Writes (4096 + a) (take m (drop a w.image)) p new → IsWritingPages decode w (a + m) new l
  page_written n a m p l new sound on from within clean dirty done =
      let bytes = take m (drop a w.image) in
      let size : length bytes ≡ m = omega (arith, length-take m (drop a w.image), length-drop a w.image, within) in
      let before = shows_clean n a p on.ready sound on.pages (omega (arith, within)) clean on.shows in
      subst (λ (s : FileState). IsWritingPages decode w (a + m) s l) (sym done)
      (record {
        ready = on.ready;
        pages = pages_stay a m (put p.seen (4096 + a) bytes) p dirty on.pages;
        within = within;
        shows = λ i lt. elim (cases_lt i a) [
          | inl early ↦ (
            omega (arith, (before i early).0, put_grows p.seen bytes (4096 + a)),
            get_or-put_outside p.seen (4096 + a) bytes (4096 + i) (before i early).0 (λ covers. omega (arith, covers.0, early)) ∙ (before i early).1,
          )
          | inr late ↦
              let place : 4096 + i - (4096 + a) ≡ i - a = omega (arith, late) in
              let back : a + (i - a) ≡ i = omega (arith, late) in (
                omega (arith, put_reaches p.seen bytes (4096 + a) (omega (arith, size, lt, late)), size, lt),
                get_or-put_inside p.seen (4096 + a) bytes (4096 + i) (omega (arith, late)) (omega (arith, size, lt))
                    ∙ ap (λ (k : ℕ). get_or bytes k 0) place
                    ∙ get_or-take m (drop a w.image) (i - a) 0 (omega (arith, lt, late))
                    ∙ get_or-drop a w.image (i - a) 0
                    ∙ ap (λ (k : ℕ). get_or w.image k 0) back,
              )
        ];
        encoding = on.encoding;
      })

  pub page_failed : (n a m : ℕ) (p l new : FileState) → IsWritingPages decode w n p l → n ≤ a → AreDirty w.pages a (a + m) → MayWrite (4096 + a) (take m (drop a w.image)) p new → IsWritingPages decode w n new l
  page_failed n a m p l new on from dirty (inl same) = subst (λ (s : FileState). IsWritingPages decode w n s l) (sym same) on
  page_failed n a m p l new on from dirty (inr part) = subst (λ (s : FileState). IsWritingPages decode w n s l) (sym part.2)
      (record {
        ready = on.ready;
        pages = pages_stay a m part.0 p dirty on.pages;
        within = on.within;
        shows = λ i lt. (
          omega (arith, (on.shows i lt).0, part.1.no_shorter),
          part_keeps (4096 + a) (take m (drop a w.image)) p.seen part.0 part.1 (4096 + i) (on.shows i lt).0 (λ covers. omega (arith, covers.0, lt, from)) ∙ (on.shows i lt).1,
        );
        encoding = on.encoding;
      })

  unclean_before : (purpose : Purpose) (primary : List ℕ) → is_clean_file primary ≡ false → IsBeforeHeader decode purpose w.now primary
  unclean_before Flush primary unclean = inl unclean
  unclean_before Repair primary unclean = unclean

  pub pages_synced : (n : ℕ) (purpose : Purpose) (p l new : FileState) → IsSound p → IsWritingPages decode w n p l → AreClean w.pages n (length w.image) → Syncs p new → ArePagesSynced decode w purpose new l
  pages_synced n purpose p l new sound on clean done = subst (λ (s : FileState). ArePagesSynced decode w purpose s l) (sym done)
      (record {
        ready = on.ready;
        sector = sector_at_rest p.seen w.plan.final;
        before = unclean_before purpose p.seen (pages_unclean w.image w.pages p p.seen on.pages sound.left);
        shows = shows_clean n (length w.image) p on.ready sound on.pages (omega arith) clean on.shows;
        encoding = on.encoding;
      })

  -- ---- the last sector

  final_stays : (purpose : Purpose) (p l : FileState) (seen : List ℕ) → IsSound p → ArePagesSynced decode w purpose p l → ArePagesSynced decode w purpose (after_write p 0 w.plan.final seen) l
  final_stays purpose p l seen sound on = record {
    ready = on.ready;
    sector = sector_stays p.synced w.plan.final seen p on.ready.final_long (omega (arith, shows_long decode w.memory w.image w.pages w.plan on.ready p.synced on.shows)) sound on.sector;
    before = on.before;
    shows = on.shows;
    encoding = on.encoding;
  }

  pub final_written : (purpose : Purpose) (p l new : FileState) → IsSound p → ArePagesSynced decode w purpose p l → Writes 0 w.plan.final p new → IsHeaderWritten decode w purpose new l
  final_written purpose p l new sound on done = subst (λ (s : FileState). IsHeaderWritten decode w purpose s l) (sym done)
      (record { paged = final_stays purpose p l (put p.seen 0 w.plan.final) sound on; shown = put_sector p.seen w.plan.final on.ready.final_long })

  pub final_failed : (purpose : Purpose) (p l new : FileState) → IsSound p → ArePagesSynced decode w purpose p l → MayWrite 0 w.plan.final p new → ArePagesSynced decode w purpose new l
  final_failed purpose p l new sound on (inl same) = subst (λ (s : FileState). ArePagesSynced decode w purpose s l) (sym same) on
  final_failed purpose p l new sound on (inr part) = subst (λ (s : FileState). ArePagesSynced decode w purpose s l) (sym part.2) (final_stays purpose p l part.0 sound on)

  pub final_synced : (v : Pages) (purpose : Purpose) (p l new : FileState) → IsSound p → IsHeaderWritten decode w purpose p l → v.bins_size ≡ length w.image → Syncs p new
      → IsAtRest decode (record w { now = w.memory; pages = v }) new
  final_synced v purpose p l new sound on size done =
      let beside = left_beside p.synced w.plan.final p.seen p on.paged.ready.final_long on.paged.sector sound.left in
      let shows : Shows w.image (length w.image) p.seen = λ i lt. (omega (arith, (on.paged.shows i lt).0, beside.size), beside.rest (4096 + i) (omega arith) ∙ (on.paged.shows i lt).1) in
      subst (λ (s : FileState). IsAtRest decode (record w { now = w.memory; pages = v }) s) (sym done)
      (record {
        rest = refl;
        clean = clean_of decode w.memory w.image w.pages w.plan on.paged.ready p.seen shows on.shown;
        behind = shows_behind w.image v p.seen (sym size) shows;
      })

  -- ---- without a call

  pub repair_begins : (p l : FileState) → PlanFitsImage decode w.memory w.image w.pages w.plan → p ≡ at_rest p.synced → is_clean_file p.synced ≡ false → 512 ≤ length p.synced
      → IsBehind w.image w.pages p.synced → HasLog w.plan.encoding l → IsWritingPages decode w 0 p l
  repair_begins p l ready rest unclean long behind encoding = record {
    ready = ready;
    pages = subst (λ (s : FileState). ArePagesOnWay w.image w.pages s) (sym rest) (record {
      unclean = unclean;
      same = behind.same;
      sector = long;
      long = long;
      covered = λ page lt off. omega (arith, behind.covered page lt off, length-drop 4096 p.synced);
      ranges = tt;
    });
    within = omega arith;
    shows = λ i lt. absurd (omega (arith, lt));
    encoding = encoding;
  }

  pub absorbed : (memory : T × ℕ) (image : List ℕ) (v : Pages) (p : FileState) → ChangesAreMarked w.image w.pages image v → IsAtRest decode w p → IsAtRest decode (record w { memory = memory; image = image; pages = v }) p
  absorbed memory image v p marks on = record {
    rest = on.rest;
    clean = on.clean;
    behind = record {
      same = λ i lt off.
          let page = marks.within (i / 512) (omega (arith, lt, marks.whole)) off in
          on.behind.same i (omega (arith, page)) (marks.kept (i / 512) off) ∙ sym (marks.same i lt off);
      covered = λ page lt off. on.behind.covered page (marks.within page lt off) (marks.kept page off);
    };
  }
