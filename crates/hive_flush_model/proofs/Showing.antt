-- What a read gives of the primary file in each phase has an honest first sector.
use Rattle.std.proofs.Common.{◌≡◌, inl, inr, ℕ, ◌<◌, Bool, true, List, [], ◌∷◌, length, take, get_or, refl, sym, ap, ◌∙◌, subst, arith, length-take, Some}
use Rattle.std.specs.Prelude.{◌==◌, ◌&&◌, nat_le, if◌then◌else◌}
use Rattle.std.proofs.lemmas.Bool.Decides.{nat_tests}
use Rattle.std.proofs.lemmas.Grind.{same_number_lists}
use Rattle.std.proofs.lemmas.List.{get_or-take, take_all}
use Rattle.disk_model.specs.FileState.{FileState, WrittenRange, IsSound, IsWritten, at_rest}
use Rattle.disk_model.specs.Sector.{IsHonest, last_sector}
use Rattle.hive_flush_model.specs.StoredTrees.{TreeDecoder}
use Rattle.hive_flush_model.specs.Phases.{FlushPhase, FlushPhase.AtRest, FlushPhase.WritingLog, FlushPhase.LogSynced, FlushPhase.PrimaryMarkedDirty, FlushPhase.WritingPages, FlushPhase.PagesSynced, FlushPhase.HeaderWritten, FlushState}
use Rattle.hive_flush_model.specs.States.{AreAll, IsSectorOnWay, PrimaryIsSyncedIn, files_match_phase}
use Rattle.hive_flush_model.proofs.Leaving.{pages_sector}

-- a file at rest
rests_honest : (p : FileState) → p ≡ at_rest p.synced → IsHonest p p.seen
rests_honest p rest = inl (ap (λ (s : FileState). take 512 s.seen) rest)

-- the sector that was written last
sector_last : (sector : List ℕ) (r : WrittenRange) (rs : List WrittenRange) → length sector ≡ 512 → AreAll sector (r ∷ rs) → last_sector (r ∷ rs) ≡ Some sector
sector_last sector r rs long all =
    let test : ((0 == 0) && nat_le 512 (length sector)) ≡ true = grind (arith, nat_tests) in
    ap (λ (q : WrittenRange). last_sector (q ∷ rs)) all.0 ∙ ap (λ (b : Bool). if b then Some (take 512 sector) else last_sector rs) test ∙ ap (λ (l : List ℕ). Some l) (take_all 512 sector (omega (arith, long)))

-- a first sector on its way, which a read gives
sector_honest : (body sector : List ℕ) (p : FileState) → length sector ≡ 512 → IsSound p → IsSectorOnWay body sector p → take 512 p.seen ≡ sector → IsHonest p p.seen
sector_honest body sector p long sound on shown = by_ranges p.ranges refl
  where
    by_ranges : (rs : List WrittenRange) → p.ranges ≡ rs → IsHonest p p.seen
    by_ranges [] none =
        inl (same_number_lists _ _ (omega (arith, length-take 512 p.seen, length-take 512 p.synced, sound.left.no_shorter, sound.left.no_longer, on.least, on.greatest, ap (λ (xs : List ℕ). length xs) on.synced))
        (λ k lt.
        let below : k < 512 = omega (arith, lt, length-take 512 p.seen) in
        let there : k < p.least = omega (arith, lt, length-take 512 p.seen, sound.left.no_longer, on.least, on.greatest) in
        get_or-take 512 p.seen k 0 below ∙ sound.left.kept k there (λ w. absurd (subst (λ xs. IsWritten xs k) none w)) ∙ sym (get_or-take 512 p.synced k 0 below)))
    by_ranges (r ∷ rs) some = inr (inl (ap last_sector some ∙ sector_last sector r rs long (subst (AreAll sector) some on.ranges) ∙ ap (λ (l : List ℕ). Some l) (sym shown)))

pub reads_honest : {T : Type 0} (decode : TreeDecoder T) (work : FlushState T) (phase : FlushPhase) (p l : FileState) → IsSound p → files_match_phase decode work phase p l → PrimaryIsSyncedIn phase p → IsHonest p p.seen
reads_honest decode work AtRest p l sound on rests = rests_honest p on.rest
reads_honest decode work (WritingLog n) p l sound on rests = rests_honest p on.quiet.rest
reads_honest decode work LogSynced p l sound on rests = rests_honest p rests
reads_honest decode work PrimaryMarkedDirty p l sound on rests = sector_honest p.synced work.plan.raised p on.logged.ready.raised_long sound on.logged.sector on.shown
reads_honest decode work (WritingPages cause n) p l sound on rests = inl (pages_sector work.image work.pages p p.seen on.pages sound.left)
reads_honest decode work (PagesSynced cause) p l sound on rests = rests_honest p rests
reads_honest decode work (HeaderWritten cause) p l sound on rests = sector_honest p.synced work.plan.final p on.paged.ready.final_long sound on.paged.sector on.shown
