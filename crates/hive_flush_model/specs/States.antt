-- What each phase of a flush or a repair says of the states of the two files on the disk.
use Rattle.std.specs.Prelude.{◌≡◌, ◌⊎◌, ⊤, ℕ, ◌+◌, ◌-◌, ◌/◌, ◌<◌, ◌≤◌, true, false, List, [], ◌∷◌, length, take, drop, slice_index}
use Rattle.disk_model.specs.FileState.{FileState, WrittenRange, Covers, at_rest}
use Rattle.dirty_vector.specs.Pages.{Pages, is_dirty}
use Rattle.dirt_log.specs.WholeLog.{IsCovered}
use Rattle.dirt_log.specs.FileContents.{is_clean_file, SameWhereClean}
use Rattle.hive_flush_model.specs.StoredTrees.{TreeDecoder, CleanPrimaryHolds}
use Rattle.hive_flush_model.specs.Plans.{IsBehind, PlanFitsImage}
use Rattle.hive_flush_model.specs.Phases.{Purpose, Purpose.Flush, Purpose.Repair, FlushState, Hive, FlushPhase, FlushPhase.AtRest, FlushPhase.WritingLog, FlushPhase.LogSynced, FlushPhase.PrimaryMarkedDirty, FlushPhase.WritingPages, FlushPhase.PagesSynced, FlushPhase.HeaderWritten}

-- each range is this sector at the file's beginning
abbrev pub AreAll : List ℕ → List WrittenRange → Type 0
AreAll sector [] = ⊤
AreAll sector (range ∷ ranges) = (range ≡ record { from = 0; bytes = sector }) × AreAll sector ranges

-- Since the last sync, which left these bytes, nothing but this first sector was written, once or more, done or failed.
pub record IsSectorOnWay (body sector : List ℕ) (primary : FileState) : Type 0 where
  pub synced : primary.synced ≡ body
  pub least : primary.least ≡ length body
  pub greatest : primary.greatest ≡ length body
  pub ranges : AreAll sector primary.ranges

-- the range lies after the base block, in dirty pages alone
pub record IsInDirty (pages : Pages) (range : WrittenRange) : Type 0 where
  pub behind : 4096 ≤ range.from
  pub dirty : (i : ℕ) → Covers range (4096 + i) → is_dirty pages (i / 512) ≡ true

abbrev pub AreInDirty : Pages → List WrittenRange → Type 0
AreInDirty pages [] = ⊤
AreInDirty pages (range ∷ ranges) = IsInDirty pages range × AreInDirty pages ranges

-- Since the last sync nothing but dirty pages were written; it left an unclean first sector, and the image's bytes in
-- each page that isn't dirty.
pub record ArePagesOnWay (image : List ℕ) (pages : Pages) (primary : FileState) : Type 0 where
  pub unclean : is_clean_file primary.synced ≡ false
  pub same : SameWhereClean image (drop 4096 primary.synced) pages
  pub sector : 512 ≤ primary.least
  pub long : 512 ≤ length primary.synced
  pub covered : IsCovered (primary.least - 4096) pages
  pub ranges : AreInDirty pages primary.ranges

-- the image's first n bytes are in the file
abbrev pub Shows : List ℕ → ℕ → List ℕ → Type 0
Shows image n file = (i : ℕ) → i < n → (4096 + i < length file) × (slice_index file (4096 + i) ≡ slice_index image i)

-- a read of the log gives the encoding's first n bytes at its beginning
pub record LogHas (n : ℕ) (encoding seen : List ℕ) : Type 0 where
  pub within : n ≤ length encoding
  pub long : n ≤ length seen
  pub front : take n seen ≡ take n encoding

-- the log is at rest, and the encoding is at its beginning; what an older log left may follow
pub record HasLog (encoding : List ℕ) (log : FileState) : Type 0 where
  pub rest : log ≡ at_rest log.synced
  pub front : take (length encoding) log.synced ≡ encoding

-- the primary file is at rest, clean, holds what is durable, and is behind the image
pub record IsAtRest {T : Type 0} (decode : TreeDecoder T) (work : FlushState T) (primary : FileState) : Type 0 where
  pub rest : primary ≡ at_rest primary.synced
  pub clean : CleanPrimaryHolds decode primary.synced work.now
  pub behind : IsBehind work.image work.pages primary.synced

-- the log is written up to this offset, and the primary file untouched
pub record IsWritingLog {T : Type 0} (decode : TreeDecoder T) (work : FlushState T) (n : ℕ) (primary log : FileState) : Type 0 where
  pub ready : PlanFitsImage decode work.memory work.image work.pages work.plan
  pub quiet : IsAtRest decode work primary
  pub encoding : LogHas n work.plan.encoding log.seen

-- the log is synced; the raised sector may be on its way
pub record IsLogSynced {T : Type 0} (decode : TreeDecoder T) (work : FlushState T) (primary log : FileState) : Type 0 where
  pub ready : PlanFitsImage decode work.memory work.image work.pages work.plan
  pub sector : IsSectorOnWay primary.synced work.plan.raised primary
  pub clean : CleanPrimaryHolds decode primary.synced work.now
  pub behind : IsBehind work.image work.pages primary.synced
  pub encoding : HasLog work.plan.encoding log

-- the same, and a read gives the raised sector
pub record IsPrimaryMarkedDirty {T : Type 0} (decode : TreeDecoder T) (work : FlushState T) (primary log : FileState) : Type 0 where
  pub logged : IsLogSynced decode work primary log
  pub shown : take 512 primary.seen ≡ work.plan.raised

-- the primary file is unclean, and the image is written up to this offset
pub record IsWritingPages {T : Type 0} (decode : TreeDecoder T) (work : FlushState T) (n : ℕ) (primary log : FileState) : Type 0 where
  pub ready : PlanFitsImage decode work.memory work.image work.pages work.plan
  pub pages : ArePagesOnWay work.image work.pages primary
  pub within : n ≤ length work.image
  pub shows : Shows work.image n primary.seen
  pub encoding : HasLog work.plan.encoding log

-- What was synced before the last sector is unclean. But a flush that changes no page leaves what was durable.
abbrev pub IsBeforeHeader : {T : Type 0} → TreeDecoder T → Purpose → T × ℕ → List ℕ → Type 0
IsBeforeHeader decode Flush now primary = (is_clean_file primary ≡ false) ⊎ CleanPrimaryHolds decode primary now
IsBeforeHeader decode Repair now primary = is_clean_file primary ≡ false

-- the whole image is synced; the last sector may be on its way
pub record ArePagesSynced {T : Type 0} (decode : TreeDecoder T) (work : FlushState T) (purpose : Purpose) (primary log : FileState) : Type 0 where
  pub ready : PlanFitsImage decode work.memory work.image work.pages work.plan
  pub sector : IsSectorOnWay primary.synced work.plan.final primary
  pub before : IsBeforeHeader decode purpose work.now primary.synced
  pub shows : Shows work.image (length work.image) primary.synced
  pub encoding : HasLog work.plan.encoding log

-- the same, and a read gives the last sector
pub record IsHeaderWritten {T : Type 0} (decode : TreeDecoder T) (work : FlushState T) (purpose : Purpose) (primary log : FileState) : Type 0 where
  pub paged : ArePagesSynced decode work purpose primary log
  pub shown : take 512 primary.seen ≡ work.plan.final

-- the two files are as a phase says
abbrev pub files_match_phase : {T : Type 0} → TreeDecoder T → FlushState T → FlushPhase → FileState → FileState → Type 0
files_match_phase decode work AtRest primary log = IsAtRest decode work primary
files_match_phase decode work (WritingLog n) primary log = IsWritingLog decode work n primary log
files_match_phase decode work LogSynced primary log = IsLogSynced decode work primary log
files_match_phase decode work PrimaryMarkedDirty primary log = IsPrimaryMarkedDirty decode work primary log
files_match_phase decode work (WritingPages cause n) primary log = IsWritingPages decode work n primary log
files_match_phase decode work (PagesSynced purpose) primary log = ArePagesSynced decode work purpose primary log
files_match_phase decode work (HeaderWritten purpose) primary log = IsHeaderWritten decode work purpose primary log

-- the primary file and the log are as the hive's phase says
abbrev pub is_on : {T : Type 0} → TreeDecoder T → Hive T → FileState → FileState → Type 0
is_on decode hive primary log = files_match_phase decode hive.work hive.phase primary log

-- The primary file is at rest after the sync of the log and after the sync of the pages, as long as no write of its
-- first sector has failed.
abbrev pub PrimaryIsSyncedIn : FlushPhase → FileState → Type 0
PrimaryIsSyncedIn AtRest primary = ⊤
PrimaryIsSyncedIn (WritingLog n) primary = ⊤
PrimaryIsSyncedIn LogSynced primary = primary ≡ at_rest primary.synced
PrimaryIsSyncedIn PrimaryMarkedDirty primary = ⊤
PrimaryIsSyncedIn (WritingPages cause n) primary = ⊤
PrimaryIsSyncedIn (PagesSynced cause) primary = primary ≡ at_rest primary.synced
PrimaryIsSyncedIn (HeaderWritten cause) primary = ⊤
