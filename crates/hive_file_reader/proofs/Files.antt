-- What was read of a file, as its bytes.
use Rattle.std.proofs.Common.{◌≡◌, ◌⊎◌, inl, inr, ℕ, ◌+◌, ◌≤◌, ◌<◌, ◌≢◌, zero, suc, Bool, true, false, ◌&&◌, List, [], ◌++◌, length, take, drop, Option, Some, None, IfSome, MatchOption, refl, sym, ◌∙◌, ap, subst, arith, length-append, drop_at}
use Rattle.std.specs.Prelude.{nat_le}
use Rattle.std.proofs.lemmas.Bool.{and_parts, le-leb}
use Rattle.std.proofs.lemmas.List.{append-nil, take_at, take-append-le}
use Rattle.std.specs.Io.KnownBytes.{Consumes, IsAtEnd}
use Rattle.refusals.specs.declared.refusal.Refusal.{Refusal}
use Rattle.refusals.specs.declared.refusal.Refusal.TheVariants as refusal
use Rattle.refusals.specs.declared.refusal.Cause.TheVariants as cause
use Rattle.base_block.specs.declared.block.BaseBlock.{BaseBlock}
use Rattle.base_block.specs.Judgements.{IsPrimary, PrimaryRefused}
use Rattle.base_block.specs.Layout.{block_at, is_clean_block}
use Rattle.hive_records.specs.Images.{BinsEncodeTree}
use Rattle.dirt_log.specs.WholeLog.{block_of}
use Rattle.reg_tree.specs.Maps.{TreeMap}
use Rattle.dirt_log.specs.FileContents.{is_clean_file, PrimaryDecodesTo}
use Rattle.hive_cells.specs.Tiles.{DataRefused}
use Rattle.hive_load.specs.Limits.{BinsEncodeTreeInLimits, BinsRefused}
use Rattle.hive_file_reader.specs.Hives.{FileHasBlock, FileHasBins, FileHoldsHive, FileLacksBins, FileHoldsNoHive, IsFilePrefix, lacks_bins, no_sector, no_signature, not_clean, not_usable, not_tiled, no_bins, not_loaded}
use Rattle.hive_file_reader.specs.declared.hive.ReadError.{ReadError}
use Rattle.hive_file_reader.specs.declared.hive.ReadError.TheVariants as unread
use Rattle.hive_file_reader.specs.Readings.{FileRefusedAs, FileBinsRefused, FileBinsRefusedAs, FileBinsUnread, BinsRefusalFitsFile, RefusalFitsFile, of_hive}

-- what holds of a known value for another reason
pub some_as : {A : Type 0} {P Q : A → Type 0} (known : Option A) → ((x : A) → P x → Q x) → IfSome known P → IfSome known Q
some_as None f h = tt
some_as (Some x) f h = f x h

-- bytes that were read are the file's first ones, and all of it if they are fewer than were asked for
pub read_first : (size : ℕ) (known now : Option (List ℕ)) (front : List ℕ) → Consumes known now front → (length front < size → IsAtEnd now) → IfSome known (λ file. (rest : List ℕ) × (file ≡ front ++ rest) × (length front < size → rest ≡ []))
read_first size None now front read end = tt
read_first size (Some file) None front read end = absurd read
read_first size (Some file) (Some rest) front read end = (rest, read, end)

pub read_front : (known now : Option (List ℕ)) (head : List ℕ) → Consumes known now head → (length head < 4096 → IsAtEnd now) → IfSome known (IsFilePrefix head)
read_front known now head read end = read_first 4096 known now head read end

-- a front of fewer than 4,096 bytes is the file
whole_front : (file front : List ℕ) → IsFilePrefix front file → length front < 4096 → length file ≡ length front
whole_front file front is short = omega (arith, ap length is.1, length-append front is.0, ap length (is.2 short))

-- the first sector of a front is the file's
sector_of : (file front : List ℕ) (sector : Option (List ℕ)) → IsFilePrefix front file → MatchOption sector (length front < 512) (λ s. (s ≡ take 512 front) × (512 ≤ length front)) → MatchOption sector (length file < 512) (λ s. (s ≡ take 512 file) × (512 ≤ length file))
sector_of file front None is short = omega (arith, short, whole_front file front is (omega (arith, short)))
sector_of file front (Some s) is told = (
  told.0 ∙ sym (ap (take 512) is.1 ∙ take-append-le 512 front is.0 told.1),
  omega (arith, told.1, ap length is.1, length-append front is.0),
)

pub sector_read : (known now : Option (List ℕ)) (head : List ℕ) (sector : Option (List ℕ)) → Consumes known now head → (length head < 4096 → IsAtEnd now) → MatchOption sector (length head < 512) (λ s. (s ≡ take 512 head) × (512 ≤ length head))
    → IfSome known (λ file. MatchOption sector (length file < 512) (λ s. (s ≡ take 512 file) × (512 ≤ length file)))
sector_read known now head sector read end told = some_as known (λ file is. sector_of file head sector is told) (read_front known now head read end)

-- the block that was reported of each file with a front is the block of the file that was read; and the front is a
-- whole base block
pub read_block : (known now : Option (List ℕ)) (head : List ℕ) (block : BaseBlock) → Consumes known now head → (length head < 4096 → IsAtEnd now) → ((file : List ℕ) → IsFilePrefix head file → FileHasBlock file block × (4096 ≤ length head)) → IfSome known (λ file. FileHasBlock file block)
read_block known now head block read end told = some_as known (λ file is. (told file is).0) (read_front known now head read end)

pub read_whole : (head : List ℕ) (block : BaseBlock) → ((file : List ℕ) → IsFilePrefix head file → FileHasBlock file block × (4096 ≤ length head)) → 4096 ≤ length head
read_whole head block told = (told head ([], sym (append-nil head), λ short. refl)).1

-- the bins data after a whole base block
own_bins : (file head rest bins tail : List ℕ) (block : BaseBlock) → file ≡ head ++ rest → length head ≡ 4096 → rest ≡ bins ++ tail → FileHasBlock file block → length bins ≡ block.bins_size → PrimaryDecodesTo file block bins
own_bins file head rest bins tail block whole long split has size =
    let behind : drop 4096 file ≡ bins ++ tail = ap (drop 4096) whole ∙ drop_at head rest 4096 long ∙ split in
    record {
      read = has.read;
      long = omega (arith, ap length whole, length-append head rest, ap length split, length-append bins tail);
      part = sym (ap (take block.bins_size) behind ∙ take_at bins tail block.bins_size size);
    }

pub read_own : (known mid now : Option (List ℕ)) (head bins : List ℕ) (block : BaseBlock) → Consumes known mid head → Consumes mid now bins → length head ≡ 4096 → length bins ≡ block.bins_size → IfSome known (λ file. FileHasBlock file block)
    → IfSome known (λ file. FileHasBlock file block × PrimaryDecodesTo file block bins)
read_own None mid now head bins block a b long size has = tt
read_own (Some file) None now head bins block a b long size has = absurd a
read_own (Some file) (Some rest) None head bins block a b long size has = absurd b
read_own (Some file) (Some rest) (Some tail) head bins block a b long size has = (has, own_bins file head rest bins tail block a long b has size)

-- a file that ends before its bins data do
pub cut_short : (file : List ℕ) (block : BaseBlock) → FileHasBlock file block → length file < 4096 + block.bins_size → FileLacksBins file (refusal.HiveDamaged 0 cause.Truncated)
cut_short file block has short =
    not_usable (refusal.HiveDamaged 0 cause.Truncated) has.clean (inr (refl, subst IsPrimary has.read has.judged, subst (λ (b : BaseBlock). length file < 4096 + b.bins_size) has.read short))

-- bins data that end early
pub read_short : (known mid now : Option (List ℕ)) (head bins : List ℕ) (block : BaseBlock) → Consumes known mid head → Consumes mid now bins → length head ≡ 4096 → length bins < block.bins_size → IsAtEnd now → IfSome known (λ file. FileHasBlock file block)
    → IfSome known (λ file. ((refusal.HiveDamaged 0 cause.Truncated) ≡ refusal.NoMemory) ⊎ FileLacksBins file (refusal.HiveDamaged 0 cause.Truncated))
read_short None mid now head bins block a b long size end has = tt
read_short (Some file) None now head bins block a b long size end has = absurd a
read_short (Some file) (Some rest) None head bins block a b long size end has = absurd b
read_short (Some file) (Some rest) (Some tail) head bins block a b long size end has =
    inr (cut_short file block has (omega (arith, ap length a, length-append head rest, ap length b, length-append bins tail, ap (λ (l : List ℕ). length l) end)))

-- so the refusal that is made of it
pub short_bins : (known : Option (List ℕ)) (why : Refusal) → why ≡ refusal.HiveDamaged 0 cause.Truncated → IfSome known (λ file. ((refusal.HiveDamaged 0 cause.Truncated) ≡ refusal.NoMemory) ⊎ FileLacksBins file (refusal.HiveDamaged 0 cause.Truncated))
    → IfSome known (λ file. FileBinsUnread file why)
short_bins known why is told = subst (λ (w : Refusal). IfSome known (λ file. FileBinsUnread file w)) (sym is) told

-- bins data of a file that bins and cells don't tile
pub untiled : (known : Option (List ℕ)) (block : BaseBlock) (bins : List ℕ) (why : Refusal) → IfSome known (λ file. FileHasBins file block bins) → DataRefused bins why → IfSome known (λ file. FileBinsRefused file why)
untiled known block bins why has refused = some_as known (λ file own. inr (not_tiled why block bins own refused)) has

-- a file that has no bins data has none that tile
pub unread_bins : (known : Option (List ℕ)) (why : Refusal) → IfSome known (λ file. FileBinsUnread file why) → IfSome known (λ file. FileBinsRefused file why)
unread_bins known why h = some_as known (λ file told. elim told [ inl memory ↦ inl memory | inr lacks ↦ inr (lacks_bins why lacks) ]) h

-- a file whose bins data are refused holds no hive
pub bins_refused : (known : Option (List ℕ)) (error : ReadError) → BinsRefusalFitsFile known error → RefusalFitsFile known error
bins_refused known (unread.Refused why) h = some_as known (λ file told. elim told [ inl memory ↦ inl memory | inr stands ↦ inr (no_bins why stands) ]) h
bins_refused known unread.SourceFailed h = tt

-- what the first sector of a file's front says
sector_tells : (file front : List ℕ) (block : BaseBlock) → IsFilePrefix front file → 512 ≤ length front → block ≡ block_at (take 512 front) → (block ≡ block_of file) × (512 ≤ length file) × (is_clean_file file ≡ is_clean_block block)
sector_tells file front block is long read =
    let same : block ≡ block_of file = read ∙ ap block_at (sym (ap (take 512) is.1 ∙ take-append-le 512 front is.0 long)) in
    let here : 512 ≤ length file = omega (arith, long, ap length is.1, length-append front is.0) in
    (same, here, ap (λ (t : Bool). t && is_clean_block (block_of file)) (le-leb 512 (length file) here) ∙ ap is_clean_block (sym same))

pub told_no_sector : (file front : List ℕ) → IsFilePrefix front file → length front < 512 → FileLacksBins file (refusal.HiveDamaged 0 cause.Truncated)
told_no_sector file front is short = no_sector (omega (arith, short, whole_front file front is (omega (arith, short))))

pub told_no_signature : (file front : List ℕ) (block : BaseBlock) → IsFilePrefix front file → 512 ≤ length front → block ≡ block_at (take 512 front) → block.signature.0 ≢ 0x6667_6572 → FileLacksBins file (refusal.HiveDamaged 0 cause.BadBase)
told_no_signature file front block is long read other =
    let tells = sector_tells file front block is long read in
    no_signature tells.1 (subst (λ (b : BaseBlock). b.signature.0 ≢ 0x6667_6572) tells.0 other)

pub told_not_clean : (file front : List ℕ) (block : BaseBlock) → IsFilePrefix front file → 512 ≤ length front → block ≡ block_at (take 512 front) → is_clean_block block ≡ false → FileLacksBins file (refusal.HiveDamaged 0 cause.NotClean)
told_not_clean file front block is long read unclean =
    let tells = sector_tells file front block is long read in
    not_clean tells.1 (ap is_clean_block (sym tells.0) ∙ unclean)

pub told_not_usable : (file front : List ℕ) (block : BaseBlock) (why : Refusal) → IsFilePrefix front file → 512 ≤ length front → block ≡ block_at (take 512 front) → is_clean_block block ≡ true → PrimaryRefused block why → FileLacksBins file why
told_not_usable file front block why is long read clean refused =
    let tells = sector_tells file front block is long read in
    not_usable why (tells.2 ∙ clean) (inl (subst (λ b. PrimaryRefused b why) tells.0 refused))

pub told_block : (file front : List ℕ) (block : BaseBlock) → IsFilePrefix front file → 512 ≤ length front → block ≡ block_at (take 512 front) → is_clean_block block ≡ true → IsPrimary block → FileHasBlock file block
told_block file front block is long read clean judged =
    let tells = sector_tells file front block is long read in
    record { clean = tells.2 ∙ clean; read = tells.0; judged = judged }

pub told_cut : (file front : List ℕ) (block : BaseBlock) → IsFilePrefix front file → FileHasBlock file block → length front < 4096 → FileLacksBins file (refusal.HiveDamaged 0 cause.Truncated)
told_cut file front block is has short = cut_short file block has (omega (arith, short, whole_front file front is short))

-- ---- a file holds a tree or none

-- the block and the bins data of a file are the only ones
pub same_block : (file : List ℕ) (block other : BaseBlock) → block ≡ block_of file → other ≡ block_of file → block ≡ other
same_block file block other e o = e ∙ sym o

pub same_bins : (file bins others : List ℕ) (block other : BaseBlock) → PrimaryDecodesTo file block bins → PrimaryDecodesTo file other others → bins ≡ others
same_bins file bins others block other own also = own.part ∙ ap (λ (b : BaseBlock). take b.bins_size (drop 4096 file)) (own.read ∙ sym also.read) ∙ sym also.part

pub same_tree : ((bytes : List ℕ) (root minor : ℕ) (t u : TreeMap) → BinsEncodeTree bytes root minor t → BinsEncodeTree bytes root minor u → t ≡ u) → (file : List ℕ) (tree other : TreeMap) → FileHoldsHive file tree → FileHoldsHive file other → tree ≡ other
same_tree one file tree other holds also =
    let blocks : holds.block ≡ also.block = holds.own.read ∙ sym also.own.read in
    let bins : holds.bins ≡ also.bins = same_bins file holds.bins also.bins holds.block also.block holds.own also.own in
    one also.bins also.block.root also.block.minor tree other
    (subst (λ (b : BaseBlock). BinsEncodeTree also.bins b.root b.minor tree) blocks (subst (λ (l : List ℕ). BinsEncodeTree l holds.block.root holds.block.minor tree) bins holds.tree_is.0))
    also.tree_is.0

-- what refuses a base block isn't so of one that may be used
unusable : (block : BaseBlock) (why : Refusal) → PrimaryRefused block why → IsPrimary block → ⊥
unusable block (refusal.HiveDamaged zero cause.BadBase) (inl sign) judged = sign judged.0.signature
unusable block (refusal.HiveDamaged zero cause.BadBase) (inr size) judged = size judged.0.bins_size
unusable block refusal.Unsupported h judged = h (judged.1, judged.2)
unusable block refusal.TooLarge h judged = omega (arith, h, judged.0.within)
unusable block (refusal.HiveDamaged zero cause.Truncated) h judged = h
unusable block (refusal.HiveDamaged zero cause.BadBin) h judged = h
unusable block (refusal.HiveDamaged zero cause.BadCell) h judged = h
unusable block (refusal.HiveDamaged zero cause.BadOffset) h judged = h
unusable block (refusal.HiveDamaged zero cause.BadRecord) h judged = h
unusable block (refusal.HiveDamaged zero cause.BadList) h judged = h
unusable block (refusal.HiveDamaged zero cause.BadName) h judged = h
unusable block (refusal.HiveDamaged zero cause.Shared) h judged = h
unusable block (refusal.HiveDamaged zero cause.BadLog) h judged = h
unusable block (refusal.HiveDamaged zero cause.NotClean) h judged = h
unusable block (refusal.HiveDamaged zero cause.BadStore) h judged = h
unusable block (refusal.HiveDamaged zero cause.TooLarge) h judged = h
unusable block (refusal.HiveDamaged (suc n) c) h judged = h
unusable block refusal.NoMemory h judged = h
unusable block refusal.NotFound h judged = h
unusable block refusal.HasSubkeys h judged = h
unusable block refusal.BadName h judged = h
unusable block refusal.TooDeep h judged = h
unusable block refusal.Conflict h judged = h
unusable block refusal.NotActive h judged = h
unusable block refusal.NoSuchHandle h judged = h
unusable block refusal.NoSeat h judged = h
unusable block refusal.JournalFull h judged = h
unusable block refusal.HistoryFull h judged = h
unusable block refusal.DiskFault h judged = h
unusable block refusal.Faulted h judged = h
unusable block refusal.JournalDamaged h judged = h
unusable block refusal.Fixed h judged = h

pub clean_here : (file : List ℕ) → is_clean_file file ≡ true → is_clean_block (block_of file) ≡ true
clean_here file clean = (and_parts (nat_le 512 (length file)) (is_clean_block (block_of file)) clean).1

-- a file that has a block and as many bytes as it says lacks no bins data
pub lacks_none : (file : List ℕ) (block : BaseBlock) (why : Refusal) → FileHasBlock file block → 4096 + block.bins_size ≤ length file → FileLacksBins file why → ⊥
lacks_none file block why has long (no_sector short) = let no : ⊥ = omega (arith, short, long) in no
lacks_none file block why has long (no_signature there other) = other (subst (λ (b : BaseBlock). b.signature.0 ≡ 0x6667_6572) has.read has.judged.0.signature)
lacks_none file block why has long (not_clean there unclean) = let no : ⊥ = let e : true ≡ false = sym (clean_here file has.clean) ∙ unclean in cc in no
lacks_none file block why has long (not_usable _ clean (inl refused)) = unusable (block_of file) why refused (subst IsPrimary has.read has.judged)
lacks_none file block why has long (not_usable _ clean (inr (is, judged, short))) = omega (arith, short, ap (λ (b : BaseBlock). b.bins_size) has.read, long)

-- the bins data that are refused are those of the tree
other_bins : ((bytes : List ℕ) (root minor : ℕ) (why : Refusal) → BinsRefused bytes root minor why → why ≢ refusal.NoMemory → (tree : TreeMap) → BinsEncodeTreeInLimits bytes root minor tree → ⊥)
    → (file : List ℕ) (why : Refusal) (block : BaseBlock) (bins : List ℕ) → FileHasBins file block bins → BinsRefused bins block.root block.minor why → why ≢ refusal.NoMemory → (tree : TreeMap) → FileHoldsHive file tree → ⊥
other_bins law file why block bins has refused some tree holds =
    let blocks : block ≡ holds.block = has.0.read ∙ sym holds.has.read in
    let same : bins ≡ holds.bins = same_bins file bins holds.bins block holds.block has.1 holds.own in
    law holds.bins holds.block.root holds.block.minor why
    (subst (λ (b : BaseBlock). BinsRefused holds.bins b.root b.minor why) blocks (subst (λ (l : List ℕ). BinsRefused l block.root block.minor why) same refused)) some tree holds.tree_is

pub none_held : ((bytes : List ℕ) (root minor : ℕ) (why : Refusal) → BinsRefused bytes root minor why → why ≢ refusal.NoMemory → (tree : TreeMap) → BinsEncodeTreeInLimits bytes root minor tree → ⊥)
    → (file : List ℕ) (why : Refusal) → FileHoldsNoHive file why → why ≢ refusal.NoMemory → (tree : TreeMap) → FileHoldsHive file tree → ⊥
none_held law file why (no_bins _ (lacks_bins _ lacks)) some tree holds = lacks_none file holds.block why holds.has holds.own.long lacks
none_held law file why (no_bins _ (not_tiled _ block bins has refused)) some tree holds = other_bins law file why block bins has (inl refused) some tree holds
none_held law file why (not_loaded _ block bins has refused) some tree holds = other_bins law file why block bins has (inr refused) some tree holds

-- so of one that is refused as a hive of some number
pub none_held_as : ((bytes : List ℕ) (root minor : ℕ) (why : Refusal) → BinsRefused bytes root minor why → why ≢ refusal.NoMemory → (tree : TreeMap) → BinsEncodeTreeInLimits bytes root minor tree → ⊥)
    → (hive : ℕ) (file : List ℕ) (why : Refusal) → FileRefusedAs hive file why → why ≢ refusal.NoMemory → (tree : TreeMap) → FileHoldsHive file tree → ⊥
none_held_as law hive file why (plain, inl memory, told) some tree holds = some (told ∙ ap (of_hive hive) memory)
none_held_as law hive file why (plain, inr stands, told) some tree holds = none_held law file plain stands (λ memory. some (told ∙ ap (of_hive hive) memory)) tree holds

pub no_bins_as : ((bytes : List ℕ) (root minor : ℕ) (why : Refusal) → BinsRefused bytes root minor why → why ≢ refusal.NoMemory → (tree : TreeMap) → BinsEncodeTreeInLimits bytes root minor tree → ⊥)
    → (hive : ℕ) (file : List ℕ) (why : Refusal) → FileBinsRefusedAs hive file why → why ≢ refusal.NoMemory → (tree : TreeMap) → FileHoldsHive file tree → ⊥
no_bins_as law hive file why (plain, inl memory, told) some tree holds = none_held_as law hive file why (plain, inl memory, told) some tree holds
no_bins_as law hive file why (plain, inr stands, told) some tree holds = none_held_as law hive file why (plain, inr (no_bins plain stands), told) some tree holds
