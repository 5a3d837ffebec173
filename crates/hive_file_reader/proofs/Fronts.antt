-- The first bytes of a file that are enough to decide which hive it holds.
use Rattle.std.proofs.Common.{◌≡◌, inl, inr, ℕ, ◌+◌, ◌≤◌, ◌<◌, true, List, [], ◌++◌, length, take, drop, Option, IfSome, refl, sym, ◌∙◌, ap, subst, arith, length-append, length-drop}
use Rattle.std.specs.Prelude.{nat_le, replicate}
use Rattle.std.specs.Io.{StartsWith}
use Rattle.std.specs.Io.KnownBytes.{Consumes, IsAtEnd}
use Rattle.std.proofs.KnownBytes.{Consumes-trans, starts_with_rest}
use Rattle.std.proofs.lemmas.Bool.{and_parts, cases_lt, leb-true}
use Rattle.std.proofs.lemmas.List.{append-nil, take_at, drop-take, take-append-le, drop-append-le, length-take-le, length-replicate}
use Rattle.refusals.specs.declared.refusal.Refusal.{Refusal}
use Rattle.refusals.specs.declared.refusal.Refusal.TheVariants as refusal
use Rattle.refusals.specs.declared.refusal.Cause.TheVariants as cause
use Rattle.base_block.specs.declared.block.BaseBlock.{BaseBlock}
use Rattle.base_block.specs.Judgements.{IsPrimary}
use Rattle.base_block.specs.Layout.{is_clean_block}
use Rattle.dirt_log.specs.WholeLog.{block_of}
use Rattle.dirt_log.specs.FileContents.{is_clean_file, PrimaryDecodesTo}
use Rattle.reg_tree.specs.Maps.{TreeMap}
use Rattle.hive_file_reader.specs.Hives.{FileHasBlock, FileHasBins, FileHoldsHive, FileLacksBins, FileHoldsNoHive, IsFilePrefix, IsEnoughOf, lacks_bins, no_sector, no_signature, not_clean, not_usable, not_tiled, no_bins, not_loaded}
use Rattle.hive_file_reader.specs.Readings.{FileRefused, FileRefusedAs}
use Rattle.hive_file_reader.proofs.Files.{some_as, read_first, read_front, read_whole, told_no_sector, told_no_signature, told_not_clean, told_not_usable, told_block, clean_here, same_block, lacks_none}

-- ---- what is true of a front is true of the file

-- a front is all of the file if it is shorter than a base block
prefix_of : (front file : List ℕ) → IsEnoughOf front file → IsFilePrefix front file
prefix_of front file is = (is.rest, is.begins, λ (short : length front < 4096). elim is.enough [ inl none ↦ none | inr there ↦ absurd (omega (arith, short, there.0)) ])

long_here : (file : List ℕ) → is_clean_file file ≡ true → 512 ≤ length file
long_here file clean = leb-true 512 (length file) (and_parts (nat_le 512 (length file)) (is_clean_block (block_of file)) clean).0

-- the block of a front is the file's
prefix_block : (front file : List ℕ) (block : BaseBlock) → IsFilePrefix front file → FileHasBlock front block → FileHasBlock file block
prefix_block front file block is has = told_block file front block is (long_here front has.clean) has.read (ap is_clean_block has.read ∙ clean_here front has.clean) has.judged

-- so are its bins data
front_bins : (front rest file bins : List ℕ) (block : BaseBlock) → file ≡ front ++ rest → block ≡ block_of file → PrimaryDecodesTo front block bins → PrimaryDecodesTo file block bins
front_bins front rest file bins block begins read own =
    let long : 4096 + block.bins_size ≤ length front = own.long in
    let behind : drop 4096 file ≡ drop 4096 front ++ rest = ap (drop 4096) begins ∙ drop-append-le 4096 front rest (omega (arith, long)) in
    record {
      read = read;
      long = omega (arith, long, ap length begins, length-append front rest);
      part = own.part ∙ sym (ap (take block.bins_size) behind ∙ take-append-le block.bins_size (drop 4096 front) rest (omega (arith, long, length-drop 4096 front)));
    }

pub front_has : (front file bins : List ℕ) (block : BaseBlock) → IsEnoughOf front file → FileHasBins front block bins → FileHasBins file block bins
front_has front file bins block is has =
    let here : FileHasBlock file block = prefix_block front file block (prefix_of front file is) has.0 in
    (here, front_bins front is.rest file bins block is.begins here.read has.1)

pub front_holds : (front file : List ℕ) (tree : TreeMap) → IsEnoughOf front file → FileHoldsHive front tree → FileHoldsHive file tree
front_holds front file tree is holds =
    let has : FileHasBins file holds.block holds.bins = front_has front file holds.bins holds.block is (holds.has, holds.own) in
    record { block = holds.block; bins = holds.bins; has = has.0; own = has.1; tree_is = holds.tree_is }

-- a front that ends before its bins data do is the file
front_short : (front file : List ℕ) (why : Refusal) → IsEnoughOf front file → is_clean_file front ≡ true → why ≡ refusal.HiveDamaged 0 cause.Truncated → IsPrimary (block_of front) → length front < 4096 + (block_of front).bins_size → FileLacksBins file why
front_short front file why is clean told judged short = elim is.enough [
  | inl none ↦
      let whole : front ≡ file = sym (is.begins ∙ ap (λ (l : List ℕ). front ++ l) none ∙ append-nil front) in
      subst (λ (l : List ℕ). FileLacksBins l why) whole (not_usable why clean (inr (told, judged, short)))
  | inr there ↦ absurd (omega (arith, short, there.1 (block_of front) (record { clean = clean; read = refl; judged = judged })))
]

front_lacks : (front file : List ℕ) (why : Refusal) → IsEnoughOf front file → FileLacksBins front why → FileLacksBins file why
front_lacks front file why is (no_sector short) = told_no_sector file front (prefix_of front file is) short
front_lacks front file why is (no_signature long other) = told_no_signature file front (block_of front) (prefix_of front file is) long refl other
front_lacks front file why is (not_clean long unclean) = told_not_clean file front (block_of front) (prefix_of front file is) long refl unclean
front_lacks front file why is (not_usable _ clean (inl refused)) = told_not_usable file front (block_of front) why (prefix_of front file is) (long_here front clean) refl (clean_here front clean) refused
front_lacks front file why is (not_usable _ clean (inr (told, judged, short))) = front_short front file why is clean told judged short

front_holds_none : (front file : List ℕ) (why : Refusal) → IsEnoughOf front file → FileHoldsNoHive front why → FileHoldsNoHive file why
front_holds_none front file why is (no_bins _ (lacks_bins _ lacks)) = no_bins why (lacks_bins why (front_lacks front file why is lacks))
front_holds_none front file why is (no_bins _ (not_tiled _ block bins has refused)) = no_bins why (not_tiled why block bins (front_has front file bins block is has) refused)
front_holds_none front file why is (not_loaded _ block bins has refused) = not_loaded why block bins (front_has front file bins block is has) refused

pub front_refused : (hive : ℕ) (front file : List ℕ) (why : Refusal) → IsEnoughOf front file → FileRefusedAs hive front why → FileRefusedAs hive file why
front_refused hive front file why is (plain, inl memory, told) = (plain, inl memory, told)
front_refused hive front file why is (plain, inr none, told) = (plain, inr (front_holds_none front file plain is none), told)

-- ---- bytes that were read are enough

-- bytes of which a base block is refused, whatever follows them, have none
no_block : (head : List ℕ) (block : BaseBlock) (why : Refusal) → 4096 ≤ length head → FileHasBlock head block → ((file : List ℕ) → IsFilePrefix head file → FileLacksBins file why) → ⊥
no_block head block why long has told =
    let rest : List ℕ = replicate block.bins_size 0 in
    let is : IsFilePrefix head (head ++ rest) = (rest, refl, λ (short : length head < 4096). absurd (omega (arith, long, short))) in
    lacks_none (head ++ rest) block why (prefix_block head (head ++ rest) block is has)
    (omega (arith, long, length-append head (replicate block.bins_size 0), length-replicate {A = ℕ} block.bins_size 0)) (told (head ++ rest) is)

pub enough_refused : (known now : Option (List ℕ)) (head : List ℕ) (why : Refusal) → Consumes known now head → (length head < 4096 → IsAtEnd now) → ((file : List ℕ) → IsFilePrefix head file → FileLacksBins file why) → IfSome known (IsEnoughOf head)
enough_refused known now head why read end told = some_as known
    (λ file is. record {
      rest = is.0;
      begins = is.1;
      enough = elim (cases_lt (length head) 4096) [ inl short ↦ inl (is.2 short) | inr long ↦ inr (long, λ block has. absurd (no_block head block why long has told)) ];
    })
    (read_front known now head read end)

-- what was read twice, as one
pub read_twice : (known mid now : Option (List ℕ)) (head front : List ℕ) → Consumes known mid head → StartsWith front head → Consumes mid now (drop (length head) front) → Consumes known now front
read_twice known mid now head front read starts more = subst (Consumes known now) (sym (starts_with_rest front head starts)) (Consumes-trans known mid now head (drop (length head) front) read more)

-- bytes that follow a base block leave it as it is
pub block_stays : (head front : List ℕ) (block : BaseBlock) → ((file : List ℕ) → IsFilePrefix head file → FileHasBlock file block × (4096 ≤ length head)) → StartsWith front head → FileHasBlock front block
block_stays head front block told starts =
    let long : 4096 ≤ length head = read_whole head block told in
    (told front (drop (length head) front, starts_with_rest front head starts, λ (short : length head < 4096). absurd (omega (arith, long, short)))).0

pub enough_read : (known now : Option (List ℕ)) (front : List ℕ) (block : BaseBlock) → Consumes known now front → FileHasBlock front block → (length front < 4096 + block.bins_size → IsAtEnd now) → IfSome known (IsEnoughOf front)
enough_read known now front block read has end = some_as known
    (λ file is. record {
      rest = is.0;
      begins = is.1;
      enough = elim (cases_lt (length front) (4096 + block.bins_size)) [
        | inl short ↦ inl (is.2 short)
        | inr fits ↦ inr (omega (arith, fits), λ other also. omega (arith, fits, ap (λ (b : BaseBlock). b.bins_size) (same_block front other block also.read has.read)))
      ];
    })
    (read_first (4096 + block.bins_size) known now front read end)

-- ---- a file whose bytes are in memory

-- what comes first once the front is moved to the end
turned : (at size : ℕ) (file : List ℕ) → at + size ≤ length file → take size (drop at (take (at + size) file) ++ take at (take (at + size) file)) ≡ take size (drop at file)
turned at size file long =
    let behind : drop at (take (at + size) file) ≡ take size (drop at file) = drop-take at size file in
    let fits : length (take size (drop at file)) ≡ size = length-take-le size (drop at file) (omega (arith, long, length-drop at file)) in
    take_at (drop at (take (at + size) file)) (take at (take (at + size) file)) size (ap length behind ∙ fits) ∙ behind

pub moved_bins : (file bins : List ℕ) (block : BaseBlock) → FileHasBlock file block → 4096 + block.bins_size ≤ length file → bins ≡ take block.bins_size (drop 4096 (take (4096 + block.bins_size) file) ++ take 4096 (take (4096 + block.bins_size) file)) → FileHasBins file block bins
moved_bins file bins block has long is = (has, record { read = has.read; long = long; part = is ∙ turned 4096 block.bins_size file long })

pub whole_file : (file : List ℕ) → IsFilePrefix file file
whole_file file = ([], sym (append-nil file), λ short. refl)
