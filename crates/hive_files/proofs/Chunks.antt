-- Calls that find what two files hold, counted; and writes, a chunk at a time.
use Rattle.std.proofs.Common.{◌≡◌, inl, inr, ℕ, ◌+◌, ◌≤◌, Bool, cond, true, false, List, length, sym, ap, ◌∙◌, subst, arith}
use Rattle.std.specs.Prelude.{Result, Ok, Err, OnOk, OnErr}
use Rattle.std.proofs.lemmas.Bool.{cases_lt, cases_eq}
use Rattle.disk_model.specs.Call.{Passes, KeepsOthers, Extends}
use Rattle.disk_model.specs.FileState.{FileState, Cuts, MayCut, MayWrite, Syncs, Writes, after_write}
use Rattle.hive_files.specs.Chunks.{HasShortWrites, KeepsWritesShort, calls_by_log, calls_of_part, calls_to_find}
use Rattle.hive_files.specs.declared.contents.HiveContents.{HiveContents}

module _ (primary log : List ℕ) (found : HiveContents) where
  pub clean_calls : found.is_clean ≡ true → calls_to_find primary log found ≡ 1 + calls_of_part 512 + calls_of_part found.block.bins_size
  clean_calls is = ap (λ (b : Bool). 1 + calls_of_part 512 + cond b (calls_of_part found.block.bins_size) (1 + calls_by_log primary log found.block.bins_size)) is

  pub unclean_calls : found.is_clean ≡ false → calls_to_find primary log found ≡ 1 + calls_of_part 512 + (1 + calls_by_log primary log found.block.bins_size)
  unclean_calls is = ap (λ (b : Bool). 1 + calls_of_part 512 + cond b (calls_of_part found.block.bins_size) (1 + calls_by_log primary log found.block.bins_size)) is

-- ---- writes

-- one file, over one call
short_if_written : (offset : ℕ) (bytes seen : List ℕ) (old new : FileState) → length bytes ≤ 65536 → new ≡ after_write old offset bytes seen → HasShortWrites old → HasShortWrites new
short_if_written offset bytes seen old new few is short = subst HasShortWrites (sym is) (few, short)

short_if_part : (offset : ℕ) (bytes : List ℕ) (old new : FileState) → length bytes ≤ 65536 → MayWrite offset bytes old new → HasShortWrites old → HasShortWrites new
short_if_part offset bytes old new few (inl same) short = subst HasShortWrites (sym same) short
short_if_part offset bytes old new few (inr (seen, part, is)) short = short_if_written offset bytes seen old new few is short

short_if_cut : (len : ℕ) (old new : FileState) → MayCut len old new → HasShortWrites old → HasShortWrites new
short_if_cut len old new (inl same) short = subst HasShortWrites (sym same) short
short_if_cut len old new (inr (seen, which, is)) short = subst HasShortWrites (sym is) short

module _ (file : ℕ) (old new : ℕ → ℕ → FileState) (before now : ℕ) (time : Passes old new before now) (others : KeepsOthers file (old before) (new now)) where
  of_call : (HasShortWrites (old before file) → HasShortWrites (new now file)) → KeepsWritesShort old new before now
  of_call its k f from upto short = elim (cases_lt k now) [
    | inl lt ↦ subst HasShortWrites (sym (time.past k f (omega (arith, lt, time.clock)) ∙ ap (λ (n : ℕ). old n f) (omega (arith, lt, from, time.clock)))) short
    | inr le ↦ subst (λ (n : ℕ). HasShortWrites (new n f)) (omega (arith, le, upto)) (elim (cases_eq f file) [
      | inl e ↦ subst (λ (n : ℕ). HasShortWrites (new now n)) (sym e) (its (subst (λ (n : ℕ). HasShortWrites (old before n)) e short))
      | inr ne ↦ subst HasShortWrites (sym (others f ne)) short
    ])
  ]

  module _ {T E F : Type 0} (faithful : F) where
    pub chunks_written : (result : Result T E) (offset : ℕ) (bytes : List ℕ) → length bytes ≤ 65536 → OnOk result (F → Writes offset bytes (old before file) (new now file)) → OnErr result (F → MayWrite offset bytes (old before file) (new now file)) → KeepsWritesShort old new before now
    chunks_written (Ok x) offset bytes few done failed = of_call (short_if_written offset bytes _ _ _ few (done faithful))
    chunks_written (Err e) offset bytes few done failed = of_call (short_if_part offset bytes _ _ few (failed faithful))

    pub chunks_cut : (result : Result T E) (len : ℕ) → OnOk result (F → Cuts len (old before file) (new now file)) → OnErr result (F → MayCut len (old before file) (new now file)) → KeepsWritesShort old new before now
    chunks_cut (Ok x) len done failed = of_call (λ short. subst HasShortWrites (sym (done faithful)) short)
    chunks_cut (Err e) len done failed = of_call (short_if_cut len _ _ (failed faithful))

    pub chunks_synced : (result : Result T E) → OnOk result (F → Syncs (old before file) (new now file)) → OnErr result (F → new now file ≡ old before file) → KeepsWritesShort old new before now
    chunks_synced (Ok x) done failed = of_call (λ short. subst HasShortWrites (sym (done faithful)) tt)
    chunks_synced (Err e) done failed = of_call (λ short. subst HasShortWrites (sym (failed faithful)) short)

-- no call, and some after others
pub chunks_none : (states : ℕ → ℕ → FileState) (clock : ℕ) → KeepsWritesShort states states clock clock
chunks_none states clock k f from upto short = subst (λ (n : ℕ). HasShortWrites (states n f)) (omega (arith, from, upto)) short

pub chunks_on : (old mid new : ℕ → ℕ → FileState) (start before now : ℕ) → Extends old mid start before → Extends mid new before now → KeepsWritesShort old mid start before → KeepsWritesShort mid new before now → KeepsWritesShort old new start now
chunks_on old mid new start before now early late first second k f from upto short = elim (cases_lt k before) [
  | inl lt ↦ subst HasShortWrites (sym (late.past k f (omega (arith, lt)))) (first k f from (omega (arith, lt)) short)
  | inr le ↦ second k f le upto (first before f early.later (omega arith) short)
]
