-- What a hive has in memory may count as under way.
use Rattle.std.proofs.Common.{◌≡◌, ◌⊎◌, inl, inr, ℕ, ◌<◌, ◌≤◌, refl, ◌∙◌, ap, sym, subst, arith, Some}
use Rattle.std.proofs.lemmas.Option.{none-some, same_Some}
use Rattle.crash_model.specs.Changes.{Rules}
use Rattle.crash_model.specs.Promises.{Choice, Leaves, Answer, Answer.Idle, Answer.More, Answer.Done, Answer.NoMemory, Answer.DiskFault, Answer.Faulted, HiveSays}
use Rattle.crash_model.specs.Life.{Life}
use Rattle.crash_model.specs.Invariant.{HiveFits, EngineFits, State, InvariantHolds}
use Rattle.crash_model.specs.Steps.{OthersStay}
use Rattle.crash_model.specs.Calls.{MemoryFits}
use Rattle.crash_model.specs.Memory.{with_memory, IsOfMemory, Remembers, Absorbs, MemoryStep}
use Rattle.crash_model.proofs.KeepFiles.{keep_files}
use Rattle.crash_model.proofs.KeepSteps.{moved, one_file}
use Rattle.crash_model.proofs.ClausesSuffice.{absorbed}

pub left_with_memory : {X : Type 0} (file : Choice X) (memory : X) → IsOfMemory file memory → (x : X) → Leaves file x
    → Leaves (with_memory file memory) x
left_with_memory file memory own x (inl p) = inl p
left_with_memory file memory (inl none) x (inr p) = absurd (none-some x (sym none ∙ p))
left_with_memory file memory (inr some) x (inr p) = inr (sym some ∙ p)

-- what is durable after a flush step is what was durable before, or the memory
durable_after_step : {T : Type 0} (memory : T × ℕ) (answer : Answer) (file written : Choice (T × ℕ)) → IsOfMemory file memory
    → HiveSays memory answer file written → (written.now ≡ file.now) ⊎ (written.now ≡ memory)
durable_after_step memory Idle file written own says = absurd says
durable_after_step memory NoMemory file written own says = inl (ap (λ (c : Choice _). c.now) says.1)
durable_after_step memory More file written own (inl b) = inl (ap (λ (c : Choice _). c.now) b.1)
durable_after_step memory More file written own (inr b) = inl (ap (λ (c : Choice _). c.now) b.1)
durable_after_step memory DiskFault file written own (inl b) = inl (ap (λ (c : Choice _). c.now) b.1)
durable_after_step memory DiskFault file written own (inr b) = inl (ap (λ (c : Choice _). c.now) b)
durable_after_step memory Faulted file written own says = inl (ap (λ (c : Choice _). c.now) says)
durable_after_step memory Done file written (inl none) says = absurd (none-some says.0 (sym none ∙ says.1))
durable_after_step memory Done file written (inr some) says = inr (ap (λ (c : Choice _). c.now) says.2 ∙ sym (same_Some memory says.0 (sym some ∙ says.1)))

module _ {T Op : Type 0} (r : Rules T Op) (most hives : ℕ) where
  -- what a choice of these two leaves fits
  two_fit : (life : Life T Op) (durable hive : ℕ) (file : Choice (T × ℕ)) (x m : T × ℕ) → file ≡ record { now = x; next = Some m }
      → HiveFits r life durable hive x → HiveFits r life durable hive m → x.1 ≤ m.1
      → (y : T × ℕ) → Leaves file y → HiveFits r life durable hive y × (file.now.1 ≤ y.1)
  two_fit life durable hive file x m is a b le y left = subst (λ (c : Choice (T × ℕ)). HiveFits r life durable hive y × (c.now.1 ≤ y.1)) (sym is) (by_choice (subst (λ c. Leaves c y) is left))
    where
      by_choice : Leaves (record { now = x; next = Some m }) y → HiveFits r life durable hive y × (x.1 ≤ y.1)
      by_choice (inl p) = subst (λ z. HiveFits r life durable hive z × (x.1 ≤ z.1)) (sym p) (a, omega arith)
      by_choice (inr p) = subst (λ z. HiveFits r life durable hive z × (x.1 ≤ z.1)) (same_Some _ _ p) (b, le)

  pub remembered : (memory : ℕ → T × ℕ) (old new : State T Op) → InvariantHolds r most hives old → Remembers r hives memory old new → InvariantHolds r most hives new
  remembered memory old new kept step =
      moved r most hives (record { life = old.life; durable = old.durable; journal = old.journal; files = λ i. with_memory (old.files i) (memory i) }) new old.life old.durable old.journal step.life step.durable step.journal step.files
      (keep_files r most hives old.life old.durable old.journal old.files kept (λ i. with_memory (old.files i) (memory i)) (λ i lt. omega arith) (λ i lt x left. (both i lt x left).0) (λ i lt x left. (both i lt x left).1))
    where
      both : (i : ℕ) → i < hives → (x : T × ℕ) → Leaves (with_memory (old.files i) (memory i)) x
          → HiveFits r old.life old.durable i x × ((old.files i).now.1 ≤ x.1)
      both i lt x left = two_fit old.life old.durable i (with_memory (old.files i) (memory i)) (old.files i).now (memory i) refl (kept.hive_fits i lt (old.files i).now (inl refl)) (step.fits i lt).fits (step.fits i lt).higher x left

  -- one hive with another memory, or with its memory durable
  one_memory : (old new : State T Op) → InvariantHolds r most hives old → (hive : ℕ) (x m : T × ℕ) → new.files hive ≡ record { now = x; next = Some m }
      → new.life ≡ old.life → new.durable ≡ old.durable → new.journal ≡ old.journal → OthersStay hives hive old.files new.files
      → (hive < hives → HiveFits r old.life old.durable hive x × HiveFits r old.life old.durable hive m × (x.1 ≤ m.1) × ((old.files hive).now.1 ≤ x.1)) → InvariantHolds r most hives new
  one_memory old new kept hive x m is life durable journal others fits =
      subst (λ l. EngineFits r most hives l new.durable new.journal new.files) (sym life)
      (subst (λ d. EngineFits r most hives old.life d new.journal new.files) (sym durable)
      (subst (λ j. EngineFits r most hives old.life old.durable j new.files) (sym journal)
      (one_file r most hives old.life old.durable old.journal old.files new.files kept hive others
      (λ lt. omega (arith, (fits lt).3, ap (λ (c : Choice (T × ℕ)). c.now.1) is))
      (λ lt y left. let f = fits lt in two_fit old.life old.durable hive (new.files hive) x m is f.0 f.1 f.2 y left))))

  -- what memory counts as under way fits
  memory_fits : (s : State T Op) → InvariantHolds r most hives s → (hive : ℕ) → hive < hives → (file : Choice (T × ℕ)) (memory : T × ℕ)
      → s.files hive ≡ with_memory file memory → MemoryFits r s hive memory × HiveFits r s.life s.durable hive file.now
  memory_fits s kept hive lt file memory is = (
    record { fits = kept.hive_fits hive lt memory in_memory; higher = kept.rises hive lt memory in_memory },
    kept.hive_fits hive lt file.now (inl (sym (ap (λ (c : Choice (T × ℕ)). c.now) is))),
  )
    where
      in_memory : Leaves (s.files hive) memory
      in_memory = inr (ap (λ (c : Choice (T × ℕ)). c.next) is)

  pub memory_absorbs : (old new : State T Op) → InvariantHolds r most hives old → Absorbs r hives old new → InvariantHolds r most hives new
  memory_absorbs old new kept step = one_memory old new kept step.hive step.file.now (step.tree, step.upto) step.after step.life step.durable step.journal step.others fits
    where
      fits : step.hive < hives → HiveFits r old.life old.durable step.hive step.file.now × HiveFits r old.life old.durable step.hive (step.tree, step.upto) × (step.file.now.1 ≤ step.upto) × ((old.files step.hive).now.1 ≤ step.file.now.1)
      fits lt =
          let had = memory_fits old kept step.hive lt step.file step.memory step.before in
          let has = absorbed r most hives old step.hive step.memory step.upto step.tree had.0 step.low step.high step.replayed in
          let same = ap (λ (c : Choice (T × ℕ)). c.now.1) step.before in
          (had.1, has.fits, omega (arith, has.higher, same), omega (arith, same))

  pub memory_flushes : (answer : Answer) (old new : State T Op) → InvariantHolds r most hives old → MemoryStep hives answer old new → InvariantHolds r most hives new
  memory_flushes answer old new kept step = one_memory old new kept step.hive step.written.now step.memory step.after step.life step.durable step.journal step.others fits
    where
      fits : step.hive < hives → HiveFits r old.life old.durable step.hive step.written.now × HiveFits r old.life old.durable step.hive step.memory × (step.written.now.1 ≤ step.memory.1) × ((old.files step.hive).now.1 ≤ step.written.now.1)
      fits lt =
          let had = memory_fits old kept step.hive lt step.file step.memory step.before in
          let same = ap (λ (c : Choice (T × ℕ)). c.now.1) step.before in
          elim (durable_after_step step.memory answer step.file step.written step.own step.says) as (λ z. HiveFits r old.life old.durable step.hive step.written.now × HiveFits r old.life old.durable step.hive step.memory × (step.written.now.1 ≤ step.memory.1) × ((old.files step.hive).now.1 ≤ step.written.now.1)) [
            | inl p ↦ let n = ap (λ (x : T × ℕ). x.1) p in (subst (HiveFits r old.life old.durable step.hive) (sym p) had.1, had.0.fits, omega (arith, had.0.higher, same, n), omega (arith, same, n))
            | inr p ↦ let n = ap (λ (x : T × ℕ). x.1) p in (subst (HiveFits r old.life old.durable step.hive) (sym p) had.0.fits, had.0.fits, omega (arith, n), omega (arith, had.0.higher, n))
          ]
