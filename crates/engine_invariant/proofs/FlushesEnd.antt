-- A flush ends.
use Rattle.std.proofs.Common.{◌≡◌, ◌⊎◌, inl, inr, ℕ, zero, suc, ◌+◌, ◌*◌, ◌<◌, ◌≤◌, refl, sym, ◌∙◌, ap, subst, arith, Some, None}
use Rattle.std.proofs.lemmas.Option.{none-some}
use Rattle.reg_tree.specs.Maps.{TreeMap}
use Rattle.crash_model.specs.Promises.{Choice, settled}
use Rattle.store_model.specs.declared.event.Reply.{Reply}
use Rattle.engine_invariant.specs.States.{HiveView}
use Rattle.engine_invariant.specs.Progress.{FlushView, BeginsFlush, FlushesOn, HasFlushed}

module _ (hives : ℕ → HiveView) (flushes : ℕ → FlushView) (numbers : ℕ → ℕ) (answers : ℕ → Reply) (rests : (hives 0).files.next ≡ None)
    (steps : (k : ℕ) → k < 2 * (flushes 1).pages + 7 → HasFlushed k answers hives ⊎ FlushesOn (numbers k) (answers k) (hives k) (hives (k + 1)) (flushes k) (flushes (k + 1))) where
  pub flush_begins : BeginsFlush (numbers 0) (answers 0) (hives 0) (hives 1) (flushes 1)
  flush_begins = elim (steps 0 (omega arith)) [
    | inl early ↦ absurd (omega (arith, early.1))
    | inr goes ↦ elim (goes) [
      | inl begins ↦ begins
      | inr other ↦ elim (other) [
        | inl on ↦ absurd (none-some (hives 0).memory (sym rests ∙ on.was))
        | inr ends ↦ absurd (none-some (hives 0).memory (sym rests ∙ ends.was))
      ]
    ]
  ]

  -- after k steps it is under way
  record Busy (k : ℕ) : Type 0 where
    memory : (hives k).memory ≡ (hives 1).memory
    next : (hives k).files.next ≡ Some (hives 1).memory
    few : (flushes k).left + k ≤ 2 * (flushes 1).pages + 7
    some : 0 < (flushes k).left

  one_busy : Busy 1
  one_busy = record {
    memory = refl;
    next = ap (λ (c : Choice (TreeMap × ℕ)). c.next) flush_begins.files;
    few = omega (arith, flush_begins.few);
    some = flush_begins.some;
  }

  flushed_on : (k : ℕ) → HasFlushed k answers hives → HasFlushed (k + 1) answers hives
  flushed_on k (j, lt, told, stands) = (j, omega (arith, lt), told, stands)

  next_step : (k : ℕ) → k < 2 * (flushes 1).pages + 7 → HasFlushed k answers hives ⊎ Busy k → HasFlushed (k + 1) answers hives ⊎ Busy (k + 1)
  next_step k lt (inl done) = inl (flushed_on k done)
  next_step k lt (inr not_idle) = elim (steps k lt) [
    | inl done ↦ inl (flushed_on k done)
    | inr goes ↦ by_kind goes
  ]
    where
      by_kind : FlushesOn (numbers k) (answers k) (hives k) (hives (k + 1)) (flushes k) (flushes (k + 1)) → HasFlushed (k + 1) answers hives ⊎ Busy (k + 1)
      by_kind (inl begins) = absurd (none-some (hives 1).memory (sym begins.rests ∙ not_idle.next))
      by_kind (inr (inl on)) = inr (record {
        memory = ap (λ (h : HiveView). h.memory) on.hive ∙ not_idle.memory;
        next = ap (λ (h : HiveView). h.files.next) on.hive ∙ not_idle.next;
        few = omega (arith, on.falls, not_idle.few);
        some = on.some;
      })
      by_kind (inr (inr ends)) = inl (k, omega arith, ends.told, ends.files ∙ ap (λ (x : TreeMap × ℕ). settled x) not_idle.memory)

  all_steps : (k : ℕ) → suc k ≤ 2 * (flushes 1).pages + 7 → HasFlushed (suc k) answers hives ⊎ Busy (suc k)
  all_steps zero le = inr one_busy
  all_steps (suc k) le = let e : suc k + 1 ≡ suc (suc k) = omega arith in subst (λ n. HasFlushed n answers hives ⊎ Busy n) e (next_step (suc k) (omega (arith, le)) (all_steps k (omega (arith, le))))

  pub flush_ends : HasFlushed (2 * (flushes 1).pages + 7) answers hives
  flush_ends =
      let e : suc (2 * (flushes 1).pages + 6) ≡ 2 * (flushes 1).pages + 7 = omega arith in
      by_last (subst (λ n. HasFlushed n answers hives ⊎ Busy n) e (all_steps (2 * (flushes 1).pages + 6) (omega arith)))
    where
      by_last : HasFlushed (2 * (flushes 1).pages + 7) answers hives ⊎ Busy (2 * (flushes 1).pages + 7) → HasFlushed (2 * (flushes 1).pages + 7) answers hives
      by_last (inl done) = done
      by_last (inr not_idle) = absurd (omega (arith, not_idle.few, not_idle.some))
