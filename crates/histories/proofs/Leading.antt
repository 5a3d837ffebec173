-- What a history that leads to a store keeps as it goes on.
use Rattle.std.proofs.Common.{ℕ, ◌≤◌, List, [], ◌∷◌, ◌++◌, refl, ap, sym, subst, ◌∙◌, arith, le_refl}
use Rattle.store_model.specs.Machine.{Machine}
use Rattle.engine_invariant.specs.Engines.{EngineView}
use Rattle.histories.specs.Points.{HistoryEntry}
use Rattle.histories.specs.Histories.{AreSafe, Continues, IsHistory, LeadsTo, end_of}
use Rattle.histories.proofs.Chains.{clock_grows, end_append, end_with, history_append, history_with, safe_kept, safe_with}

module _ (start : EngineView) (ws : ℕ → Machine → Type 0) (wf : Type 0) where
  -- nothing happened
  pub leads_still : (s t : ℕ → Machine → Type 0) (f g : Type 0) (h : List HistoryEntry) (now : EngineView)
      → (g → f) → (g → (k : ℕ) (m : Machine) → k ≤ now.clock → s k m → t k m) → LeadsTo start ws wf s f h now → LeadsTo start ws wf t g h now
  leads_still s t f g h now back past k =
      let late : start.clock ≤ now.clock = rw (← k.now_is) (clock_grows start h k.run) in
      record {
        run = k.run;
        now_is = k.now_is;
        back = λ ok. k.back (back ok);
        past = λ ok n m le is. past ok n m (omega (arith, le, late)) (k.past (back ok) n m le is);
        crashes = λ ok. safe_kept s t start h now.clock k.run (rw k.now_is (le_refl now.clock)) (past ok) (k.crashes (back ok));
      }

  -- one event more
  pub leads_with : (s t : ℕ → Machine → Type 0) (f g : Type 0) (h : List HistoryEntry) (now : EngineView) (e : HistoryEntry)
      → Continues now e → (g → f) → (g → (k : ℕ) (m : Machine) → k ≤ now.clock → s k m → t k m) → (g → t e.after.clock e.after.machine) → LeadsTo start ws wf s f h now → LeadsTo start ws wf t g (h ++ e ∷ []) e.after
  leads_with s t f g h now e follows back past after k =
      let still = leads_still s t f g h now back past k in
      let on : Continues (end_of start h) e = subst (λ (p : EngineView). Continues p e) (sym k.now_is) follows in
      record {
        run = history_with start h e k.run on;
        now_is = end_with start h e;
        back = still.back;
        past = still.past;
        crashes = λ ok. safe_with t start h e (still.crashes ok) (after ok);
      }

safe_append : (s : ℕ → Machine → Type 0) (from : EngineView) (xs ys : List HistoryEntry) → AreSafe s from xs → AreSafe s (end_of from xs) ys → AreSafe s from (xs ++ ys)
safe_append s from [] ys a b = b
safe_append s from (x ∷ xs) ys a b = (a.0, safe_append s x.after xs ys a.1 b)

-- an engine of which nothing is known yet but that it is safe now
pub leads_from : (start : EngineView) (s : ℕ → Machine → Type 0) (f : Type 0) → (f → s start.clock start.machine) → LeadsTo start s f s f [] start
leads_from start s f safe = record { run = tt; now_is = refl; back = λ ok. ok; past = λ ok n m le is. is; crashes = safe }

-- Two histories of one engine, of which the second begins where the first has ended, are one: so the parts of a run, with
-- what is put to the engine between them, have one history.
pub leads_join : (start mid now : EngineView) (ws s t : ℕ → Machine → Type 0) (wf f g : Type 0) (xs ys : List HistoryEntry)
    → LeadsTo start ws wf s f xs mid → LeadsTo mid s f t g ys now → LeadsTo start ws wf t g (xs ++ ys) now
leads_join start mid now ws s t wf f g xs ys p q =
    let late : start.clock ≤ mid.clock = rw (← p.now_is) (clock_grows start xs p.run) in
    let on : IsHistory (end_of start xs) ys = subst (λ (w : EngineView). IsHistory w ys) (sym p.now_is) q.run in
    record {
      run = history_append start xs ys p.run on;
      now_is = end_append start xs ys ∙ (ap (λ (w : EngineView). end_of w ys) p.now_is ∙ q.now_is);
      back = λ ok. p.back (q.back ok);
      past = λ ok n m le is. q.past ok n m (omega (arith, le, late)) (p.past (q.back ok) n m le is);
      crashes = λ ok. safe_append t start xs ys (safe_kept s t start xs mid.clock p.run (rw p.now_is (le_refl mid.clock)) (q.past ok) (p.crashes (q.back ok)))
          (subst (λ (w : EngineView). AreSafe t w ys) (sym p.now_is) (q.crashes ok));
    }
