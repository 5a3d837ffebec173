-- Runs of a program are lives of a store.
use Rattle.std.proofs.Common.{◌≡◌, ◌∙◌, ℕ, true, List, [], ◌∷◌, map, refl, sym, ap, subst, inl, inr}
use Rattle.disk_model.specs.FileState.{FileState}
use Rattle.disk_model.specs.Crash.{LeavesHonest}
use Rattle.engine_invariant.specs.Prefixes.{IsPrimaryOf}
use Rattle.engine.specs.Lives.{AreLivesOfStores, IsNext, Life, ReadsSafely, end_of, faulted_in}
use Rattle.histories.specs.ProgramRuns.{AreProgramRuns, IsNextRun, ProgramRun}

next_life : (hives : ℕ) (run : ProgramRun) (life : Life) (next : ℕ → FileState) → end_of life ≡ run.left → (faulted_in life ≡ true → run.failed ≡ true) → IsNextRun hives run next → IsNext hives life next
next_life hives run life next ends failed (inl (files, was, is)) = inl (files, subst (λ (s : ℕ → FileState). LeavesHonest (IsPrimaryOf hives) s files) (sym ends) was, is)
next_life hives run life next ends failed (inr (seen, is)) = inr (
  λ faulted. subst (λ (s : ℕ → FileState). ReadsSafely hives s) (sym ends) (seen (failed faulted)),
  λ f. is f ∙ ap (λ (s : ℕ → FileState). s f) (sym ends),
)

pub lives_of : (hives : ℕ) (state : ℕ → FileState) (runs : List ProgramRun) → AreProgramRuns hives state runs → (lives : List Life) × AreLivesOfStores hives state lives × (map end_of lives ≡ map (λ (run : ProgramRun). run.left) runs)
lives_of hives state [] runs = ([], tt, refl)
lives_of hives state (run ∷ runs) (leaves, (next, on, rest)) =
    let own = leaves tt in
    let more = lives_of hives next runs rest in (
      own.1 ∷ more.0,
      ((own.0, own.2), (next, next_life hives run own.1 next own.3 own.4 on, more.1)),
      ap (λ (end : ℕ → FileState). end ∷ map end_of more.0) own.3 ∙ ap (λ (ends : List (ℕ → FileState)). run.left ∷ ends) more.2,
    )
