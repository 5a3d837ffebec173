-- A run of the machine continues by one step.
use Rattle.std.proofs.Common.{◌≡◌, suc, List, [], ◌∷◌, ◌++◌, length, refl, ap, subst}
use Rattle.store_model.specs.Machine.{Machine}
use Rattle.store_model.specs.Steps.{Step, Run}
use Rattle.store_model.specs.declared.event.Event.{Event}
use Rattle.store_model.specs.declared.event.Reply.{Reply}

pub run_on : (old mid new : Machine) (es : List Event) (rs : List Reply) (e : Event) (r : Reply) → Run old es rs mid → Step mid e r new → Run old (es ++ e ∷ []) (rs ++ r ∷ []) new
run_on old mid new [] [] e r run step = (new, subst (λ m. Step m e r new) run step, refl)
run_on old mid new [] (x ∷ rs) e r run step = absurd run
run_on old mid new (x ∷ es) [] e r run step = absurd run
run_on old mid new (x ∷ es) (y ∷ rs) e r (m, one, rest) step = (m, one, run_on m mid new es rs e r rest step)

pub run_long : (old new : Machine) (es : List Event) (rs : List Reply) → Run old es rs new → length rs ≡ length es
run_long old new [] [] run = refl
run_long old new [] (x ∷ rs) run = absurd run
run_long old new (x ∷ es) [] run = absurd run
run_long old new (x ∷ es) (y ∷ rs) (m, one, rest) = ap suc (run_long m new es rs rest)
