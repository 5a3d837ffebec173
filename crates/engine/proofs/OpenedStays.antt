-- A machine has as many trees as it was opened on.
use Rattle.std.proofs.Common.{◌≡◌, List, [], ◌∷◌, ◌∙◌, ap, length}
use Rattle.store_model.specs.Machine.{Machine}
use Rattle.store_model.specs.Steps.{Run}
use Rattle.store_model.specs.declared.event.Event.{Event}
use Rattle.store_model.specs.declared.event.Reply.{Reply}
use Rattle.store_model.proofs.Accepting.{bounds_stay}

pub run_stays : (old new : Machine) (es : List Event) (rs : List Reply) → Run old es rs new → length new.opened ≡ length old.opened
run_stays old new [] [] run = ap (λ (m : Machine). length m.opened) run
run_stays old new [] (r ∷ rs) run = absurd run
run_stays old new (e ∷ es) [] run = absurd run
run_stays old new (e ∷ es) (r ∷ rs) (mid, step, rest) = run_stays mid new es rs rest ∙ (bounds_stay old mid e r step).1
