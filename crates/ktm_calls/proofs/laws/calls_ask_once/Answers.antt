use Rattle.std.proofs.Common.{[], ◌∷◌, ◌++◌, ◌∙◌, List, ap, refl}
use Rattle.histories.specs.Asked.{asked_in}
use Rattle.histories.specs.Points.{HistoryEntry, entry_of}
use Rattle.histories.proofs.Asked.{asked_one}
use Rattle.ktm_calls.proofs.laws.calls_ask_once.Goals as goal

pub returns : goal.returns
returns c = λ start trees number hives was is event told tells asks.
    let stands = tells.stands in
    let entry : HistoryEntry = entry_of event told.reply stands.after in (
      stands.after,
      ap asked_in stands.there ∙ (asked_one stands.past entry asks ∙ ap (λ (asked : List HistoryEntry). asked ++ entry ∷ []) (tells.alone refl)),
    )
