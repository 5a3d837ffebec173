-- Events that end sessions, one after another.
use Rattle.std.proofs.Common.{◌≡◌, ◌≤◌, ◌∙◌, ℕ, true, List, [], ◌∷◌, ◌++◌, length, refl, append_assoc, ap, arith}
use Rattle.std.proofs.lemmas.List.Elements.{All-head, All-push, All-tail}
use Rattle.histories.specs.Asked.{EndSessions, EndsSession, asked_in, is_asked}
use Rattle.histories.specs.Points.{HistoryEntry}
use Rattle.histories.proofs.Asked.{asked_append, asked_same}
use Rattle.ktm_calls.specs.Ends.{IsAllAsked}
use Rattle.store_model.specs.declared.event.Event.{Event}
use Rattle.store_model.specs.declared.event.Event.TheVariants as event

pub one_more_end : (first was is : List HistoryEntry) (x : HistoryEntry) → EndsSession x.event → is ≡ was ++ x ∷ []
    → ((ends : List HistoryEntry) × EndSessions ends × (was ≡ first ++ ends)) → (ends : List HistoryEntry) × EndSessions ends × (is ≡ first ++ ends)
one_more_end first was is x end added e =
    (e.0 ++ x ∷ [], All-push (λ entry. EndsSession entry.event) e.0 x e.1 end, added ∙ (ap (λ (w : List HistoryEntry). w ++ x ∷ []) e.2 ∙ append_assoc first e.0 (x ∷ [])))

end_is_asked : (e : Event) → EndsSession e → is_asked e ≡ true
end_is_asked (event.EndSession session) ends = refl
end_is_asked _ ends = absurd ends

pub ends_are_asked : (ends : List HistoryEntry) → EndSessions ends → asked_in ends ≡ ends
ends_are_asked [] are = refl
ends_are_asked (x ∷ xs) are =
    let P : HistoryEntry → Type 0 = λ entry. EndsSession entry.event in
    rw (end_is_asked x.event (All-head P x xs are)) (ap (λ (w : List HistoryEntry). x ∷ w) (ends_are_asked xs (All-tail P x xs are)))

-- if one has seen as many events that were asked for as were asked for, it has seen each but the ends at the close
pub asked_at_end : (mine log : List HistoryEntry) (asked : ℕ) → IsAllAsked mine asked log → asked ≤ length (asked_in mine)
    → (ends : List HistoryEntry) × EndSessions ends × (asked_in log ≡ asked_in mine ++ ends)
asked_at_end mine log asked k few =
    let same : asked_in k.past ≡ asked_in mine = asked_same mine k.past k.begins (omega (arith, k.count, few)) in
    (k.ends, k.closing, ap asked_in k.whole ∙ (asked_append k.past k.ends ∙ (ap (λ (w : List HistoryEntry). asked_in k.past ++ w) (ends_are_asked k.ends k.closing) ∙ ap (λ (w : List HistoryEntry). w ++ k.ends) same)))
