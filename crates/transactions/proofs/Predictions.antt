-- What is prepared is predicted.
use Rattle.std.proofs.Common.{◌≡◌, inl, inr, ℕ, ◌==◌, ◌+◌, Bool, true, false, List, [], ◌∷◌, ◌++◌, length, cond, Option, Some, None, Result, Ok, refl, sym, ◌∙◌, ap, subst, arith}
use Rattle.std.proofs.lemmas.Bool.{true≢false}
use Rattle.std.proofs.lemmas.Option.{none-some, same_Some}
use Rattle.std.proofs.lemmas.List.{length-append}
use Rattle.refusals.specs.declared.refusal.Refusal.{Refusal}
use Rattle.refusals.specs.declared.refusal.Refusal.TheVariants.{NoMemory, TooLarge}
use Rattle.reg_tree.specs.Judgement.{applied}
use Rattle.reg_tree.specs.Encodings.{element_encoded_len}
use Rattle.reg_tree.specs.declared.element.Element.{Element}
use Rattle.reg_tree.specs.declared.op.Op.{Op}
use Rattle.reg_tree.specs.declared.op.Legality.{Legality}
use Rattle.reg_tree.specs.declared.op.Legality.TheVariants.{Legal, Opened}
use Rattle.store_model.specs.Transactions.{inactive_refusal, Transaction, own}
use Rattle.store_model.specs.Machine.{Machine, change, commit_change, commit_refusal, commit_refusal_if, next_commit, fault, first_of, refusal_by, refused_if, room_of, room_refusal, trees_now}
use Rattle.store_model.specs.Steps.{Step}
use Rattle.store_model.specs.declared.event.Event.{Event}
use Rattle.store_model.specs.declared.event.Event.TheVariants as event
use Rattle.store_model.specs.declared.event.Reply.{Reply}
use Rattle.store_model.specs.declared.event.Reply.TheVariants as reply
use Rattle.store_model.specs.declared.handle.Tx.{Tx}
use Rattle.store_model.proofs.Replies.{accepted_or, awaits_or}
use Rattle.transactions.specs.Tables.{IsPending}
use Rattle.transactions.specs.Prepared.{EventAccepts, Predicts, IsReady, IsReadyCommit, IsReadyNothing, IsReadyWrite, change_of_ready}
use Rattle.transactions.specs.declared.prepared.ReadyWrite.{ReadyWrite}
use Rattle.transactions.specs.declared.prepared.ReadyCommit.{ReadyCommit}
use Rattle.transactions.specs.declared.prepared.Ready.{Ready}
use Rattle.transactions.specs.declared.prepared.Ready.TheVariants as ready
use Rattle.transactions.proofs.Stored.{found, may_write, commit_free, second}

-- a list is not the same with one more
not_longer : (l : List Element) (e : Element) → l ≡ l ++ e ∷ [] → ⊥
not_longer l e same = omega (arith, ap length same, length-append {A = Element})

-- A change that is made is one that its event accepts

write_foretold : (m : Machine) (session moment : ℕ) (op : Op) (made : ReadyWrite) → IsReadyWrite m session moment op made → Predicts m (event.Write session moment op) (Some (made.element, made.trees))
write_foretold m session moment op made r = (
  (may_write m session moment op None r.free r.there r.named (ap (λ x. refusal_by x (room_refusal m (element_encoded_len (change moment op)))) r.is_legal ∙ r.roomy), r.is_legal, r.element),
  r.trees ∙ ap (λ (e : Element). applied (trees_now m) e.ops e.moment) (sym r.element),
)

commit_foretold : (m : Machine) (made : ReadyCommit) → IsReadyCommit m made → Predicts m (event.CommitAccept made.session made.tx made.moment) (Some (made.element, made.trees))
commit_foretold m made r = (
  (
    r.one,
    found m made.session made.tx r.there ∙ r.found,
    second (fault m) (commit_refusal_if m made.moment (Some r.one)) None r.free
        (second (inactive_refusal (Some r.one)) (commit_refusal m made.moment r.one) None r.active (commit_free m made.moment r.one r.some r.light r.roomy)),
    r.some,
    r.element,
  ),
  r.trees ∙ ap (λ (e : Element). applied (trees_now m) e.ops e.moment) (sym r.element),
)

-- A transaction without operations is no change
nothing_foretold : (m : Machine) (session moment : ℕ) (tx : Tx) → IsReadyNothing m session tx → Predicts m (event.CommitAccept session tx moment) None
nothing_foretold m session moment tx r element (one, there, free, some, is) =
    let content : own m.tx_slots session tx ≡ Some one = sym (found m session tx r.there) ∙ there in
    let p = subst (λ x. IsPending x r.ops r.text_len) content r.pending in
    true≢false (sym r.none ∙ ap (λ (x : List Op). length x == 0) p.given ∙ some)

-- An event whose answer is prepared, while nothing changes, accepts no change

not_both : (judged : Result Legality Refusal) → judged ≡ Ok Legal → judged ≡ Ok Opened → ⊥
not_both judged e f = apart (sym e ∙ f)
  where
    apart : ◌≡◌ {A = Result Legality Refusal} (Ok Legal) (Ok Opened) → ⊥
    apart same = cc

abbrev IsFed : Reply → Type 0
IsFed answer = (answer ≡ reply.Refused NoMemory → ⊥) → ⊥

write_told : (m : Machine) (session moment : ℕ) (op : Op) (answer : Reply) → Step m (event.Write session moment op) answer m → (answer ≡ reply.Refused NoMemory → ⊥) → (element : Element) → EventAccepts m (event.Write session moment op) element → ⊥
write_told m session moment op answer step never_no_memory element (free, is_legal, is) =
    accepted_or IsFed _ _ _ answer step
    (λ levels number d _. not_longer m.accepted (change moment op) (ap (λ (x : Machine). x.accepted) d.next))
    (λ o _. not_both _ is_legal o.is_there)
    (λ why f fine. elim (f.0) [ inl told ↦ none-some why (sym free ∙ told) | inr hungry ↦ fine (ap reply.Refused hungry) ]) never_no_memory

commit_told : (m : Machine) (session moment : ℕ) (tx : Tx) (answer : Reply) → Step m (event.CommitAccept session tx moment) answer m → (answer ≡ reply.Refused NoMemory → ⊥) → (element : Element) → EventAccepts m (event.CommitAccept session tx moment) element → ⊥
commit_told m session moment tx answer step never_no_memory element (one, there, free, some, is) =
    awaits_or IsFed _ _ answer step
    (λ number d _.
    let same : one ≡ d.one = same_Some one d.one (sym there ∙ d.found) in
    by_test d.one (length d.one.ops == 0) (ap (λ (x : Transaction). length x.ops == 0) (sym same) ∙ some) (ap (λ (x : Machine). x.accepted) d.next))
    (λ why f fine. elim (f.0) [
      | inl told ↦ none-some why (sym free ∙ ap (λ x. first_of (fault m) (commit_refusal_if m moment x)) (sym there) ∙ told)
      | inr hungry ↦ fine (ap reply.Refused hungry)
    ]) never_no_memory
  where
    by_test : (t : Transaction) (b : Bool) → b ≡ false → m.accepted ≡ (cond b m (record m { accepted = m.accepted ++ commit_change m moment t ∷ []; commits = m.commits ++ next_commit m t ∷ []; room = m.room + room_of (commit_change m moment t) })).accepted → ⊥
    by_test t true off e = true≢false off
    by_test t false off e = not_longer m.accepted (commit_change m moment t) e

told_foretold : (m : Machine) (e : Event) (answer : Reply) → Step m e answer m → (answer ≡ reply.Refused NoMemory → ⊥) → Predicts m e None
told_foretold m (event.Write session moment op) answer step never_no_memory = write_told m session moment op answer step never_no_memory
told_foretold m (event.CommitAccept session tx moment) answer step never_no_memory = commit_told m session moment tx answer step never_no_memory
told_foretold m _ answer step never_no_memory = λ element accepts. accepts

pub predicted : (m : Machine) (spare : ℕ) (e : Event) (made : Ready) → IsReady m spare e made → Predicts m e (change_of_ready made)
predicted m spare e (ready.Answered answer) r = told_foretold m e answer r.0 r.1
predicted m spare e (ready.Write made) r = subst (λ (x : Event). Predicts m x (Some (made.element, made.trees))) (sym r.1.3) (write_foretold m r.1.0 r.1.1 r.1.2 made r.1.4)
predicted m spare e (ready.Nothing session tx) r = subst (λ (x : Event). Predicts m x None) (sym r.0.1) (nothing_foretold m session r.0.0 tx r.1)
predicted m spare e (ready.Commit made) r = subst (λ (x : Event). Predicts m x (Some (made.element, made.trees))) (sym r.1) (commit_foretold m made r.2)
