-- What is so of each answer that an event may have is so of its reply.
use Rattle.std.proofs.Common.{ℕ, Option}
use Rattle.refusals.specs.declared.refusal.Refusal.{Refusal}
use Rattle.store_model.specs.Shapes.{DoneOr, ReadOr, AcceptedOr, AddedOr, BegunOr, AwaitsOr, OutcomeOr, CommittedAsOr, ReceiptOr, FoldedOr, SteppedOr}
use Rattle.store_model.specs.declared.handle.Tx.{Tx}
use Rattle.store_model.specs.declared.handle.Outcome.{Outcome}
use Rattle.store_model.specs.declared.event.ReadResult.{ReadResult}
use Rattle.disk_model.specs.declared.progress.Progress.{Progress}
use Rattle.store_model.specs.declared.event.Reply.{Reply}
use Rattle.store_model.specs.declared.event.Reply.TheVariants as reply

module _ (X : Reply → Type 0) where
  pub done_or : (D : Type 0) (R : Refusal → Type 0) (r : Reply) → DoneOr D R r → (D → X reply.Done) → ((e : Refusal) → R e → X (reply.Refused e)) → X r
  done_or D R reply.Done s f g = f s
  done_or D R (reply.Refused e) s f g = g e s
  done_or D R _ s f g = absurd s

  pub read_or : (D : ReadResult → Type 0) (R : Refusal → Type 0) (r : Reply) → ReadOr D R r → ((v : ReadResult) → D v → X (reply.Read v)) → ((e : Refusal) → R e → X (reply.Refused e)) → X r
  read_or D R (reply.Read v) s f g = f v s
  read_or D R (reply.Refused e) s f g = g e s
  read_or D R _ s f g = absurd s

  pub accepted_or : (D : Option ℕ → ℕ → Type 0) (O : Type 0) (R : Refusal → Type 0) (r : Reply) → AcceptedOr D O R r → ((l : Option ℕ) (n : ℕ) → D l n → X (reply.Accepted l n)) → (O → X reply.Opened) → ((e : Refusal) → R e → X (reply.Refused e)) → X r
  accepted_or D O R (reply.Accepted l n) s f h g = f l n s
  accepted_or D O R reply.Opened s f h g = h s
  accepted_or D O R (reply.Refused e) s f h g = g e s
  accepted_or D O R _ s f h g = absurd s

  pub added_or : (D : Option ℕ → Type 0) (O : Type 0) (R : Refusal → Type 0) (r : Reply) → AddedOr D O R r → ((l : Option ℕ) → D l → X (reply.Added l)) → (O → X reply.Opened) → ((e : Refusal) → R e → X (reply.Refused e)) → X r
  added_or D O R (reply.Added l) s f h g = f l s
  added_or D O R reply.Opened s f h g = h s
  added_or D O R (reply.Refused e) s f h g = g e s
  added_or D O R _ s f h g = absurd s

  pub begun_or : (D : Tx → Type 0) (R : Refusal → Type 0) (r : Reply) → BegunOr D R r → ((t : Tx) → D t → X (reply.Begun t)) → ((e : Refusal) → R e → X (reply.Refused e)) → X r
  begun_or D R (reply.Begun t) s f g = f t s
  begun_or D R (reply.Refused e) s f g = g e s
  begun_or D R _ s f g = absurd s

  pub awaits_or : (D : ℕ → Type 0) (R : Refusal → Type 0) (r : Reply) → AwaitsOr D R r → ((n : ℕ) → D n → X (reply.Awaits n)) → ((e : Refusal) → R e → X (reply.Refused e)) → X r
  awaits_or D R (reply.Awaits n) s f g = f n s
  awaits_or D R (reply.Refused e) s f g = g e s
  awaits_or D R _ s f g = absurd s

  pub outcome_or : (D : Outcome → Type 0) (R : Refusal → Type 0) (r : Reply) → OutcomeOr D R r → ((o : Outcome) → D o → X (reply.OutcomeIs o)) → ((e : Refusal) → R e → X (reply.Refused e)) → X r
  outcome_or D R (reply.OutcomeIs o) s f g = f o s
  outcome_or D R (reply.Refused e) s f g = g e s
  outcome_or D R _ s f g = absurd s

  pub committed_as_or : (D : ℕ → Type 0) (R : Refusal → Type 0) (r : Reply) → CommittedAsOr D R r → ((n : ℕ) → D n → X (reply.CommittedAs n)) → ((e : Refusal) → R e → X (reply.Refused e)) → X r
  committed_as_or D R (reply.CommittedAs n) s f g = f n s
  committed_as_or D R (reply.Refused e) s f g = g e s
  committed_as_or D R _ s f g = absurd s

  pub receipt_or : (D : ℕ → Type 0) (W : Type 0) (R : Refusal → Type 0) (r : Reply) → ReceiptOr D W R r → ((n : ℕ) → D n → X (reply.Receipt n)) → (W → X reply.NotYet) → ((e : Refusal) → R e → X (reply.Refused e)) → X r
  receipt_or D W R (reply.Receipt n) s f h g = f n s
  receipt_or D W R reply.NotYet s f h g = h s
  receipt_or D W R (reply.Refused e) s f h g = g e s
  receipt_or D W R _ s f h g = absurd s

  pub folded_or : (D : ℕ → Type 0) (W : Type 0) (R : Refusal → Type 0) (r : Reply) → FoldedOr D W R r → ((n : ℕ) → D n → X (reply.Folded n)) → (W → X reply.NotYet) → ((e : Refusal) → R e → X (reply.Refused e)) → X r
  folded_or D W R (reply.Folded n) s f h g = f n s
  folded_or D W R reply.NotYet s f h g = h s
  folded_or D W R (reply.Refused e) s f h g = g e s
  folded_or D W R _ s f h g = absurd s

  pub stepped_or : (D : Progress → Type 0) (R : Refusal → Type 0) (r : Reply) → SteppedOr D R r → ((p : Progress) → D p → X (reply.Stepped p)) → ((e : Refusal) → R e → X (reply.Refused e)) → X r
  stepped_or D R (reply.Stepped p) s f g = f p s
  stepped_or D R (reply.Refused e) s f g = g e s
  stepped_or D R _ s f g = absurd s
