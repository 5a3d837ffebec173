-- What is told of an event: what it asked, without what it has on the heap, and the reply.
use Rattle.std.specs.Prelude.{refl}
use Rattle.std.specs.Coded.{Coded, code_by, coded×}
use Rattle.store_model.specs.declared.event.Event.{Event}
use Rattle.store_model.specs.declared.event.Event.TheVariants as event
use Rattle.store_model.specs.declared.event.Reply.{Reply}
use Rattle.store_model.specs.contracts.event.Reply as reply
use Rattle.ktm_calls.specs.declared.event_kind.EventKind.{EventKind}
use Rattle.ktm_calls.specs.declared.event_kind.EventKind.TheVariants as kind
use Rattle.ktm_calls.specs.contracts.event_kind.EventKind as kinds

-- the kind, session, transaction and moment of an event
abbrev pub kind_of : Event → EventKind
kind_of (event.StartSession session) = kind.StartSession session
kind_of (event.EndSession session) = kind.EndSession session
kind_of (event.Read session hive path question) = kind.Read session
kind_of (event.Write session moment op) = kind.Write session moment
kind_of (event.Begin session id) = kind.Begin session
kind_of (event.TxRead session tx hive path question) = kind.TxRead session tx
kind_of (event.TxWrite session tx moment op) = kind.TxWrite session tx moment
kind_of (event.CommitAccept session tx moment) = kind.CommitAccept session tx moment
kind_of (event.Rollback session tx) = kind.Rollback session tx
kind_of (event.Close session tx) = kind.Close session tx
kind_of (event.Outcome session tx) = kind.Outcome session tx
kind_of (event.OutcomeOf id) = kind.OutcomeOf
kind_of event.FlushAsk = kind.FlushAsk
kind_of (event.Acked number) = kind.Acked number
kind_of event.Fold = kind.Fold
kind_of event.JournalStep = kind.JournalStep
kind_of (event.FlusherStep hive) = kind.FlusherStep hive
kind_of event.TrimStep = kind.TrimStep

-- what an event asked, and what it was answered
pub record Told : Type 0 where
  pub kind : EventKind
  pub reply : Reply

abbrev pub told_code : Coded Told
told_code = code_by (EventKind × Reply) (coded× kinds.the_row.coded reply.the_row.coded) (λ t. (t.kind, t.reply)) (λ p. record { kind = p.0; reply = p.1 }) (λ _. refl)
