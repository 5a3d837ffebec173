-- Whole runs, with the crashes at each of their moments: the headline's words.
use Rattle.std.specs.Prelude.{◌≡◌, ℕ, ◌≤◌, List, [], ◌∷◌, length, take, drop, ⊤}
use Rattle.store_model.specs.Machine.{Machine}
use Rattle.store_model.specs.declared.event.Event.{Event}
use Rattle.store_model.specs.declared.event.Reply.{Reply}
use Rattle.store_model.specs.declared.event.Reply.TheVariants as reply
use Rattle.engine_invariant.specs.Engines.{EngineAnswers, EngineView}

-- Events one after another, from one state of an engine to another. The engine answers each event as it answers that
-- event by itself, with at most one device call. So each moment is that of some boundary between two events, and each
-- boundary is safe at its own moment.
abbrev pub RunsSafely : (ℕ → Machine → Type 0) → EngineView → List Event → List Reply → EngineView → Type 0
RunsSafely safe old [] [] new = (new ≡ old) × safe old.clock old.machine
RunsSafely safe old (event ∷ events) (reply ∷ replies) new = safe old.clock old.machine
    × ((mid : EngineView) × EngineAnswers event reply old mid × RunsSafely safe mid events replies new)
RunsSafely safe old [] (reply ∷ replies) new = ⊥
RunsSafely safe old (event ∷ events) [] new = ⊥

-- an engine answers events one after another
abbrev pub AnswersInTurn : EngineView → List Event → List Reply → EngineView → Type 0
AnswersInTurn = RunsSafely (λ moment machine. ⊤)

-- At a boundary of a run, after some of its answers, something holds of the machine there at a moment.
pub record IsBoundary (safe : ℕ → Machine → Type 0) (old : EngineView) (events : List Event) (replies : List Reply) (new : EngineView) (moment : ℕ) : Type 0 where
  pub answered : ℕ
  pub some : answered ≤ length events
  pub engine : EngineView
  pub then_at : engine.clock ≡ moment
  pub so_far : AnswersInTurn old (take answered events) (take answered replies) engine
  pub then_on : AnswersInTurn engine (drop answered events) (drop answered replies) new
  pub holds : safe moment engine.machine

-- a receipt in the replies is of a number that is durable
abbrev pub ReceiptIsDurable : ℕ → Reply → Type 0
ReceiptIsDurable durable (reply.Receipt number) = number ≤ durable
ReceiptIsDurable durable _ = ⊤
