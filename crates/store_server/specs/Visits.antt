-- What a thread of a service asked for: the clients that it served, one after another.
use Rattle.std.specs.Prelude.{◌≡◌, ◌⊎◌, ℕ, Bool, List, [], ◌∷◌, Option, ⊤}
use Rattle.std.specs.Io.KnownBytes.{Appends}
use Rattle.refusals.specs.declared.refusal.Refusal.{Refusal}
use Rattle.reg_tree.specs.Maps.{TreeMap}
use Rattle.reply_lines.specs.declared.reply.ReplyLine.{ReplyLine}
use Rattle.commit_journal.specs.Store.{Store}
use Rattle.engine_invariant.specs.Engines.{EngineView}
use Rattle.ktm_calls.specs.Moments.{SeesMore, Sight, Tells, no_sight}
use Rattle.ktm_calls.specs.Denials.{IsDenied, IsRefusal}
use Rattle.ktm_calls.specs.Kinds.{Told}
use Rattle.ktm_calls.specs.declared.registry.Denied.{Denied}
use Rattle.store_model.specs.declared.event.Event.TheVariants as event
use Rattle.registry_lines.specs.Scripts.{Script, Flushes, IsBegun, MayNotEnter}
use Rattle.served_replies.specs.ServedReplies.{served_texts}
use Rattle.served_replies.specs.declared.reply.ServedReply.{ServedReply}
use Rattle.store_server.specs.OwnLines.{AnswersLines}
use Rattle.store_server.specs.declared.served_lines.LinesServed.{LinesServed}
use Rattle.store_server.specs.declared.served_lines.LinesServed.TheVariants.{Over, NotUnderstood, OutOfMemory, Unwritten}
use Rattle.store_server.specs.declared.session_ends.SessionEnds.{SessionEnds}
use Rattle.store_server.specs.declared.session_ends.SessionEnds.TheVariants.{Granted, Denied as EndDenied}

-- each reply was written
abbrev pub AllWritten : LinesServed → Type 0
AllWritten Over = ⊤
AllWritten NotUnderstood = ⊤
AllWritten OutOfMemory = ⊤
AllWritten Unwritten = ⊥

-- Lines were answered in turn, from old to new. Unless a write failed, what was written is their replies, in their order.
pub record ServesLines (saves : Store → ℕ → List TreeMap → Type 0) (store : Store) (sole : Bool) (origin : EngineView) (trees : List TreeMap) (number hives : ℕ) (old : Script) (was : Option (List ℕ)) (end : LinesServed) (new : Script) (is : Option (List ℕ)) : Type 0 where
  pub lines : List (List ℕ)
  pub replies : List ServedReply
  pub answered : AnswersLines saves store sole origin trees number hives old lines replies new
  pub wrote : AllWritten end → Appends was is (served_texts hives replies)

-- All that was accepted was made durable, or that was refused. Then lines were answered in turn.
pub record HasServed (saves : Store → ℕ → List TreeMap → Type 0) (store : Store) (sole : Bool) (origin : EngineView) (trees : List TreeMap) (number hives : ℕ) (old new : Script) : Type 0 where
  pub flushed : ReplyLine
  pub mid : Script
  pub flushes : Flushes sole origin trees number hives old flushed mid
  pub lines : List (List ℕ)
  pub replies : List ServedReply
  pub answered : AnswersLines saves store sole origin trees number hives mid lines replies new

-- a session ended, with all of its transactions; or its end was denied
abbrev pub EndsSessionAs : Bool → EngineView → List TreeMap → ℕ → ℕ → Sight → Sight → ℕ → SessionEnds → Type 0
EndsSessionAs sole origin trees number hives was is session Granted =
    (told : Told) × Tells sole origin trees number hives was is (event.EndSession session) told × ¬ (IsRefusal told.reply)
EndsSessionAs sole origin trees number hives was is session EndDenied =
    (why : Denied) × IsDenied sole origin trees number hives was is (event.EndSession session) why

-- A client's session was opened at this moment, after all that its thread had seen. It served lines. At last its end was
-- asked for, whatever ended the lines, and was granted or denied.
pub record HasSession (saves : Store → ℕ → List TreeMap → Type 0) (store : Store) (sole : Bool) (origin : EngineView) (trees : List TreeMap) (number hives : ℕ) (was : Sight) (moment : ℕ) (is : Sight) (ends : SessionEnds) : Type 0 where
  pub first : Script
  pub begun : IsBegun sole origin trees number hives was moment first
  pub last : Script
  pub served : HasServed saves store sole origin trees number hives first last
  pub ended : EndsSessionAs sole origin trees number hives last.session.seen is last.session.number ends
  pub then : SeesMore last.session.seen is

-- A client had a session, or none was opened.
abbrev pub ServesClient : (Store → ℕ → List TreeMap → Type 0) → Store → Bool → EngineView → List TreeMap → ℕ → ℕ → Sight → Sight → SessionEnds → Type 0
ServesClient saves store sole origin trees number hives was is ends =
    ((moment : ℕ) × HasSession saves store sole origin trees number hives was moment is ends)
    ⊎ ((ends ≡ Granted) × (why : Refusal) × MayNotEnter sole origin trees number hives was is why)

-- the ends of one session and of others: all were granted, or one was denied
abbrev pub ends_of_both : SessionEnds → SessionEnds → SessionEnds
ends_of_both Granted ends = ends
ends_of_both EndDenied ends = EndDenied

-- Clients were served one after another; after each but the last one, this was seen. All sessions that were opened ended, or
-- the end of one was denied.
abbrev pub ServesInTurn : (Store → ℕ → List TreeMap → Type 0) → Store → Bool → EngineView → List TreeMap → ℕ → ℕ → Sight → List Sight → Sight → SessionEnds → Type 0
ServesInTurn saves store sole origin trees number hives was [] is ends = (is ≡ was) × (ends ≡ Granted)
ServesInTurn saves store sole origin trees number hives was (mid ∷ more) is ends =
    (one : SessionEnds) × (others : SessionEnds) × ServesClient saves store sole origin trees number hives was mid one × ServesInTurn saves store sole origin trees number hives mid more is others × (ends ≡ ends_of_both one others)

-- what is so of a thread that has seen this: it served clients in turn, asked for nothing else, and reports how their sessions
-- ended
abbrev pub ReportsVisits : (Store → ℕ → List TreeMap → Type 0) → Store → Bool → EngineView → List TreeMap → ℕ → ℕ → Sight → SessionEnds → Type 0
ReportsVisits saves store sole origin trees number hives is ends = (visits : List Sight) × ServesInTurn saves store sole origin trees number hives no_sight visits is ends
