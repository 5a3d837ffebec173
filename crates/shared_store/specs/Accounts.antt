-- What the threads of a client did, and for how many events they asked.
use Rattle.std.specs.Prelude.{◌≡◌, ◌⊎◌, ◌+◌, ℕ, Bool, List, [], ◌∷◌, Option, Some, Result, Ok, Err}
use Rattle.refusals.specs.declared.refusal.Refusal.{Refusal}
use Rattle.reg_tree.specs.Maps.{TreeMap}
use Rattle.engine_invariant.specs.Engines.{EngineView}
use Rattle.store_model.specs.declared.event.Event.TheVariants as event
use Rattle.ktm_calls.specs.Denials.{Gives, IsDenied, IsNotOpened, IsOpened, IsRefusal}
use Rattle.ktm_calls.specs.Kinds.{Told}
use Rattle.ktm_calls.specs.Moments.{SeesMore, Sight, Tells, no_sight}
use Rattle.ktm_calls.specs.declared.registry.Denied.{Denied}
use Rattle.shared_store.specs.declared.account.Account.{Account}

-- The session of this number ended, or its end was refused.
abbrev pub EndsOrNot : Bool → EngineView → List TreeMap → ℕ → ℕ → Sight → Sight → ℕ → Type 0
EndsOrNot sole begun trees number hives was is session =
    ((told : Told) × Tells sole begun trees number hives was is (event.EndSession session) told)
    ⊎ ((why : Denied) × IsDenied sole begun trees number hives was is (event.EndSession session) why)

-- The first event that a thread asked for opened its session. What it reported is so of what the session had seen then and
-- at the end of the client's work. Then it asked at most for the end of its session, and was left with what it had seen.
pub record HasWorked {T : Type 0} (tells : EngineView → Sight → Sight → T → Type 0) (sole : Bool) (begun : EngineView) (trees : List TreeMap) (number hives : ℕ) (is : Sight) (report : T) : Type 0 where
  pub session : ℕ
  pub first : Sight
  pub told : Told
  pub opened : IsOpened sole begun trees number hives no_sight (record { number = session; seen = first }) told
  pub last : Sight
  pub reports : tells begun first last report
  pub current : ℕ
  pub ended : EndsOrNot sole begun trees number hives last is current
  pub then : SeesMore last is

-- no session was opened for a thread, as this refusal says; it asked for nothing else
abbrev pub HasNoSession : Bool → EngineView → List TreeMap → ℕ → ℕ → Sight → Refusal → Type 0
HasNoSession sole begun trees number hives is why = (denied : Denied) × IsNotOpened sole begun trees number hives no_sight is denied × Gives denied why

-- what a thread did that has seen this at its end, by what it reported
abbrev pub Did : {T : Type 0} → (EngineView → Sight → Sight → T → Type 0) → Bool → EngineView → List TreeMap → ℕ → ℕ → Sight → Result T Refusal → Type 0
Did tells sole begun trees number hives is (Ok report) = HasWorked tells sole begun trees number hives is report
Did tells sole begun trees number hives is (Err why) = HasNoSession sole begun trees number hives is why

-- a thread's work is done: who asked in it is back, and it has reported
abbrev pub HasFinished : {T : Type 0} → (Bool → EngineView → List TreeMap → ℕ → ℕ → Sight → T → Type 0) → Bool → EngineView → List TreeMap → ℕ → ℕ → Option Sight → Option T → Type 0
HasFinished {T = T} reports sole begun trees number hives asker report =
    (is : Sight) × (reported : T) × (asker ≡ Some is) × (report ≡ Some reported) × reports sole begun trees number hives is reported

-- an account is of a thread that has seen this at its end
abbrev pub IsAccountOf : {T : Type 0} → (Bool → EngineView → List TreeMap → ℕ → ℕ → Sight → T → Type 0) → Bool → EngineView → List TreeMap → ℕ → ℕ → Account T → Sight → Type 0
IsAccountOf reports sole begun trees number hives account is = (account.seen.log ≡ is.history) × reports sole begun trees number hives is account.report

-- The accounts are of threads that asked for so many events together.
abbrev pub AskTogether : {T : Type 0} → (Bool → EngineView → List TreeMap → ℕ → ℕ → Sight → T → Type 0) → Bool → EngineView → List TreeMap → ℕ → ℕ → List (Account T) → ℕ → Type 0
AskTogether reports sole begun trees number hives [] asked = asked ≡ 0
AskTogether reports sole begun trees number hives (account ∷ accounts) asked =
    (is : Sight) × (others : ℕ) × IsAccountOf reports sole begun trees number hives account is × AskTogether reports sole begun trees number hives accounts others × (asked ≡ is.asked + others)
