-- The accounts of threads, one after another.
use Rattle.std.proofs.Common.{◌≡◌, ◌∙◌, ◌+◌, ℕ, Bool, List, [], ◌∷◌, ◌++◌, Result, Ok, Err, Some, None, refl, arith, inl, inr, subst, sym}
use Rattle.std.specs.Prelude.{IfErr, IfOk}
use Rattle.refusals.specs.declared.refusal.Refusal.{Refusal}
use Rattle.store_model.specs.declared.event.Event.TheVariants as event
use Rattle.ktm_calls.specs.Denials.{IsDenied}
use Rattle.ktm_calls.specs.Kinds.{Told}
use Rattle.ktm_calls.specs.declared.registry.Denied.{Denied}
use Rattle.reg_tree.specs.Maps.{TreeMap}
use Rattle.engine_invariant.specs.Engines.{EngineView}
use Rattle.ktm_calls.specs.Moments.{Sight, Tells}
use Rattle.shared_store.specs.Accounts.{AskTogether, EndsOrNot, IsAccountOf}
use Rattle.shared_store.specs.declared.account.Account.{Account}

module _ {T : Type 0} (reports : Bool → EngineView → List TreeMap → ℕ → ℕ → Sight → T → Type 0) (sole : Bool) (begun : EngineView) (trees : List TreeMap) (number hives : ℕ) where
  -- one thread more asked for its events
  pub one_more : (accounts : List (Account T)) (asked : ℕ) (account : Account T) (is : Sight) → AskTogether reports sole begun trees number hives accounts asked → IsAccountOf reports sole begun trees number hives account is
      → AskTogether reports sole begun trees number hives (accounts ++ account ∷ []) (asked + is.asked)
  one_more [] asked account is none of = (is, 0, of, refl, omega (arith, none))
  one_more (first ∷ accounts) asked account is t of = (t.0, t.1 + is.asked, t.2, one_more accounts t.1 account is t.3 of, omega (arith, t.4))

-- a session whose end was asked for
pub ends_or_not : (sole : Bool) (begun : EngineView) (trees : List TreeMap) (number hives : ℕ) (was is : Sight) (session : ℕ) (r : Result Told Denied)
    → IfOk r (λ told. Tells sole begun trees number hives was is (event.EndSession session) told) → IfErr r (IsDenied sole begun trees number hives was is (event.EndSession session)) → EndsOrNot sole begun trees number hives was is session
ends_or_not sole begun trees number hives was is session (Ok told) h d = inl (told, h)
ends_or_not sole begun trees number hives was is session (Err why) h d = inr (why, d)
