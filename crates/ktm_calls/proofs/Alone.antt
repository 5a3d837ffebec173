-- What becomes of a write by itself, whether it was accepted or refused.
use Rattle.std.proofs.Common.{ℕ, Bool, List, Result, Ok, Err, None}
use Rattle.std.specs.Prelude.{IfErr, IfOk}
use Rattle.reg_tree.specs.Maps.{TreeMap}
use Rattle.reg_tree.specs.declared.op.Op.{Op}
use Rattle.store_model.specs.declared.event.Event.TheVariants as event
use Rattle.ktm_calls.specs.Answers.{WriteStands}
use Rattle.ktm_calls.specs.Calls.{IsDeniedAlone}
use Rattle.ktm_calls.specs.Denials.{IsDenied}
use Rattle.ktm_calls.specs.Kinds.{Told}
use Rattle.engine_invariant.specs.Engines.{EngineView}
use Rattle.ktm_calls.specs.Moments.{Sight, Tells}
use Rattle.ktm_calls.specs.declared.registry.Denied.{Denied}
use Rattle.ktm_calls.specs.declared.registry.Denied.TheVariants as denied
use Rattle.ktm_calls.proofs.Answering.{write_stands}

module _ (sole : Bool) (start : EngineView) (trees : List TreeMap) (number hives : ℕ) (was is : Sight) (session moment : ℕ) (op : Op) where
  pub alone_stands : (r : Result Told Denied) → IfOk r (λ t. Tells sole start trees number hives was is (event.Write session moment op) t) → IfOk r (λ t. WriteStands trees number hives is.list moment op t.reply)
  alone_stands (Ok t) h = write_stands trees number hives was.list is.list session moment op t.reply h.answered
  alone_stands (Err e) h = tt

  denied_alone : (why : Denied) → IsDenied sole start trees number hives was is (event.Write session moment op) why → IsDeniedAlone trees number hives is.list None moment op why
  denied_alone denied.NoMemory d = tt
  denied_alone (denied.Told t) d = write_stands trees number hives was.list is.list session moment op t.reply d.0.answered

  pub alone_denied : (r : Result Told Denied) → IfErr r (IsDenied sole start trees number hives was is (event.Write session moment op)) → IfErr r (IsDeniedAlone trees number hives is.list None moment op)
  alone_denied (Ok t) h = tt
  alone_denied (Err e) h = denied_alone e h
