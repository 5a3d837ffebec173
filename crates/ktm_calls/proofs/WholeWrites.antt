-- Operations that are written in a transaction, one after another.
use Rattle.std.proofs.Common.{◌≡◌, ◌<◌, ℕ, Bool, List, [], ◌∷◌, ◌++◌, ◌⊎◌, inl, inr, refl, subst, sym, ap, ◌∙◌}
use mathlib.Core.List.{IsPrefix}
use Rattle.reg_tree.specs.Maps.{TreeMap}
use Rattle.reg_tree.specs.declared.op.Op.{Op}
use Rattle.store_model.specs.declared.event.Event.TheVariants as event
use Rattle.store_model.specs.declared.handle.Tx.{Tx}
use Rattle.engine_invariant.specs.Engines.{EngineView}
use Rattle.ktm_calls.specs.Moments.{Sight}
use Rattle.ktm_calls.specs.WholeTransactions.{AreWritten, IsWritten}

module _ (sole : Bool) (start : EngineView) (trees : List TreeMap) (number hives session : ℕ) (tx : Tx) (moment : ℕ) where
  pub written_more : (ops : List Op) (op : Op) (was mid is : Sight) → AreWritten sole start trees number hives session tx moment ops was mid
      → IsWritten sole start trees number hives mid is (event.TxWrite session tx moment op)
      → AreWritten sole start trees number hives session tx moment (ops ++ op ∷ []) was is
  written_more [] op was mid is same one = (is, subst (λ (s : Sight). IsWritten sole start trees number hives s is (event.TxWrite session tx moment op)) same one, refl)
  written_more (o ∷ ops) op was mid is (next, written, rest) one = (next, written, written_more ops op next mid is rest one)
