-- Why a transaction cannot be ended.
use Rattle.refusals.specs.declared.refusal.Refusal.{Refusal}
use Rattle.refusals.specs.declared.refusal.Refusal.TheVariants as refusal
use Rattle.store_model.specs.declared.handle.TxEndError.{TxEndError}
use Rattle.store_model.specs.declared.handle.TxEndError.TheVariants.{NoSuchTransaction, NotActive}

-- the refusal that this becomes
abbrev pub refusal_of : TxEndError → Refusal
refusal_of NoSuchTransaction = refusal.NoSuchHandle
refusal_of NotActive = refusal.NotActive
