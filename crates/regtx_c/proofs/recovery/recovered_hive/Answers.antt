-- The hive is that of the bytes that come of the recovery.
use Rattle.std.proofs.Common.{inr}
use Rattle.std.proofs.lemmas.Result.{IfOk-weaker, IfErr-weaker}
use Rattle.regtx_c.proofs.recovery.recovered_hive.Goals as goal

pub returns-in-Ok-clause-holds : goal.returns-in-Ok-clause-holds
returns-in-Ok-clause-holds c = IfOk-weaker c.loaded.result _ _ (λ block holds. (c.in-Ok.bytes.items, c.in-Ok.ensures.made, holds)) c.loaded.ensures.holds

pub returns-in-Ok-clause-refused : goal.returns-in-Ok-clause-refused
returns-in-Ok-clause-refused c = IfErr-weaker c.loaded.result _ _ (λ why refused. inr (c.in-Ok.bytes.items, c.in-Ok.ensures.made, refused)) c.loaded.ensures.refused
