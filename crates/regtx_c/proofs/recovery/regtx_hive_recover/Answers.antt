-- The tree that the recovered file holds is the one that is put into the handle.
use Rattle.std.proofs.Common.{refl, inl, ap, option_map}
use Rattle.regtx_c.specs.Places.{TreePlace}
use Rattle.regtx_c.proofs.recovery.regtx_hive_recover.Goals as goal

pub returns-in-Ok : goal.returns-in-Ok
returns-in-Ok c =
    let (bytes, gives, holds) = c.in-Ok.ensures.holds in
    inl (refl, bytes, gives, (c.in-Ok.block.value.tree, ap (option_map (λ (place : TreePlace). place.tree)) c.put.ensures.some, holds))
