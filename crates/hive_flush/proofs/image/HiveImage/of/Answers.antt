use Rattle.std.proofs.Common.{List, ℕ, refl, sym, subst}
use Rattle.base_block.specs.declared.block.TheConstants.{MINOR_VERSION}
use Rattle.hive_load.specs.Limits.{BinsEncodeTreeInLimits}
use Rattle.hive_flush.proofs.image.HiveImage.of.Goals as goal

pub returns-clause-image : goal.returns-clause-image
returns-clause-image c = record {
  store_is = refl;
  number_is = refl;
  minor_is = refl;
  stands = subst (λ (l : List ℕ). BinsEncodeTreeInLimits l c.in_ok-emitted.emitted.root MINOR_VERSION c.args.tree.now) (sym c.into_bytes-bins.ensures) c.in_ok-emitted.ensures.stands;
}
