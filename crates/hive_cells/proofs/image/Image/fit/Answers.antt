use Rattle.std.proofs.Common.{arith}
use Rattle.hive_cells.proofs.Outcomes.{was_fitted, fits_already}
use Rattle.hive_cells.proofs.image.Image.fit.Goals as goal

pub returns-then-size_at-size-clause-fit : goal.returns-then-size_at-size-clause-fit
returns-then-size_at-size-clause-fit c = was_fitted _ _ _ _ (omega (arith, c.if-size_at-size.true, c.size_at.ensures.size)) c.split.ensures.split

pub returns-else-size_at-size-clause-fit : goal.returns-else-size_at-size-clause-fit
returns-else-size_at-size-clause-fit c = fits_already _ _ _ c.requires.free c.requires.fits (omega (arith, c.if-size_at-size.false, c.size_at.ensures.size))
