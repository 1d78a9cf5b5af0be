-- What each part answers is what its function ensures.
use Rattle.series.specs.Series.{coefficients_of}
use Rattle.series.proofs.coefficients.Goals as goal

pub returns : goal.returns
unfolding coefficients_of
returns c = simp (c.reduce-reduced.ensures, c.first_l-l.ensures) at c.restored.ensures
