-- The code is the definition written out.
use mathlib.Core.Path.{refl}
use Rattle.series.specs.Series.{sums_of}
use Rattle.series.proofs.sums.Goals as goal

pub returns : goal.returns
unfolding sums_of
returns c = refl
