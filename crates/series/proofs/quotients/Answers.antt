-- The code is the definition written out.
use mathlib.Core.Path.{refl}
use Rattle.series.specs.Series.{quotients_of}
use Rattle.series.proofs.quotients.Goals as goal

pub returns : goal.returns
unfolding quotients_of
returns c = refl
