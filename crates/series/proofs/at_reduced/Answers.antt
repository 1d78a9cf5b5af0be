-- c4 and c5 are what their functions ensure; the rest is the definition written out.
use Rattle.series.specs.Series.{at_reduced}
use Rattle.series.proofs.at_reduced.Goals as goal

pub returns : goal.returns
unfolding at_reduced
returns c = simp (c.c4_of-c4.ensures, c.c5_of-c5.ensures)
