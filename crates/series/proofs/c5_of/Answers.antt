-- Over the document's divisors, the fold is the nested form written out.
use Rattle.series.specs.Series.{nested, c5_of}
use Rattle.series.proofs.c5_of.Goals as goal

pub returns : goal.returns
unfolding nested c5_of
returns c = simp c.nested.ensures
