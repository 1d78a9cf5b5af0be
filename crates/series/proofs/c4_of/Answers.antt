-- Over the document's divisors, the fold is the nested form written out.
use Rattle.series.specs.Series.{nested, c4_of}
use Rattle.series.proofs.c4_of.Goals as goal

pub returns : goal.returns
unfolding nested c4_of
returns c = simp c.nested.ensures
