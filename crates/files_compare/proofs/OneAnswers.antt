-- Any two answers, with what they leave in the lent run, that the promise of the public function allows are equal: the promise names them.
use mathlib.Core.Path.{sym, ◌∙◌}
use Rattle.bits.specs.OneAnswer.{OneAnswer}
use Rattle.files_compare.proofs.compare.Kinds as compare-kinds
use Rattle.files_compare.proofs.compare.Reads as compare-reads

pub compare_one : OneAnswer 3 compare-kinds.ps compare-kinds.r compare-reads.Post
compare_one κs a x y v w p q = (p.0 ∙ sym q.0, λ i. (tt, (tt, ((p.1 ∙ sym q.1) i, tt))))
