-- Any two answers that the promise of a public function allows are equal: each promise names its answer.
use mathlib.Core.Path.{refl, sym, ◌∙◌}
use Rattle.bits.specs.OneAnswer.{OneAnswer}
use Rattle.series.proofs.coefficients.Kinds as coefficients-kinds
use Rattle.series.proofs.coefficients.Reads as coefficients-reads
use Rattle.series.proofs.first_sums.Kinds as first-sums-kinds
use Rattle.series.proofs.first_sums.Reads as first-sums-reads
use Rattle.series.proofs.sums.Kinds as sums-kinds
use Rattle.series.proofs.sums.Reads as sums-reads
use Rattle.series.proofs.figures.Anomaly.place.Kinds as place-kinds
use Rattle.series.proofs.figures.Anomaly.place.Reads as place-reads

pub coefficients : OneAnswer 0 coefficients-kinds.ps coefficients-kinds.r coefficients-reads.Post
coefficients κs a x y v w p q = (p ∙ sym q, refl)

pub first_sums_lem : OneAnswer 0 first-sums-kinds.ps first-sums-kinds.r first-sums-reads.Post
first_sums_lem κs a x y v w p q = (p ∙ sym q, refl)

pub sums : OneAnswer 0 sums-kinds.ps sums-kinds.r sums-reads.Post
sums κs a x y v w p q = (p ∙ sym q, refl)

pub place : OneAnswer 0 place-kinds.ps place-kinds.r place-reads.Post
place κs a x y v w p q = (p ∙ sym q, refl)
