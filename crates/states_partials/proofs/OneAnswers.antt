-- Any two answers, with what they leave in lent runs, that the promise of a public function allows are equal: each promise names them.
use mathlib.Core.Path.{refl, sym, ◌∙◌}
use Rattle.bits.specs.OneAnswer.{OneAnswer}
use Rattle.states_partials.proofs.u.u_of.Kinds as u-of-kinds
use Rattle.states_partials.proofs.u.u_of.Reads as u-of-reads
use Rattle.states_partials.proofs.u.u_refused.Kinds as u-refused-kinds
use Rattle.states_partials.proofs.u.u_refused.Reads as u-refused-reads
use Rattle.states_partials.proofs.matrix.matrix_of.Kinds as matrix-of-kinds
use Rattle.states_partials.proofs.matrix.matrix_of.Reads as matrix-of-reads
use Rattle.states_partials.proofs.matrix.matrix_divisors.Kinds as matrix-divisors-kinds
use Rattle.states_partials.proofs.matrix.matrix_divisors.Reads as matrix-divisors-reads
use Rattle.states_partials.proofs.write_partials.Kinds as write-partials-kinds
use Rattle.states_partials.proofs.write_partials.Reads as write-partials-reads

pub u_of_lem : OneAnswer 0 u-of-kinds.ps u-of-kinds.r u-of-reads.Post
u_of_lem κs a x y v w p q = (p ∙ sym q, refl)

pub u_refused_lem : OneAnswer 0 u-refused-kinds.ps u-refused-kinds.r u-refused-reads.Post
u_refused_lem κs a x y v w p q = (p ∙ sym q, refl)

pub matrix_of_lem : OneAnswer 0 matrix-of-kinds.ps matrix-of-kinds.r matrix-of-reads.Post
matrix_of_lem κs a x y v w p q = (p ∙ sym q, refl)

pub matrix_divisors_lem : OneAnswer 0 matrix-divisors-kinds.ps matrix-divisors-kinds.r matrix-divisors-reads.Post
matrix_divisors_lem κs a x y v w p q = (p ∙ sym q, refl)

pub write_partials_lem : OneAnswer 1 write-partials-kinds.ps write-partials-kinds.r write-partials-reads.Post
write_partials_lem κs a x y v w p q = (p.0 ∙ sym q.0, λ i. (tt, ((p.1 ∙ sym q.1) i, tt)))
