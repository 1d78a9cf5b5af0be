-- Any two answers that the promise of a public function allows are equal: each promise names its answer.
use mathlib.Core.Path.{refl, sym, ◌∙◌}
use Rattle.bits.specs.OneAnswer.{OneAnswer}
use Rattle.states_start.proofs.given.orbit_of.Kinds as orbit-of-kinds
use Rattle.states_start.proofs.given.orbit_of.Reads as orbit-of-reads
use Rattle.states_start.proofs.initial.start_of.Kinds as start-of-kinds
use Rattle.states_start.proofs.initial.start_of.Reads as start-of-reads
use Rattle.states_start.proofs.initial.first_step.Kinds as first-step-kinds
use Rattle.states_start.proofs.initial.first_step.Reads as first-step-reads
use Rattle.states_start.proofs.figures.F64MulVector.mul.Kinds as mul-kinds
use Rattle.states_start.proofs.figures.F64MulVector.mul.Reads as mul-reads
use Rattle.states_start.proofs.figures.VectorAdd.add.Kinds as add-kinds
use Rattle.states_start.proofs.figures.VectorAdd.add.Reads as add-reads
use Rattle.states_start.proofs.figures.VectorDivF64.div.Kinds as div-kinds
use Rattle.states_start.proofs.figures.VectorDivF64.div.Reads as div-reads

pub orbit_of_lem : OneAnswer 0 orbit-of-kinds.ps orbit-of-kinds.r orbit-of-reads.Post
orbit_of_lem κs a x y v w p q = (p ∙ sym q, refl)

pub start_of : OneAnswer 0 start-of-kinds.ps start-of-kinds.r start-of-reads.Post
start_of κs a x y v w p q = (p ∙ sym q, refl)

pub first_step : OneAnswer 0 first-step-kinds.ps first-step-kinds.r first-step-reads.Post
first_step κs a x y v w p q = (p ∙ sym q, refl)

pub mul_one : OneAnswer 0 mul-kinds.ps mul-kinds.r mul-reads.Post
mul_one κs a x y v w p q = (p ∙ sym q, refl)

pub add_one : OneAnswer 0 add-kinds.ps add-kinds.r add-reads.Post
add_one κs a x y v w p q = (p ∙ sym q, refl)

pub div_one : OneAnswer 0 div-kinds.ps div-kinds.r div-reads.Post
div_one κs a x y v w p q = (p ∙ sym q, refl)
