-- Any two answers that the promise of a public function allows are equal: each promise names its answer.
use Rattle.std.proofs.Common.{sym, refl, ◌∙◌}
use Rattle.bits.specs.OneAnswer.{OneAnswer}
use Rattle.states_revolutions.proofs.floor.floor_of.Kinds as floor-of-kinds
use Rattle.states_revolutions.proofs.floor.floor_of.Reads as floor-of-reads
use Rattle.states_revolutions.proofs.revolutions.course_of.Kinds as course-of-kinds
use Rattle.states_revolutions.proofs.revolutions.course_of.Reads as course-of-reads
use Rattle.states_revolutions.proofs.revolutions.interval_of.Kinds as interval-of-kinds
use Rattle.states_revolutions.proofs.revolutions.interval_of.Reads as interval-of-reads

pub floor_of_lem : OneAnswer 0 floor-of-kinds.ps floor-of-kinds.r floor-of-reads.Post
floor_of_lem κs a x y v w p q = (p ∙ sym q, refl)

pub course_of_lem : OneAnswer 0 course-of-kinds.ps course-of-kinds.r course-of-reads.Post
course_of_lem κs a x y v w p q = (p ∙ sym q, refl)

pub interval_of_lem : OneAnswer 0 interval-of-kinds.ps interval-of-kinds.r interval-of-reads.Post
interval_of_lem κs a x y v w p q = (p ∙ sym q, refl)
