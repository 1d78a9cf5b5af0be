-- Any two answers that the promise of the public function allows are equal: the promise names them.
use mathlib.Core.Path.{refl, sym, ◌∙◌}
use Rattle.bits.specs.OneAnswer.{OneAnswer}
use Rattle.states_check.proofs.accepts.Kinds as accepts-kinds
use Rattle.states_check.proofs.accepts.Reads as accepts-reads

pub accepts_one : OneAnswer 0 accepts-kinds.ps accepts-kinds.r accepts-reads.Post
accepts_one κs a x y v w p q = (p ∙ sym q, refl)
