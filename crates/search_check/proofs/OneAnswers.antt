-- Any two answers that the promise of the public function allows are equal: the promise names them.
use mathlib.Core.Path.{refl, sym, ◌∙◌}
use Rattle.bits.specs.OneAnswer.{OneAnswer}
use Rattle.search_check.proofs.is_right.Kinds as is-right-kinds
use Rattle.search_check.proofs.is_right.Reads as is-right-reads

pub is_right : OneAnswer 0 is-right-kinds.ps is-right-kinds.r is-right-reads.Post
is_right κs a x y v w p q = (p ∙ sym q, refl)
