-- Any two answers that the promise of a public function allows are equal: each promise names its answer.
use mathlib.Core.Path.{refl, sym, ◌∙◌}
use Rattle.bits.specs.OneAnswer.{OneAnswer}
use Rattle.states_arcs.proofs.results.arc_at.Kinds as arc-at-kinds
use Rattle.states_arcs.proofs.results.arc_at.Reads as arc-at-reads
use Rattle.states_arcs.proofs.results.figures_of.Kinds as figures-of-kinds
use Rattle.states_arcs.proofs.results.figures_of.Reads as figures-of-reads
use Rattle.states_arcs.proofs.results.ended.Kinds as ended-kinds
use Rattle.states_arcs.proofs.results.ended.Reads as ended-reads

pub arc_at_lem : OneAnswer 0 arc-at-kinds.ps arc-at-kinds.r arc-at-reads.Post
arc_at_lem κs a x y v w p q = (p ∙ sym q, refl)

pub figures_of_lem : OneAnswer 0 figures-of-kinds.ps figures-of-kinds.r figures-of-reads.Post
figures_of_lem κs a x y v w p q = (p ∙ sym q, refl)

pub ended : OneAnswer 0 ended-kinds.ps ended-kinds.r ended-reads.Post
ended κs a x y v w p q = (p ∙ sym q, refl)
