-- Any two answers, with what they leave in lent runs, that the promise of a public function allows are equal: each promise names them.
use mathlib.Core.Path.{refl, sym, ◌∙◌}
use Rattle.bits.specs.OneAnswer.{OneAnswer}
use Rattle.states.proofs.call.refused_with.Kinds as refused-with-kinds
use Rattle.states.proofs.call.refused_with.Reads as refused-with-reads
use Rattle.states.proofs.call.answered_with.Kinds as answered-with-kinds
use Rattle.states.proofs.call.answered_with.Reads as answered-with-reads
use Rattle.states.proofs.call.reach.Kinds as reach-kinds
use Rattle.states.proofs.call.reach.Reads as reach-reads
use Rattle.states.proofs.call.propagate.Kinds as propagate-kinds
use Rattle.states.proofs.call.propagate.Reads as propagate-reads
use Rattle.states.proofs.answer.words_of.Kinds as words-of-kinds
use Rattle.states.proofs.answer.words_of.Reads as words-of-reads
use Rattle.states.proofs.partials.propagate_with_partials.Kinds as partials-kinds
use Rattle.states.proofs.partials.propagate_with_partials.Reads as partials-reads

pub refused_with_lem : OneAnswer 0 refused-with-kinds.ps refused-with-kinds.r refused-with-reads.Post
refused_with_lem κs a x y v w p q = (p ∙ sym q, refl)

pub answered_with_lem : OneAnswer 0 answered-with-kinds.ps answered-with-kinds.r answered-with-reads.Post
answered_with_lem κs a x y v w p q = (p ∙ sym q, refl)

pub reach : OneAnswer 0 reach-kinds.ps reach-kinds.r reach-reads.Post
reach κs a x y v w p q = (p ∙ sym q, refl)

pub propagate : OneAnswer 0 propagate-kinds.ps propagate-kinds.r propagate-reads.Post
propagate κs a x y v w p q = (p ∙ sym q, refl)

pub words_of : OneAnswer 0 words-of-kinds.ps words-of-kinds.r words-of-reads.Post
words_of κs a x y v w p q = (p ∙ sym q, refl)

pub with_partials_lem : OneAnswer 1 partials-kinds.ps partials-kinds.r partials-reads.Post
with_partials_lem κs a x y v w p q = (p.0 ∙ sym q.0, λ i. (tt, ((p.1 ∙ sym q.1) i, tt)))
