-- The public function leaves one answer open: its promise names its answer.
use mathlib.Core.Path.{refl, sym, ◌∙◌}
use Rattle.bits.specs.OneAnswer.{OneAnswer}
use Rattle.search_proposals.proofs.proposal.Kinds as proposal-kinds
use Rattle.search_proposals.proofs.proposal.Reads as proposal-reads

pub proposal_one : OneAnswer 0 proposal-kinds.ps proposal-kinds.r proposal-reads.Post
proposal_one κs a x y v w p q = (p ∙ sym q, refl)
