-- The public function leaves one answer open: its promise names its answer.
use mathlib.Core.Path.{refl, sym, ◌∙◌}
use Rattle.bits.specs.OneAnswer.{OneAnswer}
use Rattle.search.proofs.search.Kinds as search-kinds
use Rattle.search.proofs.search.Reads as search-reads

pub search_one : OneAnswer 0 search-kinds.ps search-kinds.r search-reads.Post
search_one κs a x y v w p q = (p ∙ sym q, refl)
