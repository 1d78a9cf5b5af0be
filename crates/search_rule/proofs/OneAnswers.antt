-- Each public function leaves one answer open: each promise names its answer.
use mathlib.Core.Path.{refl, sym, ◌∙◌}
use Rattle.bits.specs.OneAnswer.{OneAnswer}
use Rattle.search_rule.proofs.pair.Pair.is_wide.Kinds as is-wide-kinds
use Rattle.search_rule.proofs.pair.Pair.is_wide.Reads as is-wide-reads
use Rattle.search_rule.proofs.pair.moved_by.Kinds as moved-by-kinds
use Rattle.search_rule.proofs.pair.moved_by.Reads as moved-by-reads
use Rattle.search_rule.proofs.pair.nearer_end.Kinds as nearer-end-kinds
use Rattle.search_rule.proofs.pair.nearer_end.Reads as nearer-end-reads
use Rattle.search_rule.proofs.pair.step_by.Kinds as step-by-kinds
use Rattle.search_rule.proofs.pair.step_by.Reads as step-by-reads

pub is_wide_one : OneAnswer 0 is-wide-kinds.ps is-wide-kinds.r is-wide-reads.Post
is_wide_one κs a x y v w p q = (p ∙ sym q, refl)

pub moved_by_one : OneAnswer 0 moved-by-kinds.ps moved-by-kinds.r moved-by-reads.Post
moved_by_one κs a x y v w p q = (p ∙ sym q, refl)

pub nearer_end_one : OneAnswer 0 nearer-end-kinds.ps nearer-end-kinds.r nearer-end-reads.Post
nearer_end_one κs a x y v w p q = (p ∙ sym q, refl)

pub step_by_one : OneAnswer 0 step-by-kinds.ps step-by-kinds.r step-by-reads.Post
step_by_one κs a x y v w p q = (p ∙ sym q, refl)
