-- Any two answers, with what they leave in the lent run, that the promise of the public function allows are equal: the promise names them.
use mathlib.Core.Path.{sym, ◌∙◌}
use Rattle.bits.specs.OneAnswer.{OneAnswer}
use Rattle.files_check.proofs.judge.Kinds as judge-kinds
use Rattle.files_check.proofs.judge.Reads as judge-reads

pub judge_one : OneAnswer 2 judge-kinds.ps judge-kinds.r judge-reads.Post
judge_one κs a x y v w p q = (p.0 ∙ sym q.0, λ i. (tt, ((p.1 ∙ sym q.1) i, tt)))
