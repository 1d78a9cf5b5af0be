-- Any two answers, with what they leave in lent runs, that the promise of a public function allows are equal: each promise names them.
use mathlib.Core.Path.{refl, sym, ◌∙◌}
use Rattle.bits.specs.OneAnswer.{OneAnswer}
use Rattle.files_results.proofs.requests.tau_of.Kinds as tau-of-kinds
use Rattle.files_results.proofs.requests.tau_of.Reads as tau-of-reads
use Rattle.files_results.proofs.write_results.Kinds as write-results-kinds
use Rattle.files_results.proofs.write_results.Reads as write-results-reads

pub tau_of_one : OneAnswer 0 tau-of-kinds.ps tau-of-kinds.r tau-of-reads.Post
tau_of_one κs a x y v w p q = (p ∙ sym q, refl)

pub write_results_lem : OneAnswer 2 write-results-kinds.ps write-results-kinds.r write-results-reads.Post
write_results_lem κs a x y v w p q = (p.0 ∙ sym q.0, λ i. (tt, ((p.1 ∙ sym q.1) i, tt)))
