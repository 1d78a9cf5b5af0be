-- The public function leaves one answer open, and one content of the room that it was lent.
use mathlib.Core.Path.{sym, ◌∙◌}
use Rattle.bits.specs.OneAnswer.{OneAnswer}
use Rattle.files.proofs.write_file.Kinds as write-kinds
use Rattle.files.proofs.write_file.Reads as write-reads

pub write_file_one : OneAnswer 4 write-kinds.ps write-kinds.r write-reads.Post
write_file_one κs a x y v w p q = (p.0 ∙ sym q.0, λ i. (tt, (tt, (tt, (tt, ((p.1 ∙ sym q.1) i, tt))))))
