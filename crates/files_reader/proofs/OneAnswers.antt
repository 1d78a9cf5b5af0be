-- Each public function leaves one answer open.
use mathlib.Core.Path.{refl, sym, ◌∙◌}
use Rattle.bits.specs.OneAnswer.{OneAnswer}
use Rattle.files_reader.proofs.read_file.Kinds as read-kinds
use Rattle.files_reader.proofs.read_file.Reads as read-reads

pub read_file_one : OneAnswer 1 read-kinds.ps read-kinds.r read-reads.Post
read_file_one κs a x y v w p q = (p ∙ sym q, refl)
