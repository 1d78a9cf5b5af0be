-- Each public function leaves one content open of the run that it was lent.
use mathlib.Core.Path.{refl, sym, ◌∙◌}
use Rattle.bits.specs.OneAnswer.{OneAnswer}
use Rattle.files_records.proofs.put_record.Kinds as put-record-kinds
use Rattle.files_records.proofs.put_record.Reads as put-record-reads
use Rattle.files_records.proofs.move_down.Kinds as move-down-kinds
use Rattle.files_records.proofs.move_down.Reads as move-down-reads

pub put_record_one : OneAnswer 2 put-record-kinds.ps put-record-kinds.r put-record-reads.Post
put_record_one κs a x y v w p q = (refl, λ i. ((p ∙ sym q) i, (tt, (tt, (tt, tt)))))

pub move_down_one : OneAnswer 1 move-down-kinds.ps move-down-kinds.r move-down-reads.Post
move_down_one κs a x y v w p q = (refl, λ i. ((p ∙ sym q) i, (tt, (tt, (tt, tt)))))
