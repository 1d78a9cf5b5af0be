-- Each public function leaves one answer open.
use mathlib.Core.Path.{refl, sym, ◌∙◌}
use Rattle.bits.specs.OneAnswer.{OneAnswer}
use Rattle.files_formats.proofs.elements.U64FromEdition.from.Kinds as from-kinds
use Rattle.files_formats.proofs.elements.U64FromEdition.from.Reads as from-reads
use Rattle.files_formats.proofs.elements.EditionTryFromU64.try_from.Kinds as try-from-kinds
use Rattle.files_formats.proofs.elements.EditionTryFromU64.try_from.Reads as try-from-reads
use Rattle.files_formats.proofs.elements.limit.Kinds as limit-kinds
use Rattle.files_formats.proofs.elements.limit.Reads as limit-reads
use Rattle.files_formats.proofs.elements.width.Kinds as width-kinds
use Rattle.files_formats.proofs.elements.width.Reads as width-reads
use Rattle.files_formats.proofs.elements.column_at.Kinds as column-at-kinds
use Rattle.files_formats.proofs.elements.column_at.Reads as column-at-reads
use Rattle.files_formats.proofs.shapes.Shape.count.Kinds as count-kinds
use Rattle.files_formats.proofs.shapes.Shape.count.Reads as count-reads
use Rattle.files_formats.proofs.shapes.Shape.below.Kinds as below-kinds
use Rattle.files_formats.proofs.shapes.Shape.below.Reads as below-reads
use Rattle.files_formats.proofs.shapes.Shape.place.Kinds as place-kinds
use Rattle.files_formats.proofs.shapes.Shape.place.Reads as place-reads
use Rattle.files_formats.proofs.shapes.Shape.record.Kinds as record-kinds
use Rattle.files_formats.proofs.shapes.Shape.record.Reads as record-reads
use Rattle.files_formats.proofs.shapes.Shape.end.Kinds as end-kinds
use Rattle.files_formats.proofs.shapes.Shape.end.Reads as end_reads
use Rattle.files_formats.proofs.shapes.Shape.with.Kinds as with-kinds
use Rattle.files_formats.proofs.shapes.Shape.with.Reads as with-reads
use Rattle.files_formats.proofs.files.check_section.Kinds as check-section-kinds
use Rattle.files_formats.proofs.files.check_section.Reads as check-section-reads
use Rattle.files_formats.proofs.runs.check_run.Kinds as check-run-kinds
use Rattle.files_formats.proofs.runs.check_run.Reads as check-run-reads

pub from_one : OneAnswer 0 from-kinds.ps from-kinds.r from-reads.Post
from_one κs a x y v w p q = (p ∙ sym q, refl)

pub try_from_one : OneAnswer 0 try-from-kinds.ps try-from-kinds.r try-from-reads.Post
try_from_one κs a x y v w p q = (p ∙ sym q, refl)

pub limit_one : OneAnswer 0 limit-kinds.ps limit-kinds.r limit-reads.Post
limit_one κs a x y v w p q = (p ∙ sym q, refl)

pub width_one : OneAnswer 0 width-kinds.ps width-kinds.r width-reads.Post
width_one κs a x y v w p q = (p.0 ∙ sym q.0, refl)

pub column_at_one : OneAnswer 0 column-at-kinds.ps column-at-kinds.r column-at-reads.Post
column_at_one κs a x y v w p q = (p.0 ∙ sym q.0, refl)

pub count_one : OneAnswer 0 count-kinds.ps count-kinds.r count-reads.Post
count_one κs a x y v w p q = (p ∙ sym q, refl)

pub below_one : OneAnswer 0 below-kinds.ps below-kinds.r below-reads.Post
below_one κs a x y v w p q = (p ∙ sym q, refl)

pub place_one : OneAnswer 0 place-kinds.ps place-kinds.r place-reads.Post
place_one κs a x y v w p q = (p.0 ∙ sym q.0, refl)

pub record_one : OneAnswer 0 record-kinds.ps record-kinds.r record-reads.Post
record_one κs a x y v w p q = (p.0 ∙ sym q.0, refl)

pub end_one : OneAnswer 0 end-kinds.ps end-kinds.r end_reads.Post
end_one κs a x y v w p q = (p.0 ∙ sym q.0, refl)

pub with_one : OneAnswer 0 with-kinds.ps with-kinds.r with-reads.Post
with_one κs a x y v w p q = (p ∙ sym q, refl)

pub check_section_one : OneAnswer 1 check-section-kinds.ps check-section-kinds.r check-section-reads.Post
check_section_one κs a x y v w p q = (p ∙ sym q, refl)

pub check_run_one : OneAnswer 1 check-run-kinds.ps check-run-kinds.r check-run-reads.Post
check_run_one κs a x y v w p q = (p ∙ sym q, refl)
