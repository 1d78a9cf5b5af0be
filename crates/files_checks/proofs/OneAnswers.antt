-- Each public function leaves one answer open.
use mathlib.Core.Path.{refl, sym, ◌∙◌}
use Rattle.bits.specs.OneAnswer.{OneAnswer}
use Rattle.files_checks.proofs.need.Kinds as need-kinds
use Rattle.files_checks.proofs.need.Reads as need-reads
use Rattle.files_checks.proofs.check_edition.Kinds as check-edition-kinds
use Rattle.files_checks.proofs.check_edition.Reads as check-edition-reads
use Rattle.files_checks.proofs.check_count.Kinds as check-count-kinds
use Rattle.files_checks.proofs.check_count.Reads as check-count-reads
use Rattle.files_checks.proofs.words_there.Kinds as words-there-kinds
use Rattle.files_checks.proofs.words_there.Reads as words-there-reads
use Rattle.files_checks.proofs.check_filled.Kinds as check-filled-kinds
use Rattle.files_checks.proofs.check_filled.Reads as check-filled-reads

pub need_one : OneAnswer 0 need-kinds.ps need-kinds.r need-reads.Post
need_one κs a x y v w p q = (p ∙ sym q, refl)

pub check_edition_one : OneAnswer 1 check-edition-kinds.ps check-edition-kinds.r check-edition-reads.Post
check_edition_one κs a x y v w p q = (p ∙ sym q, refl)

pub check_count_one : OneAnswer 1 check-count-kinds.ps check-count-kinds.r check-count-reads.Post
check_count_one κs a x y v w p q = (p ∙ sym q, refl)

pub words_there_one : OneAnswer 1 words-there-kinds.ps words-there-kinds.r words-there-reads.Post
words_there_one κs a x y v w p q = (p ∙ sym q, refl)

pub check_filled_one : OneAnswer 1 check-filled-kinds.ps check-filled-kinds.r check-filled-reads.Post
check_filled_one κs a x y v w p q = (p ∙ sym q, refl)
