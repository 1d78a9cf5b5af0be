-- Each public function leaves one answer open.
use mathlib.Core.Path.{refl, sym, ◌∙◌}
use Rattle.bits.specs.OneAnswer.{OneAnswer}
use Rattle.files_differences.proofs.distance.distance_of.Kinds as distance-of-kinds
use Rattle.files_differences.proofs.distance.distance_of.Reads as distance-of-reads
use Rattle.files_differences.proofs.told.row_kind_of.Kinds as row-kind-of-kinds
use Rattle.files_differences.proofs.told.row_kind_of.Reads as row-kind-of-reads
use Rattle.files_differences.proofs.told.row_kind_word.Kinds as row-kind-word-kinds
use Rattle.files_differences.proofs.told.row_kind_word.Reads as row-kind-word-reads
use Rattle.files_differences.proofs.told.figure_in.Kinds as figure-in-kinds
use Rattle.files_differences.proofs.told.figure_in.Reads as figure-in-reads
use Rattle.files_differences.proofs.told.figure_words.Kinds as figure-words-kinds
use Rattle.files_differences.proofs.told.figure_words.Reads as figure-words-reads
use Rattle.files_differences.proofs.told.largest_with.Kinds as largest-with-kinds
use Rattle.files_differences.proofs.told.largest_with.Reads as largest-with-reads
use Rattle.files_differences.proofs.told.words_of.Kinds as words-of-kinds
use Rattle.files_differences.proofs.told.words_of.Reads as words-of-reads
use Rattle.files_differences.proofs.told.RefusedFromFault.from.Kinds as from-kinds
use Rattle.files_differences.proofs.told.RefusedFromFault.from.Reads as from-reads

pub distance_of_one : OneAnswer 0 distance-of-kinds.ps distance-of-kinds.r distance-of-reads.Post
distance_of_one κs a x y v w p q = (p ∙ sym q, refl)

pub row_kind_of_one : OneAnswer 0 row-kind-of-kinds.ps row-kind-of-kinds.r row-kind-of-reads.Post
row_kind_of_one κs a x y v w p q = (p ∙ sym q, refl)

pub row_kind_word_one : OneAnswer 0 row-kind-word-kinds.ps row-kind-word-kinds.r row-kind-word-reads.Post
row_kind_word_one κs a x y v w p q = (p ∙ sym q, refl)

pub figure_in_one : OneAnswer 0 figure-in-kinds.ps figure-in-kinds.r figure-in-reads.Post
figure_in_one κs a x y v w p q = (p ∙ sym q, refl)

pub figure_words_one : OneAnswer 0 figure-words-kinds.ps figure-words-kinds.r figure-words-reads.Post
figure_words_one κs a x y v w p q = (p ∙ sym q, refl)

pub largest_with_one : OneAnswer 0 largest-with-kinds.ps largest-with-kinds.r largest-with-reads.Post
largest_with_one κs a x y v w p q = (p ∙ sym q, refl)

pub words_of_one : OneAnswer 0 words-of-kinds.ps words-of-kinds.r words-of-reads.Post
words_of_one κs a x y v w p q = (p ∙ sym q, refl)

pub from_one : OneAnswer 0 from-kinds.ps from-kinds.r from-reads.Post
from_one κs a x y v w p q = (p ∙ sym q, refl)
