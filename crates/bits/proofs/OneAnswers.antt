-- Each public function of layer 1 leaves one answer open.
use mathlib.Core.Path.{refl, sym, ◌∙◌}
use Rattle.bits.specs.OneAnswer.{OneAnswer}
use Rattle.bits.specs.Arithmetic.{n0}
use Rattle.bits.proofs.RefusalLaws.{one_result}
use Rattle.bits.proofs.Computed.{answered}
use Rattle.bits.proofs.refusal.U64FromRefusal.from.Kinds as from-kinds
use Rattle.bits.proofs.refusal.U64FromRefusal.from.Reads as from-reads
use Rattle.bits.proofs.words.kind_of.Kinds as kind-of-kinds
use Rattle.bits.proofs.words.kind_of.Reads as kind-of-reads
use Rattle.bits.proofs.words.is_finite_word.Kinds as is-finite-word-kinds
use Rattle.bits.proofs.words.is_finite_word.Reads as is-finite-word-reads
use Rattle.bits.proofs.words.double_of.Kinds as double-of-kinds
use Rattle.bits.proofs.words.double_of.Reads as double-of-reads
use Rattle.bits.proofs.words.is_finite.Kinds as is-finite-kinds
use Rattle.bits.proofs.words.is_finite.Reads as is-finite-reads
use Rattle.bits.proofs.words.word_of.Kinds as word-of-kinds
use Rattle.bits.proofs.words.word_of.Reads as word-of-reads
use Rattle.bits.proofs.words.place_of.Kinds as place-of-kinds
use Rattle.bits.proofs.words.place_of.Reads as place-of-reads
use Rattle.bits.proofs.words.magnitude_of.Kinds as magnitude-of-kinds
use Rattle.bits.proofs.words.magnitude_of.Reads as magnitude-of-reads
use Rattle.bits.proofs.words.is_nan_word.Kinds as is-nan-word-kinds
use Rattle.bits.proofs.words.is_nan_word.Reads as is-nan-word-reads
use Rattle.bits.proofs.words.line_of.Kinds as line-of-kinds
use Rattle.bits.proofs.words.line_of.Reads as line-of-reads
use Rattle.bits.proofs.words.word_on.Kinds as word-on-kinds
use Rattle.bits.proofs.words.word_on.Reads as word-on-reads
use Rattle.bits.proofs.runs.first_of.Kinds as first-of-kinds
use Rattle.bits.proofs.runs.first_of.Reads as first-of-reads
use Rattle.bits.proofs.runs.has.Kinds as has-kinds
use Rattle.bits.proofs.runs.has.Reads as has-reads
use Rattle.bits.proofs.runs.copy_words.Kinds as copy-words-kinds
use Rattle.bits.proofs.runs.copy_words.Reads as copy-words-reads
use Rattle.bits.proofs.runs.are_same.Kinds as are-same-kinds
use Rattle.bits.proofs.runs.are_same.Reads as are-same-reads
use Rattle.bits.proofs.root.root_of.Kinds as root-of-kinds
use Rattle.bits.proofs.root.root_of.Reads as root-of-reads
use Rattle.bits.proofs.root.root_of_figure.Kinds as root-of-figure-kinds
use Rattle.bits.proofs.root.root_of_figure.Reads as root-of-figure-reads

pub from_one : OneAnswer 0 from-kinds.ps from-kinds.r from-reads.Post
from_one κs a x y v w p q = (p ∙ sym q, refl)

pub kind_of_one : OneAnswer 0 kind-of-kinds.ps kind-of-kinds.r kind-of-reads.Post
kind_of_one κs a x y v w p q = (p ∙ sym q, refl)

pub is_finite_word_one : OneAnswer 0 is-finite-word-kinds.ps is-finite-word-kinds.r is-finite-word-reads.Post
is_finite_word_one κs a x y v w p q = (p ∙ sym q, refl)

pub double_of_one : OneAnswer 0 double-of-kinds.ps double-of-kinds.r double-of-reads.Post
double_of_one κs a x y v w p q = (p ∙ sym q, refl)

pub is_finite_one : OneAnswer 0 is-finite-kinds.ps is-finite-kinds.r is-finite-reads.Post
is_finite_one κs a x y v w p q = (p ∙ sym q, refl)

pub word_of_one : OneAnswer 0 word-of-kinds.ps word-of-kinds.r word-of-reads.Post
word_of_one κs a x y v w p q = (p ∙ sym q, refl)

pub place_of_one_lem : OneAnswer 0 place-of-kinds.ps place-of-kinds.r place-of-reads.Post
place_of_one_lem κs a x y v w p q = (p ∙ sym q, refl)

pub magnitude_of_one : OneAnswer 0 magnitude-of-kinds.ps magnitude-of-kinds.r magnitude-of-reads.Post
magnitude_of_one κs a x y v w p q = (p ∙ sym q, refl)

pub is_nan_word_one : OneAnswer 0 is-nan-word-kinds.ps is-nan-word-kinds.r is-nan-word-reads.Post
is_nan_word_one κs a x y v w p q = (p ∙ sym q, refl)

pub line_of_one : OneAnswer 0 line-of-kinds.ps line-of-kinds.r line-of-reads.Post
line_of_one κs a x y v w p q = (p ∙ sym q, refl)

pub word_on_one : OneAnswer 0 word-on-kinds.ps word-on-kinds.r word-on-reads.Post
word_on_one κs a x y v w p q = (p ∙ sym q, refl)

pub first_of_one : OneAnswer 1 first-of-kinds.ps first-of-kinds.r first-of-reads.Post
first_of_one κs a x y v w p q = (p ∙ sym q, refl)

pub has_one : OneAnswer 1 has-kinds.ps has-kinds.r has-reads.Post
has_one κs a x y v w p q = (p ∙ sym q, refl)

pub copy_words_one : OneAnswer 2 copy-words-kinds.ps copy-words-kinds.r copy-words-reads.Post
copy_words_one κs a x y v w p q = (refl, λ i. (tt, ((p ∙ sym q) i, tt)))

pub are_same_one : OneAnswer 2 are-same-kinds.ps are-same-kinds.r are-same-reads.Post
are_same_one κs a x y v w p q = (p ∙ sym q, refl)

pub root_of-one : OneAnswer 0 root-of-kinds.ps root-of-kinds.r root-of-reads.Post
root_of-one κs a x y v w p q =
    let f = answered _ _ _ p in
    let g = answered _ _ _ q in
    (one_result x y 0 (f.0 ∙ sym g.0) (f.1 ∙ sym g.1), refl)

pub root_of_figure_one : OneAnswer 0 root-of-figure-kinds.ps root-of-figure-kinds.r root-of-figure-reads.Post
root_of_figure_one κs a x y v w p q = (one_result x y n0 (p.0 ∙ sym q.0) (p.1 ∙ sym q.1), refl)
