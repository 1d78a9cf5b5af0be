-- Each public function leaves one answer open, and one content of the room that it was lent.
use mathlib.Core.Path.{refl, sym, ◌∙◌}
use Rattle.bits.specs.OneAnswer.{OneAnswer}
use Rattle.files_words.proofs.is_whole.Kinds as is-whole-kinds
use Rattle.files_words.proofs.is_whole.Reads as is-whole-reads
use Rattle.files_words.proofs.word_at.Kinds as word-at-kinds
use Rattle.files_words.proofs.word_at.Reads as word-at-reads
use Rattle.files_words.proofs.put_word.Kinds as put-word-kinds
use Rattle.files_words.proofs.put_word.Reads as put-word-reads
use Rattle.files_words.proofs.put_words.Kinds as put-words-kinds
use Rattle.files_words.proofs.put_words.Reads as put-words-reads

pub is_whole_one : OneAnswer 1 is-whole-kinds.ps is-whole-kinds.r is-whole-reads.Post
is_whole_one κs a x y v w p q = (p ∙ sym q, refl)

pub word_at_one : OneAnswer 1 word-at-kinds.ps word-at-kinds.r word-at-reads.Post
word_at_one κs a x y v w p q = (p ∙ sym q, refl)

pub put_word_one : OneAnswer 1 put-word-kinds.ps put-word-kinds.r put-word-reads.Post
put_word_one κs a x y v w p q = (refl, λ i. ((p ∙ sym q) i, (tt, (tt, tt))))

pub put_words_one : OneAnswer 2 put-words-kinds.ps put-words-kinds.r put-words-reads.Post
put_words_one κs a x y v w p q = (refl, λ i. ((p ∙ sym q) i, (tt, (tt, tt))))
