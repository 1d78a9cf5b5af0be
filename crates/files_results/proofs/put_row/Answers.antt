-- The first eleven of the answer's words, put where the row stands.
use Rattle.files_results.specs.Results.{row_of}
use Rattle.files_results.proofs.put_row.Goals as goal

pub returns : goal.returns
unfolding row_of
returns c =
    rw (c.put_words.ensures, c.row_place.ensures)
    (rw (c.words_of-words.ensures, c.propagate-answer.ensures, c.request_words.ensures))
