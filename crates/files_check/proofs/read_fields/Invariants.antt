-- The words read so far are the first from the column on.
use Rattle.std.specs.Prelude.{ℕ, ◌≡◌, ◌+◌, ◌*◌, List}
use Rattle.files_words.specs.Bytes.{word_at}
use Rattle.files_check.proofs.EachLaws.{with_each}
use Rattle.files_check.proofs.read_fields.Given as goal

abbrev pub from : (row : List ℕ) (column : ℕ) → ℕ → ℕ
from row column j = word_at row (8 * column + 8 * j)

abbrev pub invariant-loop-j : goal.invariant-loop-j
invariant-loop-j l = l.words ≡ with_each (from l.row l.column) l.initial.words l.j
