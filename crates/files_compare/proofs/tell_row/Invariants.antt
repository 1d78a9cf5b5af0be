-- The words told so far are the rows' kind and the first figures, and the largest distance is that with theirs.
use Rattle.std.specs.Prelude.{ℕ, ◌≡◌, ◌∷◌, List}
use Rattle.files_words.specs.Bytes.{put}
use Rattle.files_differences.specs.Told.{row_kind_word}
use Rattle.files_compare.specs.Compare.{kind_on, figures_told, largest_in_row}
use Rattle.files_compare.proofs.tell_row.Given as goal

-- The words after n figures.
abbrev pub told_to : (l r told : List ℕ) (n : ℕ) → List ℕ
told_to l r told n = put told 0 (row_kind_word (kind_on l r) ∷ figures_told l r n)

abbrev pub invariant-loop-j : goal.invariant-loop-j
invariant-loop-j l = record {
  told : l.told ≡ told_to l.l l.r l.fn.told l.j;
  largest : l.largest ≡ largest_in_row l.l l.r l.fn.known l.k l.j;
}
