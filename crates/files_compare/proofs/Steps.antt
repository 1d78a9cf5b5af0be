-- What is told, word after word: a figure more of a row, a row more of a run, and the largest distance with them.
use Prim.Native.Nat.{ℕ, zero, suc, ◌*◌, ◌≤◌}
use mathlib.Core.Path.{◌≡◌, refl, ap, ◌∙◌}
use mathlib.Core.List.{List}
use native.Mathlib.Omega.{arith}
use lib.ListN.{length, length-append}
use Rattle.files_words.specs.Bytes.{put}
use Rattle.files_words.proofs.PutLaws.{put_next}
use Rattle.files_formats.specs.Rows.{result_figures, told_width}
use Rattle.files_differences.specs.declared.told.Figure.{Figure}
use Rattle.files_differences.specs.declared.told.Figure.TheVariants as figure
use Rattle.files_differences.specs.Told.{figure_words}
use Rattle.files_compare.specs.Compare.{figure_on, figures_told, row_told, row_at, rows_told}

pub figure_length : (f : Figure) → length (figure_words f) ≡ 2
figure_length (figure.Distance d) = refl
figure_length figure.EqualBits = refl
figure_length figure.UnequalBits = refl
figure_length figure.Untold = refl

module _ (l r : List ℕ) where
  pub figures_length : (n : ℕ) → length (figures_told l r n) ≡ 2 * n
  unfolding figures_told
  figures_length zero = refl
  figures_length (suc n) =
      length-append (figures_told l r n) (figure_words (figure_on l r n))
      ∙ omega (arith, figures_length n, figure_length (figure_on l r n))

  pub row_length : length (row_told l r) ≡ told_width
  row_length = ap suc (figures_length result_figures)

module _ (left right : List ℕ) where
  abbrev row_of : (n : ℕ) → List ℕ
  row_of n = row_told (row_at left n) (row_at right n)

  pub rows_length : (n : ℕ) → length (rows_told left right n) ≡ n * told_width
  unfolding rows_told
  rows_length zero = refl
  rows_length (suc n) = length-append (rows_told left right n) (row_of n) ∙ omega (arith, rows_length n, row_length (row_at left n) (row_at right n))

  pub next_row : (run : List ℕ) (n : ℕ) → suc n * told_width ≤ length run →
      put (put run 0 (rows_told left right n)) (n * told_width) (row_of n) ≡ put run 0 (rows_told left right (suc n))
  unfolding rows_told
  next_row run n h =
      let e = rows_length n in
      put_next run (rows_told left right n) (row_of n) 0 (n * told_width) (omega (arith, e)) (omega (arith, e, row_length (row_at left n) (row_at right n)))
