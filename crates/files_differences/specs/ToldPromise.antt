-- What a comparison says of a figure and of two rows, case by case and without a test.
use Rattle.std.specs.Prelude.{◌≡◌, ℕ, ◌^◌, ◌<◌}
use Rattle.files_differences.specs.Distance.{distance_of, Finite}
use Rattle.files_differences.specs.Told.{row_kind_of, figure_of, figure_in}
use Rattle.files_differences.specs.declared.told.RowKind.{RowKind}
use Rattle.files_differences.specs.declared.told.RowKind.TheVariants as kind
use Rattle.files_differences.specs.declared.told.Figure.TheVariants as figure

-- "A figure not finite on either side has no distance, and is told as equal bits or unequal bits"; any other has one.
pub record FigureSo (v w : ℕ) : Type 0 where
  pub measured : Finite v → Finite w → figure_of v w ≡ figure.Distance (distance_of v w)
  pub equal : (Finite v × Finite w → ⊥) → v ≡ w → figure_of v w ≡ figure.EqualBits
  pub unequal : (Finite v × Finite w → ⊥) → (v ≡ w → ⊥) → figure_of v w ≡ figure.UnequalBits

abbrev pub FiguresSo : Type 0
FiguresSo = (v w : ℕ) → v < 2 ^ 64 → w < 2 ^ 64 → FigureSo v w

-- "A row is refused when its first word isn't 0": by the first words of two rows.
pub record RowSo (v w : ℕ) : Type 0 where
  pub answered : v ≡ 0 → w ≡ 0 → row_kind_of v w ≡ kind.Answered
  pub left_alone : (v ≡ 0 → ⊥) → w ≡ 0 → row_kind_of v w ≡ kind.LeftRefused
  pub right_alone : v ≡ 0 → (w ≡ 0 → ⊥) → row_kind_of v w ≡ kind.RightRefused
  pub alike : (v ≡ 0 → ⊥) → (w ≡ 0 → ⊥) → v ≡ w → row_kind_of v w ≡ kind.RefusedAlike
  pub unlike : (v ≡ 0 → ⊥) → (w ≡ 0 → ⊥) → (v ≡ w → ⊥) → row_kind_of v w ≡ kind.RefusedUnlike

abbrev pub RowsSo : Type 0
RowsSo = (v w : ℕ) → RowSo v w

-- In rows that a side refused, no figure is told, whatever its words.
abbrev pub RefusedUntold : Type 0
RefusedUntold = (r : RowKind) (v w : ℕ) → (r ≡ kind.Answered → ⊥) → figure_in r v w ≡ figure.Untold
