-- A file beside itself, and two files either way round.
use Prim.Native.Nat.{ℕ, zero, suc, ◌+◌}
use mathlib.Core.Path.{◌≡◌, refl, sym, ap, ◌∙◌}
use mathlib.Core.Bool.{Bool, true, false}
use mathlib.Core.Logic.{◌⊎◌, inl, inr}
use mathlib.Core.List.{List}
use native.Mathlib.Omega.{arith}
use borrow.Author.Tests.{eq-eqb, ne_eqb, eqb-true, eqb-false}
use lib.Dec.{eqb}
use lib.Ieee.{binary64, of_bits}
use Rattle.std.specs.Prelude.{Option}
use Rattle.std.proofs.Math.Bool.{and_comm}
use Rattle.bits.specs.Choice.{pick}
use Rattle.bits.specs.Arithmetic.{is_finite}
use Rattle.files_formats.specs.Rows.{result_refusal, result_figure, result_figures}
use Rattle.files_differences.specs.declared.told.RowKind.{RowKind}
use Rattle.files_differences.specs.declared.told.RowKind.TheVariants as kind
use Rattle.files_differences.specs.declared.told.Figure.TheVariants as figure
use Rattle.files_differences.specs.declared.told.Largest.{Largest}
use Rattle.files_differences.specs.Distance.{distance_of}
use Rattle.files_differences.specs.Told.{row_kind_of, both_finite, figure_of, figure_in, largest_with}
use Rattle.files_compare.specs.Compare.{word_on, row_at, row_kind_at, figure_at, largest_in_row, largest_of}
use Rattle.files_compare.specs.ComparePromise.{Unmoved, NothingMoved, exchanged, SidesExchanged}
use Rattle.files_differences.proofs.DistanceLaws.{symmetric}
use Rattle.files_differences.proofs.ToldLaws.{rows_so}

-- ---- A file beside itself.
same_rows : (w : ℕ) → (row_kind_of w w ≡ kind.Answered) ⊎ (row_kind_of w w ≡ kind.RefusedAlike)
same_rows w = by (eqb w 0) refl
  where
    by : (b : Bool) → eqb w 0 ≡ b → (row_kind_of w w ≡ kind.Answered) ⊎ (row_kind_of w w ≡ kind.RefusedAlike)
    by true e = inl ((rows_so w w).answered (eqb-true w 0 e) (eqb-true w 0 e))
    by false e = inr ((rows_so w w).alike (eqb-false w 0 e) (eqb-false w 0 e) refl)

same_figure : (w : ℕ) → Unmoved (figure_of w w)
unfolding figure_of
same_figure w = by (both_finite w w)
  where
    none : distance_of w w ≡ 0
    none = omega arith

    by : (b : Bool) → Unmoved (pick b (figure.Distance (distance_of w w)) (pick (eqb w w) figure.EqualBits figure.UnequalBits))
    by true = inl (ap (λ (d : ℕ). figure.Distance d) none)
    by false = inr (inl (ap (λ (b : Bool). pick b figure.EqualBits figure.UnequalBits) (eq-eqb w w refl)))

in_same : (r : RowKind) (w : ℕ) → Unmoved (figure_in r w w)
in_same kind.Answered w = same_figure w
in_same kind.LeftRefused w = inr (inr refl)
in_same kind.RightRefused w = inr (inr refl)
in_same kind.RefusedAlike w = inr (inr refl)
in_same kind.RefusedUnlike w = inr (inr refl)

pub nothing_moved : NothingMoved
nothing_moved file k n = record {
  same_rows = same_rows (word_on (row_at file k) result_refusal);
  same_figure = in_same (row_kind_at file file k) (word_on (row_at file k) (result_figure + n));
}

-- ---- Two files either way round.
eqb_sym : (v w : ℕ) → eqb v w ≡ eqb w v
eqb_sym v w = by (eqb w v) refl
  where
    by : (b : Bool) → eqb w v ≡ b → eqb v w ≡ eqb w v
    by true e = eq-eqb v w (sym (eqb-true w v e)) ∙ sym e
    by false e = ne_eqb v w (λ q. eqb-false w v e (sym q)) ∙ sym e

rows_exchanged : (v w : ℕ) → row_kind_of w v ≡ exchanged (row_kind_of v w)
unfolding row_kind_of
rows_exchanged v w = rw (eqb_sym w v) (by (eqb v 0) (eqb w 0) (eqb v w))
  where
    by : (a b c : Bool) →
        pick b (pick a kind.Answered kind.RightRefused) (pick a kind.LeftRefused (pick c kind.RefusedAlike kind.RefusedUnlike))
        ≡ exchanged (pick a (pick b kind.Answered kind.RightRefused) (pick b kind.LeftRefused (pick c kind.RefusedAlike kind.RefusedUnlike)))
    by true true c = refl
    by true false c = refl
    by false true c = refl
    by false false true = refl
    by false false false = refl

figure_exchanged : (v w : ℕ) → figure_of w v ≡ figure_of v w
unfolding figure_of
figure_exchanged v w =
    λ i. pick (and_comm (is_finite (of_bits binary64 w)) (is_finite (of_bits binary64 v)) i) (figure.Distance (symmetric w v i)) (pick (eqb_sym w v i) figure.EqualBits figure.UnequalBits)

in_exchanged : (r : RowKind) (v w : ℕ) → figure_in (exchanged r) w v ≡ figure_in r v w
in_exchanged kind.Answered v w = figure_exchanged v w
in_exchanged kind.LeftRefused v w = refl
in_exchanged kind.RightRefused v w = refl
in_exchanged kind.RefusedAlike v w = refl
in_exchanged kind.RefusedUnlike v w = refl

module _ (left right : List ℕ) where
  figures : (k n : ℕ) → figure_at right left k n ≡ figure_at left right k n
  figures k n =
      ap (λ (r : RowKind). figure_in r (word_on (row_at right k) (result_figure + n)) (word_on (row_at left k) (result_figure + n))) (rows_exchanged (word_on (row_at left k) result_refusal) (word_on (row_at right k) result_refusal))
      ∙ in_exchanged (row_kind_at left right k) (word_on (row_at left k) (result_figure + n)) (word_on (row_at right k) (result_figure + n))

  in_row : (k n : ℕ) (l : Option Largest) → largest_in_row (row_at right k) (row_at left k) l k n ≡ largest_in_row (row_at left k) (row_at right k) l k n
  unfolding largest_in_row
  in_row k zero l = refl
  in_row k (suc n) l = λ i. largest_with (in_row k n l i) k (result_figure + n) (figures k n i)

  largest : (n : ℕ) → largest_of right left n ≡ largest_of left right n
  unfolding largest_of
  largest zero = refl
  largest (suc n) = ap (λ (l : Option Largest). largest_in_row (row_at right n) (row_at left n) l n result_figures) (largest n) ∙ in_row n result_figures (largest_of left right n)

pub sides_exchanged : SidesExchanged
sides_exchanged left right = record {
  its_kinds = λ k. rows_exchanged (word_on (row_at left k) result_refusal) (word_on (row_at right k) result_refusal);
  its_figures = figures left right;
  its_largest = largest left right;
}
