-- What is told, by the outcomes of its tests.
use Rattle.std.specs.Prelude.{ℕ, ◌≡◌, refl, ◌^◌, ◌<◌, Bool, true, false, ◌&&◌}
use Rattle.std.specs.Float.{binary64}
use Rattle.std.specs.Float.Ieee.{of_bits}
use Rattle.std.proofs.Common.{ap₂}
use borrow.Author.Tests.{eq-eqb, ne_eqb}
use Rattle.bits.specs.Arithmetic.{is_finite}
use Rattle.files_differences.specs.Distance.{Finite}
use Rattle.files_differences.specs.Told.{row_kind_of, both_finite, figure_of}
use Rattle.files_differences.specs.declared.told.RowKind.TheVariants as kind
use Rattle.files_differences.specs.ToldPromise.{FiguresSo, RowsSo, RefusedUntold}

module _ (v w : ℕ) where
  not_both : v < 2 ^ 64 → w < 2 ^ 64 → (Finite v × Finite w → ⊥) → both_finite v w ≡ false
  not_both hv hw n = by (is_finite (of_bits binary64 v)) (is_finite (of_bits binary64 w)) refl refl
    where
      by : (a b : Bool) → is_finite (of_bits binary64 v) ≡ a → is_finite (of_bits binary64 w) ≡ b → both_finite v w ≡ false
      by true true p q = absurd (n (record { is_word = hv; is_finite_lem = p }, record { is_word = hw; is_finite_lem = q }))
      by true false p q = ap₂ ◌&&◌ p q
      by false b p q = ap₂ ◌&&◌ p q

pub figures_so : FiguresSo
unfolding figure_of
figures_so v w hv hw = record {
  measured = λ f g. simp (f.is_finite_lem, g.is_finite_lem);
  equal = λ n e. simp (not_both v w hv hw n, eq-eqb v w e);
  unequal = λ n e. simp (not_both v w hv hw n, ne_eqb v w e);
}

pub rows_so : RowsSo
unfolding row_kind_of
rows_so v w = record {
  answered = λ p q. simp (eq-eqb v 0 p, eq-eqb w 0 q);
  left_alone = λ p q. simp (ne_eqb v 0 p, eq-eqb w 0 q);
  right_alone = λ p q. simp (eq-eqb v 0 p, ne_eqb w 0 q);
  alike = λ p q e. simp (ne_eqb v 0 p, ne_eqb w 0 q, eq-eqb v w e);
  unlike = λ p q e. simp (ne_eqb v 0 p, ne_eqb w 0 q, ne_eqb v w e);
}

pub refused_untold : RefusedUntold
refused_untold kind.Answered v w n = absurd (n refl)
refused_untold kind.LeftRefused v w n = refl
refused_untold kind.RightRefused v w n = refl
refused_untold kind.RefusedAlike v w n = refl
refused_untold kind.RefusedUnlike v w n = refl
