-- The word's answer is the computed one, and a NaN's is written out.
use mathlib.Core.Path.{◌≡◌, refl, sym, ap, ◌∙◌}
use native.Mathlib.Omega.{arith}
use Rattle.std.proofs.Common.{Result, Ok, Err}
use Rattle.std.specs.Result.{IsErr}
use lib.Ieee.{Float, binary64, of_bits}
use Rattle.bits.specs.declared.refusal.Refusal.{Refusal}
use Rattle.bits.specs.Arithmetic.{n0}
use Rattle.bits.specs.Root.{root_refusal, root_of, figure_in}
use Rattle.bits.proofs.Doubles.{only_nan, no_nan_bits}
use Rattle.bits.proofs.RootLaws.{root_of-nan}
use Rattle.bits.proofs.Computed.{answered}
use Rattle.bits.proofs.root.root_of_figure.Goals as goal

refused : (r : Result Float Refusal) → IsErr r → figure_in r ≡ n0
refused (Ok x) e = cc
refused (Err r) e = refl

module _ (c : goal.Then-is_nan) where
  nan : (9 ≡ root_refusal c.args.x) × (n0 ≡ root_of c.args.x)
  nan = root_of-nan _ (only_nan _ (sym c.is_nan.ensures.value ∙ c.if-is_nan.true))

pub returns-then-is_nan-clause-refusal : goal.returns-then-is_nan-clause-refusal
returns-then-is_nan-clause-refusal c = (nan c).0

pub returns-then-is_nan-clause-figure : goal.returns-then-is_nan-clause-figure
returns-then-is_nan-clause-figure c = (nan c).1

pub returns-in_err-root-clause-figure : goal.returns-in_err-root-clause-figure
unfolding root_of
returns-in_err-root-clause-figure c = refused _ c.from_residual.ensures.0 ∙ ap (of_bits binary64) (answered _ _ _ c.in_err-root.ensures).1

pub float_from_bits-result : goal.float_from_bits-result
float_from_bits-result c = no_nan_bits _ (omega (arith, (answered _ _ _ c.in_ok-root.ensures).2))

pub returns-clause-figure : goal.returns-clause-figure
unfolding root_of
returns-clause-figure c = ap (of_bits binary64) (answered _ _ _ c.in_ok-root.ensures).1
