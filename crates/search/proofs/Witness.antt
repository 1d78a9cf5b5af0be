-- The premise of demand 3 can be met: by P10 of document 01, whose 21st outward point is exact.
use Prim.Native.Nat.{ℕ}
use mathlib.Core.Path.{◌≡◌, refl}
use mathlib.Core.Bool.{true}
use native.Mathlib.Omega.{arith}
use lib.Ieee.{add, sub, mul, div, neg, lt, eq, ne, of_bits}
use Rattle.series.specs.Series.{beyond_one, reduced_from, nested, c4_of, c5_of, at_reduced, coefficients_of, sums_of}
use Rattle.search_points.specs.Residual.{time_error_of}
use Rattle.search_points.specs.Trial.{anomaly_at, sort_of, evaluated_at, trial_at}
use Rattle.search_points.proofs.AtRest.{at_rest, one_second, readable}
use Rattle.search_rule.specs.RulePromise.{IsShort, out_point, Findable}
use Rattle.search_rule.proofs.OneByOne.{are_short, each}

-- The place of H = 2^-20.
abbrev pub place_of_h : ℕ
place_of_h = 0x3eb0000000000000

twenty : are_short (trial_at at_rest one_second) place_of_h 20 ≡ true
unfolding are_short add sub mul div neg lt eq ne of_bits beyond_one reduced_from nested c4_of c5_of at_reduced coefficients_of sums_of time_error_of anomaly_at sort_of evaluated_at trial_at
twenty = refl

exact : IsShort (trial_at at_rest one_second (out_point place_of_h 20)).sort → ⊥
unfolding add sub mul div neg lt eq ne of_bits beyond_one reduced_from nested c4_of c5_of at_reduced coefficients_of sums_of time_error_of anomaly_at sort_of evaluated_at trial_at
exact s = s

pub findable : Findable (trial_at at_rest one_second) place_of_h
findable =
    record {
      k = 20;
      first_not_short = record { among = omega arith; shorts = each (trial_at at_rest one_second) place_of_h 20 twenty; not_short = exact };
      readable = readable;
    }
