-- One arc and its results, evaluated from the definitions; the figures come from an independent program. And refusals 7 and 8 by r.
use Rattle.std.specs.Prelude.{◌≡◌, refl, ℕ, Float, Ok, Err}
use Rattle.std.specs.Float.{binary64}
use Rattle.std.specs.Float.Ieee.{add, sub, mul, div, neg, lt, eq, of_bits, to_bits}
use Rattle.bits.specs.Runs.{first_of, has}
use Rattle.bits.specs.declared.refusal.Refusal.TheVariants.{RadiusNotPositive, EndNotFinite}
use Rattle.series.specs.Series.{beyond_one, reduced_from, nested, c4_of, c5_of, at_reduced, coefficients_of, sums_of}
use Rattle.search_points.specs.Residual.{radius_of}
use Rattle.states_revolutions.specs.Revolutions.{as_it_is}
use Rattle.states_arcs.specs.Results.{factors_of, end_state_of, arc_of, acceleration_of, results_of, figures_of, ended_of}
use Rattle.states_start.specs.declared.figures.Vector.{Vector}
use Rattle.states_arcs.specs.declared.figures.Arc.{Arc}

abbrev pub of_word : ℕ → Float
of_word = of_bits binary64

abbrev pub vector : ℕ → ℕ → ℕ → Vector
vector x y z = record { x = of_word x; y = of_word y; z = of_word z }

-- μ = 1, position (1, 0.25, -0.5), velocity (0.125, 1, 0.5), τ = 1.5, at the last ψ whose time error is below zero.
unfoldable pub arc : Arc
arc =
    record {
      start = record {
        state = record {
          position = vector 0x3ff0000000000000 0x3fd0000000000000 0xbfe0000000000000;
          velocity = vector 0x3fc0000000000000 0x3ff0000000000000 0x3fe0000000000000;
        };
        initial = record {
          mu = of_word 0x3ff0000000000000;
          r0 = of_word 0x3ff2548eb9151e85;
          sigma0 = of_word 0x3fc0000000000000;
          alpha = of_word 0xbfdeba415bee70e4;
        };
      };
      interval = as_it_is (record { 0 = of_word 0x3ff8000000000000 });
      psi = record { 0 = of_word 0x3ff255aca3e4576b };
      c = record {
        c0 = of_word 0x3fe66e82045bd53e;
        c1 = of_word 0x3fecbdf2fc2ef72a;
        c2 = of_word 0x3fde5a8d8ff8d38f;
        c3 = of_word 0x3fc4abbd2141c054;
        c4 = of_word 0x3fa4e3d878cc4994;
        c5 = of_word 0x3f80d00de80e1f08;
      };
      s = record { s1 = of_word 0x3ff077cc4b76f8e1; s2 = of_word 0x3fe3edda63bbe08d; s3 = of_word 0x3fcf1aa574f1a678 };
      r = of_word 0x3ff8df55ff2a8950;
      factors = record {
        f = of_word 0x3fdd35799e220d0a;
        g = of_word 0x3ff41cab5161cb31;
        fprime = of_word 0xbfe27e5f11c0c308;
        gprime = of_word 0x3fe32e1055907d3c;
      };
      end = record {
        position = vector 0x3fe3a1e7a3697951 0x3ff5f002eb43ec02 0x3fd99e99d3b28fdd;
        velocity = vector 0xbfe0189d070eb360 0x3fdd1cf1224098f4 0x3fe2d637b3a8a022;
      };
    }

its_parts : arc_of arc.start arc.interval arc.psi ≡ arc
unfolding add sub mul div neg lt of_bits beyond_one reduced_from nested c4_of c5_of at_reduced coefficients_of sums_of radius_of factors_of end_state_of
    arc_of as_it_is arc
its_parts = refl

its_results :
    ended_of arc
    ≡ Ok
    (record {
      end = arc.end;
      end_acceleration = vector 0xbfc4e790a69a161e 0xbfd75be8898eb64b 0xbfbb4792fd29ccea;
      start_acceleration = vector 0xbfe5480c7308d88d 0xbfc5480c7308d88d 0x3fd5480c7308d88d;
      psi = arc.psi;
    })
unfolding mul div neg lt eq of_bits to_bits acceleration_of results_of figures_of ended_of first_of has arc
its_results = refl

-- Refusal 7, "r at the found ψ isn't greater than zero", whatever else an arc has: either zero, minus the least double, minus infinity, a NaN.
abbrev with_radius : Arc → ℕ → Arc
with_radius a r =
    record {
      start = a.start;
      interval = a.interval;
      psi = a.psi;
      c = a.c;
      s = a.s;
      r = of_word r;
      factors = a.factors;
      end = a.end;
    }

not_above :
    (a : Arc) →
    (ended_of (with_radius a 0) ≡ Err RadiusNotPositive)
    × (ended_of (with_radius a 0x8000000000000000) ≡ Err RadiusNotPositive)
    × (ended_of (with_radius a 0x8000000000000001) ≡ Err RadiusNotPositive)
    × (ended_of (with_radius a 0xfff0000000000000) ≡ Err RadiusNotPositive)
    × (ended_of (with_radius a 0x7ff8000000000000) ≡ Err RadiusNotPositive)
unfolding lt of_bits ended_of
not_above a = (refl, refl, refl, refl, refl)

-- The least double is above zero, and its cube is zero: 8.
above : ended_of (with_radius arc 1) ≡ Err EndNotFinite
unfolding add sub mul div neg lt eq of_bits to_bits acceleration_of results_of figures_of ended_of first_of has arc
above = refl
