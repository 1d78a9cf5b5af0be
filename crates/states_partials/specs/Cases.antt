-- The 36 partials of three arcs, evaluated from the definitions: of the lower crate's case, and of two with whole revolutions. The
-- figures come from an independent program.
use Rattle.std.specs.Prelude.{◌≡◌, refl, List, [], ◌∷◌, ℕ, false, Option, Some}
use Rattle.std.specs.Float.Ieee.{add, sub, mul, div, neg, lt, eq, of_int, of_bits, to_bits}
use Rattle.bits.specs.Arithmetic.{n0}
use Rattle.bits.specs.Runs.{first_of, has}
use Rattle.series.specs.Series.{beyond_one, reduced_from, nested, c4_of, c5_of, at_reduced, doublings, quotients_of, coefficients_of, sums_of}
use Rattle.search_points.specs.Residual.{radius_of}
use Rattle.states_revolutions.specs.Floor.{floor_of}
use Rattle.states_revolutions.specs.declared.figures.Interval.{Interval}
use Rattle.states_revolutions.specs.declared.figures.Revolution.{Revolution}
use Rattle.states_start.specs.declared.figures.Start.{Start}
use Rattle.states_arcs.specs.Results.{factors_of, end_state_of, arc_of}
use Rattle.states_arcs.specs.declared.figures.Arc.{Arc}
use Rattle.states_arcs.specs.Cases.{of_word, vector, arc}
use Rattle.states_revolutions.specs.Revolutions.{as_it_is, without_n, without_revolutions, interval_of}
use Rattle.states_partials.specs.U.{u_at_found, whole_anomaly_of, whole_sums_of, sums_at_whole, u_at_whole, u_of, u_refused}
use Rattle.states_partials.specs.Matrix.{matrix_of}
use Rattle.states_partials.specs.Entries.{plus_of, minus_of, partial_of, unit_of, component_of, entry_of, up_to, entries_of}
use Rattle.bits.specs.Words.{words_of}

-- What the partials of an arc are computed by.
computed : Arc → List ℕ
unfolding
    add sub mul div neg lt eq of_int of_bits to_bits first_of has floor_of as_it_is without_n without_revolutions interval_of beyond_one reduced_from nested
    c4_of c5_of at_reduced doublings quotients_of coefficients_of sums_of radius_of factors_of end_state_of arc_of u_at_found whole_anomaly_of whole_sums_of
    sums_at_whole
    u_at_whole u_of u_refused matrix_of plus_of minus_of partial_of unit_of component_of entry_of up_to entries_of
computed a = words_of (entries_of a)

its_partials :
    words_of (entries_of arc)
    ≡ 0x3ffa592ffc9c915c ∷ 0x3fe5a5c5929b021a ∷ 0xbfd80326e6fb9dd3 ∷ 0x3ffadc3de5b00f0b ∷ 0x3fd5f48608b8ca6c ∷ 0xbfb2aae351fed5bf
    ∷ 0x3fe9d93506ea4606 ∷ 0x3fef9731d7308977 ∷ 0xbfcb41056a55740e ∷ 0x3fd7cbfa5a0e0098 ∷ 0x3ff99c00ebea06a0 ∷ 0xbfa4ad492e22ec8c
    ∷ 0xbfd322425fe9e39c ∷ 0xbfc069b43e2e0f1d ∷ 0x3fe264e579a01c33 ∷ 0xbfacc7cb5bbc2bc0 ∷ 0xbf9657f22d7b67e0 ∷ 0x3ff47d519b97d29d
    ∷ 0x3fe3c396ff5f2964 ∷ 0x3fe99b7646aae3cf ∷ 0xbfd3a0931ede9c1e ∷ 0x3ff2c31fb7392d17 ∷ 0x3fe269b2b3f7a1ee ∷ 0xbfa24cf657dcd6ce
    ∷ 0x3ff20811bb875a96 ∷ 0x3fd18395d6fe108e ∷ 0xbfcdc62b8c36f312 ∷ 0x3fe53bff4697c7e0 ∷ 0x3ff59680c736e60c ∷ 0x3f7de32b49187b38
    ∷ 0xbfbdf0b460e49378 ∷ 0xbf9654f140e4a5e0 ∷ 0xbfe07bfc20471f4f ∷ 0x3f8fa5b7c8501630 ∷ 0x3fb06e3188503b04 ∷ 0x3fe40dae76baaa96
    ∷ []
unfolding computed arc
its_partials = refl

-- T-04: a circle, μ = 1, position (1,0,0), velocity (0,1,0), after three whole revolutions. Nothing is left to search, and ψ is +0. A start that
-- is a little off has another period, and the body gets further ahead or behind with each second: the four entries that differ from a unit
-- matrix's are −3·τ and 3·τ, with τ = 18.85.
a_circle : Start
a_circle =
    record {
      state = record { position = vector 0x3ff0000000000000 0 0; velocity = vector 0 0x3ff0000000000000 0 };
      initial = record { mu = of_word 0x3ff0000000000000; r0 = of_word 0x3ff0000000000000; sigma0 = of_word 0; alpha = of_word 0xbff0000000000000 };
    }

its_course : Option Revolution
its_course = Some (record { period = record { 0 = of_word 0x401921fb54442d18 }; anomaly = record { 0 = of_word 0x401921fb54442d18 } })

three_times : Interval
three_times = interval_of its_course (record { 0 = of_word 0x4032d97c7f3321d2 })

it_comes_round :
    (u_refused (arc_of a_circle three_times (record { 0 = n0 })) ≡ false)
    × (words_of (entries_of (arc_of a_circle three_times (record { 0 = n0 })))
    ≡ 0x3ff0000000000000 ∷ 0 ∷ 0 ∷ 0 ∷ 0 ∷ 0
    ∷ 0xc04c463abeccb2c0 ∷ 0x3ff0000000000000 ∷ 0 ∷ 0 ∷ 0xc04c463abeccb2c0 ∷ 0
    ∷ 0 ∷ 0 ∷ 0x3ff0000000000000 ∷ 0 ∷ 0 ∷ 0
    ∷ 0x404c463abeccb2c0 ∷ 0x8000000000000000 ∷ 0x8000000000000000 ∷ 0x3ff0000000000000 ∷ 0x404c463abeccb2c0 ∷ 0
    ∷ 0x8000000000000000 ∷ 0x8000000000000000 ∷ 0x8000000000000000 ∷ 0 ∷ 0x3ff0000000000000 ∷ 0
    ∷ 0x8000000000000000 ∷ 0x8000000000000000 ∷ 0x8000000000000000 ∷ 0 ∷ 0 ∷ 0x3ff0000000000000
    ∷ [])
unfolding computed a_circle its_course three_times
it_comes_round = (refl, refl)

-- The lower crate's orbit for 40 s: two revolutions of 18.89 s come off, and at the ψ of what is left no sum is zero.
two_laps : Interval
two_laps =
    interval_of (Some (record { period = record { 0 = of_word 0x4032e30370eec1e0 }; anomaly = record { 0 = of_word 0x402222c151418bc2 } }))
    (record { 0 = of_word 0x4044000000000000 })

it_goes_on :
    (u_refused (arc_of arc.start two_laps (record { 0 = of_word 0x3ff94047a1472343 })) ≡ false)
    × (words_of (entries_of (arc_of arc.start two_laps (record { 0 = of_word 0x3ff94047a1472343 })))
    ≡ 0x4056e242d857ec2b ∷ 0x4037a342364c815f ∷ 0xc046a8d1e7309498 ∷ 0x403349c8c29efb73 ∷ 0x4060ebb025c6463d ∷ 0x4050cc621be2c8a5
    ∷ 0xc040b7c663375b8d ∷ 0xc01dfbaaa5b12b56 ∷ 0x4031358b11eef7b7 ∷ 0xc016850c30c3a3d2 ∷ 0xc0491972c5ab825b ∷ 0xc03a7331a6808520
    ∷ 0xc0539d55731ed27e ∷ 0xc0339cc8ebf52cb8 ∷ 0x40439fad97d4ab8d ∷ 0xc02d596fe8d8b0c6 ∷ 0xc05d5a88f72bfc53 ∷ 0xc04c8cb582b1cc07
    ∷ 0x40190b1942a95f41 ∷ 0x4001e2b1a1751a65 ∷ 0xc0091d770a08bdc0 ∷ 0x400088d2d812854f ∷ 0x4022c03487337cb3 ∷ 0x40116b3700174dd2
    ∷ 0x40460a3b1af1c573 ∷ 0x402675945d953628 ∷ 0xc0358f4d345c2f19 ∷ 0x402203cca304d1f8 ∷ 0x4050749d850bc64d ∷ 0x4040181508ae7890
    ∷ 0x40352842ac1fb0d2 ∷ 0x4015befcbf59db59 ∷ 0xc026389353ee2662 ∷ 0x4010906bc58e878e ∷ 0x403ff36364a8ba0d ∷ 0x40304256f771f1ef
    ∷ [])
unfolding computed arc two_laps
it_goes_on = (refl, refl)
