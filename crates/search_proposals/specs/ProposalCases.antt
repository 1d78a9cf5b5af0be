-- The proposals of two rounds, evaluated from the definitions; the places come from an independent program. The state is μ = 398600.4418 km^3/s^2, position
-- (-2500, -4000, 2000) km, velocity (-6.8, -4.4, 8.7) km/s, and τ = 1800 s. Then proposals that haven't the sign of τ, by hand.
use Rattle.std.specs.Prelude.{ℕ, ◌≡◌, refl, Bool, true, false, None, Some}
use Rattle.std.specs.Float.{binary64}
use Rattle.std.specs.Float.Ieee.{of_bits, to_bits, neg, add, sub, mul, div, lt, eq, ne}
use Rattle.series.specs.Series.{beyond_one, reduced_from, nested, c4_of, c5_of, at_reduced, doublings, quotients_of, coefficients_of, sums_of}
use Rattle.series.specs.declared.figures.Seconds.{Seconds}
use Rattle.search_points.specs.declared.figures.Initial.{Initial}
use Rattle.search_points.specs.declared.figures.Terms.{Terms}
use Rattle.search_points.specs.Residual.{time_error_of, radius_of}
use Rattle.search_points.specs.Trial.{anomaly_at, sort_of, evaluated_at, trial_at}
use Rattle.search_rule.specs.declared.pair.End.{End}
use Rattle.search_rule.specs.declared.pair.Pair.{Pair}
use Rattle.search_rule.specs.Rule.{pair_of}
use Rattle.search_proposals.specs.Proposals.{offered_at, by_radius, by_interval, by_ends, proposed}

abbrev state : Initial
state =
    record {
      mu = of_bits binary64 0x41185421c467381d;
      r0 = of_bits binary64 0x40b40379b2b2ef50;
      sigma0 = of_bits binary64 0x40e9640000000000;
      alpha = of_bits binary64 0xc02c9d883eb95380;
    }

abbrev interval : Seconds
interval = record { 0 = of_bits binary64 0x409c200000000000 }

abbrev end : (place error : ℕ) → End
end place error = record { place = place; error = of_bits binary64 error }

-- A pair by its two ends; `last` is whether the past one was tried last.
abbrev pair : (short past : End) (last : Bool) (place : ℕ) → Pair
pair short past last place = pair_of short past last (trial_at state interval place)

-- The first inner round: the first proposal fits, and so does the second, which is another place.
first_fits :
    let s = pair (end 0x3fb67c17c4c5e46e 0xc0916af043b07380) (end 0x3fc67c17c4c5e46e 0x406414ea8f189d10) true 0x3fc67c17c4c5e46e in
    proposed state interval s ≡ Some 0x3fc55e91b0ee662a
unfolding
    of_bits to_bits neg add sub mul div lt eq ne beyond_one reduced_from nested c4_of c5_of at_reduced doublings quotients_of coefficients_of sums_of
    time_error_of radius_of anomaly_at sort_of evaluated_at trial_at offered_at by_radius by_interval by_ends proposed
first_fits = refl

-- The second round, from the short end: the first proposal does not fit, and the second does.
second_fits :
    let s = pair (end 0x3fbded54bada254c 0xc087edac395c6302) (end 0x3fc55e91b0ee662a 0x400c6a881b92f800) false 0x3fbded54bada254c in
    (by_radius state interval s ≡ None) × (proposed state interval s ≡ Some 0x3fc5543516a2e674)
unfolding
    of_bits to_bits neg add sub mul div lt eq ne beyond_one reduced_from nested c4_of c5_of at_reduced doublings quotients_of coefficients_of sums_of
    time_error_of radius_of anomaly_at sort_of evaluated_at trial_at offered_at by_radius by_interval by_ends proposed
second_fits = (refl, refl)

-- "has the sign of τ", for τ = 4 and τ = −4. The short end is 1, with R = −1; the past end is 5, with R = 7, tried last, and r is 1 there; for τ = −4 all but r
-- with the other sign. The first proposal is 5−7 = −2 and the second 5·(1−7/4) = −15/4: both lie between by their size, and have not the sign of τ. The third
-- is 1+(1/8)·4 = 3/2.
abbrev unit : Initial
unit = record { mu = of_bits binary64 0; r0 = of_bits binary64 0x3ff0000000000000; sigma0 = of_bits binary64 0; alpha = of_bits binary64 0 }

abbrev at_rest : Terms
at_rest = record { c0 = of_bits binary64 0x3ff0000000000000; s1 = of_bits binary64 0; s2 = of_bits binary64 0 }

abbrev ThirdFits : (tau short past : ℕ) → Type 0
ThirdFits tau short past =
    let s : Pair = record { short = end 0x3ff0000000000000 short; past = end 0x4014000000000000 past; last_is_past = true; terms = at_rest } in
    let t : Seconds = record { 0 = of_bits binary64 tau } in
    (by_radius unit t s ≡ None) × (by_interval t s ≡ None) × (proposed unit t s ≡ Some 0x3ff8000000000000)

other_sign :
    ThirdFits 0x4010000000000000 0xbff0000000000000 0x401c000000000000
    × ThirdFits 0xc010000000000000 0x3ff0000000000000 0xc01c000000000000
unfolding of_bits to_bits neg add sub mul div lt eq radius_of anomaly_at offered_at by_radius by_interval by_ends proposed
other_sign = ((refl, refl, refl), (refl, refl, refl))
