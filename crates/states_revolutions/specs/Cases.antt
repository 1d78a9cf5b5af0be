-- Floors, courses and intervals, evaluated from the definitions. What they must give is worked out by hand: the figures are chosen
-- so that every step is exact, but for 2·π.
use Rattle.std.specs.Prelude.{◌≡◌, ℕ, true, false, List, [], ◌∷◌, map, refl, Float, Option, Some, None}
use Rattle.std.specs.Float.{nan, inf, binary64}
use Rattle.std.specs.Float.Ieee.{add, sub, mul, div, neg, lt, eq, of_int, of_bits, to_bits}
use Rattle.bits.specs.Root.{root_word_of, root_of}
use Rattle.states_revolutions.specs.Floor.{floor_of}
use Rattle.states_revolutions.specs.Revolutions.{revolution_of, is_closed, is_usable, course_of, as_it_is, without_n, without_revolutions, interval_of}
use Rattle.states_revolutions.specs.declared.figures.Interval.{Interval}
use Rattle.states_revolutions.specs.declared.figures.Revolution.{Revolution}

abbrev of_word : ℕ → Float
of_word = of_bits binary64

-- ---- 2.5, 3, 0.75, −0, −2.5, −3 and the largest double below zero.
floors :
    map (λ (w : ℕ). floor_of (of_word w))
    (0x4004000000000000 ∷ 0x4008000000000000 ∷ 0x3fe8000000000000 ∷ 0x8000000000000000 ∷ 0xc004000000000000 ∷ 0xc008000000000000 ∷ 0x8000000000000001 ∷ [])
    ≡ map (λ (w : ℕ). Some (of_word w)) (0x4000000000000000 ∷ 0x4008000000000000 ∷ 0 ∷ 0 ∷ 0xc008000000000000 ∷ 0xc008000000000000 ∷ 0xbff0000000000000 ∷ [])
unfolding floor_of of_int of_bits
floors = refl

-- 2^40, the last double before 2^40 + 1, and −2^40 are within; 2^40 + 1, the next double below −2^40, a NaN and the infinities are beyond.
ends_within :
    map (λ (w : ℕ). floor_of (of_word w)) (0x4270000000000000 ∷ 0x4270000000000fff ∷ 0xc270000000000000 ∷ [])
    ≡ map (λ (w : ℕ). Some (of_word w)) (0x4270000000000000 ∷ 0x4270000000000000 ∷ 0xc270000000000000 ∷ [])
unfolding floor_of of_int of_bits
ends_within = refl

ends_beyond :
    map floor_of (of_word 0x4270000000001000 ∷ of_word 0xc270000000000001 ∷ nan ∷ inf true ∷ inf false ∷ [])
    ≡ None ∷ None ∷ None ∷ None ∷ None ∷ []
unfolding floor_of of_int of_bits
ends_beyond = refl

-- ---- By μ and α. μ = 1 and α = −1: P and Q are 2·π. μ = 0, μ = −1, α = 0 and α = 1 do not close; α = −2^−800, whose P is infinite, and
-- α = −2^800, whose P is zero, cannot be used.
of : (mu alpha : ℕ) → Option Revolution
of mu alpha = course_of (record { mu = of_word mu; r0 = of_word 0x3ff0000000000000; sigma0 = of_word 0; alpha = of_word alpha })

is_closed_lem :
    of 0x3ff0000000000000 0xbff0000000000000
    ≡ Some (record { period = record { 0 = of_word 0x401921fb54442d18 }; anomaly = record { 0 = of_word 0x401921fb54442d18 } })
unfolding of revolution_of is_closed is_usable course_of root_of root_word_of mul div neg lt of_bits to_bits
is_closed_lem = refl

not_closed :
    of 0 0xbff0000000000000 ∷ of 0xbff0000000000000 0xbff0000000000000 ∷ of 0x3ff0000000000000 0
    ∷ of 0x3ff0000000000000 0x3ff0000000000000 ∷ of 0x3ff0000000000000 0x8df0000000000000 ∷ of 0x3ff0000000000000 0xf1f0000000000000 ∷ []
    ≡ None ∷ None ∷ None ∷ None ∷ None ∷ None ∷ []
unfolding of revolution_of is_closed is_usable course_of root_of root_word_of mul div neg lt of_bits to_bits
not_closed = refl

-- ---- P = 4 and Q = 2.
on : (whole : ℕ) → Interval
on whole =
    interval_of (Some (record { period = record { 0 = of_word 0x4010000000000000 }; anomaly = record { 0 = of_word 0x4000000000000000 } }))
    (record { 0 = of_word whole })

an_interval : (whole searched off : ℕ) → Interval
an_interval whole searched off =
    record { whole = record { 0 = of_word whole }; searched = record { 0 = of_word searched }; off = Some (record { 0 = of_word off }) }

-- n is 3 for 10; 2 for 6 and −1 for −6, both halfway; 1 for 2, halfway; 3 for 12, −3 for −12, 1 for 3.
some :
    on 0x4024000000000000 ∷ on 0x4018000000000000 ∷ on 0xc018000000000000 ∷ on 0x4000000000000000
    ∷ on 0x4028000000000000 ∷ on 0xc028000000000000 ∷ on 0x4008000000000000 ∷ []
    ≡ an_interval 0x4024000000000000 0xc000000000000000 0x4018000000000000
    ∷ an_interval 0x4018000000000000 0xc000000000000000 0x4010000000000000
    ∷ an_interval 0xc018000000000000 0xc000000000000000 0xc000000000000000
    ∷ an_interval 0x4000000000000000 0xc000000000000000 0x4000000000000000
    ∷ an_interval 0x4028000000000000 0 0x4018000000000000
    ∷ an_interval 0xc028000000000000 0 0xc018000000000000
    ∷ an_interval 0x4008000000000000 0xbff0000000000000 0x4000000000000000
    ∷ []
unfolding on an_interval floor_of as_it_is without_n without_revolutions interval_of add sub mul div neg eq of_int of_bits
some = refl

-- The sum is rounded: the double before 2, divided by 4, plus 1/2 is 1 as a double, and one revolution comes off.
rounded_sum : on 0x3fffffffffffffff ≡ an_interval 0x3fffffffffffffff 0xc000000000000000 0x4000000000000000
unfolding on an_interval floor_of as_it_is without_n without_revolutions interval_of add sub mul div neg eq of_int of_bits
rounded_sum = refl

-- Nothing comes off 1 and −2 (halfway); ±2^40 revolutions come off ±2^42, and nothing off a period more.
abbrev whole_as_it_is : List ℕ
whole_as_it_is = 0x3ff0000000000000 ∷ 0xc000000000000000 ∷ 0x4290000000001000 ∷ 0xc290000000001000 ∷ []

none : map on whole_as_it_is ≡ map (λ (w : ℕ). as_it_is (record { 0 = of_word w })) whole_as_it_is
unfolding on floor_of as_it_is without_n without_revolutions interval_of add sub mul div neg eq of_int of_bits
none = refl

most :
    on 0x4290000000000000 ∷ on 0xc290000000000000 ∷ []
    ≡ an_interval 0x4290000000000000 0 0x4280000000000000 ∷ an_interval 0xc290000000000000 0 0xc280000000000000 ∷ []
unfolding on an_interval floor_of as_it_is without_n without_revolutions interval_of add sub mul div neg eq of_int of_bits
most = refl
