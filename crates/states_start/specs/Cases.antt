-- Words that are not finite, refusal 4 by one figure alone, and the initial figures of one orbit, evaluated from the definitions; the figures come from an
-- independent program. Document 01's marked cases are in the table of crate `files_results`.
use Rattle.std.specs.Prelude.{◌≡◌, refl, List, [], ◌∷◌, ℕ, Option, Some, Ok, Err}
use Rattle.std.specs.Float.{binary64}
use Rattle.std.specs.Float.Ieee.{add, sub, mul, div, neg, lt, eq, of_bits, to_bits}
use Rattle.bits.specs.Runs.{first_of, has}
use Rattle.bits.specs.Root.{root_word_of, root_of}
use Rattle.bits.specs.declared.refusal.Refusal.TheVariants.{
  StartNotFinite,
  MuNotFinite,
  XNotFinite,
  YNotFinite,
  ZNotFinite,
  VxNotFinite,
  VyNotFinite,
  VzNotFinite,
  TauNotFinite,
}
use Rattle.search_points.specs.declared.figures.Initial.{Initial}
use Rattle.states_revolutions.specs.Revolutions.{revolution_of, is_closed, is_usable, course_of}
use Rattle.states_revolutions.specs.declared.figures.Revolution.{Revolution}
use Rattle.states_start.specs.Given.{orbit, interval, read_of}
use Rattle.states_start.specs.Initial.{dot, begun_of, first_step_of}

-- ---- T-05: 31 to 38, "in the order μ, x, y, z, vx, vy, vz, τ".
abbrev infinite : ℕ
infinite = 0x7ff0000000000000

-- The sign bit and a digit: a NaN, whatever its other bits.
abbrev nan : ℕ
nan = 0xfff0000000000001

-- Each of the eight alone.
alone :
    (read_of (nan ∷ 0 ∷ 0 ∷ 0 ∷ 0 ∷ 0 ∷ 0 ∷ 0 ∷ []) ≡ Err MuNotFinite)
    × (read_of (0 ∷ nan ∷ 0 ∷ 0 ∷ 0 ∷ 0 ∷ 0 ∷ 0 ∷ []) ≡ Err XNotFinite)
    × (read_of (0 ∷ 0 ∷ nan ∷ 0 ∷ 0 ∷ 0 ∷ 0 ∷ 0 ∷ []) ≡ Err YNotFinite)
    × (read_of (0 ∷ 0 ∷ 0 ∷ nan ∷ 0 ∷ 0 ∷ 0 ∷ 0 ∷ []) ≡ Err ZNotFinite)
    × (read_of (0 ∷ 0 ∷ 0 ∷ 0 ∷ infinite ∷ 0 ∷ 0 ∷ 0 ∷ []) ≡ Err VxNotFinite)
    × (read_of (0 ∷ 0 ∷ 0 ∷ 0 ∷ 0 ∷ infinite ∷ 0 ∷ 0 ∷ []) ≡ Err VyNotFinite)
    × (read_of (0 ∷ 0 ∷ 0 ∷ 0 ∷ 0 ∷ 0 ∷ infinite ∷ 0 ∷ []) ≡ Err VzNotFinite)
    × (read_of (0 ∷ 0 ∷ 0 ∷ 0 ∷ 0 ∷ 0 ∷ 0 ∷ infinite ∷ []) ≡ Err TauNotFinite)
unfolding first_of has read_of eq of_bits
alone = (refl, refl, refl, refl, refl, refl, refl, refl)

-- The first of several: of vy and τ, of μ and x, of all eight.
of_several :
    (read_of (0 ∷ 0 ∷ 0 ∷ 0 ∷ 0 ∷ infinite ∷ 0 ∷ nan ∷ []) ≡ Err VyNotFinite)
    × (read_of (nan ∷ infinite ∷ 0 ∷ 0 ∷ 0 ∷ 0 ∷ 0 ∷ 0 ∷ []) ≡ Err MuNotFinite)
    × (read_of (nan ∷ nan ∷ nan ∷ nan ∷ nan ∷ nan ∷ nan ∷ nan ∷ []) ≡ Err MuNotFinite)
unfolding first_of has read_of eq of_bits
of_several = (refl, refl, refl)

-- ---- Refusal 4 by one figure alone.
-- By σ0, which its rounding alone can bring. Let u be 2^971, the last place of the greatest double G. x and vx are 2^512−2^459: x², x·vx and vx² round to G−u.
-- Then y² = u/2, y·vy = 3u/4 and vy² = 9u/8; z² = 9u/8, z·vz = 21u/32 and vz² = 49u/128. So the sum goes from G−u over G−u, a tie, to G; v² from G−u over G
-- to G; and σ0 from G−u over G to more than half of u beyond it.
sigma0_alone :
    begun_of
    (orbit
    (0 ∷ 0x5fefffffffffffff ∷ 0x5e40000000000000 ∷ 0x5e48000000000000 ∷ 0x5fefffffffffffff ∷ 0x5e48000000000000 ∷ 0x5e3c000000000000 ∷ 0 ∷ []))
    ≡ Err StartNotFinite
unfolding first_of has dot begun_of root_word_of root_of add sub mul div eq of_bits to_bits
sigma0_alone = refl

-- By α: r0 = 1, v² = 9·2^1020, and (2·μ)/r0 is minus that.
alpha_alone : begun_of (orbit (0xffd2000000000000 ∷ 0x3ff0000000000000 ∷ 0 ∷ 0 ∷ 0 ∷ 0x5fe8000000000000 ∷ 0 ∷ 0 ∷ [])) ≡ Err StartNotFinite
unfolding first_of has dot begun_of root_word_of root_of add sub mul div eq of_bits to_bits
alpha_alone = refl

-- μ = 1, position (1, 0.25, -0.5), velocity (0.125, 1, 0.5), τ = 1.5: r0, σ0, α, the course and H.
an_orbit : List ℕ
an_orbit =
    0x3ff0000000000000 ∷ 0x3ff0000000000000 ∷ 0x3fd0000000000000 ∷ 0xbfe0000000000000
    ∷ 0x3fc0000000000000 ∷ 0x3ff0000000000000 ∷ 0x3fe0000000000000 ∷ 0x3ff8000000000000
    ∷ []

its_initial : Initial
its_initial =
    record {
      mu = of_bits binary64 0x3ff0000000000000;
      r0 = of_bits binary64 0x3ff2548eb9151e85;
      sigma0 = of_bits binary64 0x3fc0000000000000;
      alpha = of_bits binary64 0xbfdeba415bee70e4;
    }

-- Its period and the anomaly that goes by: 18.89 s and 9.07 s/km.
its_course : Option Revolution
its_course = Some (record { period = record { 0 = of_bits binary64 0x4032e30370eec1e0 }; anomaly = record { 0 = of_bits binary64 0x402222c151418bc2 } })

figures :
    (read_of an_orbit ≡ Ok (record { orbit = orbit an_orbit; whole = interval an_orbit }))
    × (begun_of (orbit an_orbit) ≡ Ok (record { start = record { state = (orbit an_orbit).state; initial = its_initial }; course = its_course }))
    × ((first_step_of its_initial (record { 0 = (interval an_orbit).0 })).0 ≡ of_bits binary64 0x3eb4f2ec413cb52b)
unfolding
    an_orbit its_initial its_course revolution_of is_closed is_usable course_of neg lt first_of has read_of dot begun_of first_step_of root_word_of root_of add
    sub mul div eq of_bits to_bits
figures = (refl, refl, refl)
