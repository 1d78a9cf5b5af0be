-- No interval; two searches with many inner points, on in time and back; and which end of a pair is answered, computed here from the definitions. The figures of the long
-- searches come from an independent program, the others are worked out by hand. Document 01's marked cases are in the table of crate `files_results`.
use Prim.Native.Nat.{ℕ, ◌+◌}
use mathlib.Core.Path.{◌≡◌, refl}
use mathlib.Core.List.{List, [], ◌∷◌}
use lib.Ieee.{Float, binary64, of_bits, to_bits, neg, add, sub, mul, div, lt, eq, ne}
use Rattle.bits.specs.Words.{place_of}
use Rattle.series.specs.Series.{beyond_one, reduced_from, nested, c4_of, c5_of, at_reduced, doublings, quotients_of, coefficients_of, sums_of}
use Rattle.series.specs.declared.figures.Anomaly.{Anomaly}
use Rattle.series.specs.declared.figures.Seconds.{Seconds}
use Rattle.search_points.specs.declared.figures.Initial.{Initial}
use Rattle.search_points.specs.declared.figures.Sort.{Sort}
use Rattle.search_points.specs.declared.figures.Sort.TheVariants.{Short, Past, Exact}
use Rattle.search_points.specs.Residual.{time_error_of, radius_of}
use Rattle.search_points.specs.Trial.{anomaly_at, sort_of, evaluated_at, trial_at}
use Rattle.search_rule.specs.Rule.{Ending, between, exact, unreadable, all_short, History, tries, ends, next_of, onward, outward, halving, inward, history, counted}
use Rattle.search_rule.specs.Rule as rule
use Rattle.search_rule.specs.Nearer.{nearer_end}
use Rattle.search_proposals.specs.Proposals.{offered_at, by_radius, by_interval, by_ends, proposed}
use Rattle.search.specs.Search.{Finding, found_with, history_at, finding_of, search_choosing, search_of}

-- Figures by their words.
abbrev number : ℕ → Float
number = of_bits binary64

abbrev initial : (mu r0 sigma0 alpha : ℕ) → Initial
initial mu r0 sigma0 alpha = record { mu = number mu; r0 = number r0; sigma0 = number sigma0; alpha = number alpha }

abbrev seconds : ℕ → Seconds
seconds tau = record { 0 = number tau }

abbrev anomaly : ℕ → Anomaly
anomaly psi = record { 0 = number psi }

abbrev found : (psi points : ℕ) → Finding
found psi points = found_with (anomaly psi) points

-- "If τ is either zero, ψ = +0 with no trial points."
pub no_interval : (i : Initial) (h : Anomaly) → (search_of i (seconds 0) h ≡ found 0 0) × (search_of i (seconds 0x8000000000000000) h ≡ found 0 0)
unfolding of_bits eq search_choosing
no_interval i h = (refl, refl)

-- A point: its place, and its sort with the word of its time error. What is found: its anomaly, and the points.
data Row : Type 0 where
  point : ℕ → Sort → Row
  finds : Finding → Row

abbrev short : (place error : ℕ) → Row
short place error = point place (Short (number error))

abbrev past : (place error : ℕ) → Row
past place error = point place (Past (number error))

abbrev exactly : (place : ℕ) → Row
exactly place = point place Exact

abbrev ended : Ending → List Row → List Row
ended (between s) rest = point s.short.place (Short s.short.error) ∷ point s.past.place (Past s.past.error) ∷ rest
ended (exact p) rest = point p Exact ∷ rest
ended unreadable rest = rest
ended all_short rest = rest

abbrev rows : Seconds → (used : ℕ) → History → List Row
rows tau n (tries p h) = point p.place p.trial.sort ∷ rows tau (n + 1) h
rows tau n (ends e) = ended e (finds (finding_of tau (next_of n e)) ∷ [])

-- Every point that a search tries, in order, then the two neighbours, or the exact point, with which it ends, and what is found.
abbrev Tries : Initial → Seconds → (h : Anomaly) → List Row → Type 0
Tries i tau h tried = rows tau 0 (history_at i tau (place_of h.0)) ≡ tried

-- A closed orbit: μ = 398600.4418 km^3/s^2, position (-2500, -4000, 2000) km, velocity (-6.8, -4.4, 8.7) km/s, τ = 1800 s. After 20 outward points there are
-- seven rounds, which take in turn the first, second, first, third and first proposal, none, and the first. The errors of the last two neighbours are as large: the
-- short end is answered.
forward :
    Tries (initial 0x41185421c467381d 0x40b40379b2b2ef50 0x40e9640000000000 0xc02c9d883eb95380) (seconds 0x409c200000000000) (anomaly 0x3e967c17c4c5e46e)
    (
    short 0x3e967c17c4c5e46e 0xc09c1ffe3dffcddb
    ∷ short 0x3ea67c17c4c5e46e 0xc09c1ffc7bff376e
    ∷ short 0x3eb67c17c4c5e46e 0xc09c1ff8f7fcddb6
    ∷ short 0x3ec67c17c4c5e46e 0xc09c1ff1eff376d7
    ∷ short 0x3ed67c17c4c5e46e 0xc09c1fe3dfcddb49
    ∷ short 0x3ee67c17c4c5e46e 0xc09c1fc7bf376c91
    ∷ short 0x3ef67c17c4c5e46e 0xc09c1f8f7cddadac
    ∷ short 0x3f067c17c4c5e46e 0xc09c1f1ef37691f6
    ∷ short 0x3f167c17c4c5e46e 0xc09c1e3dcdd921ff
    ∷ short 0x3f267c17c4c5e46e 0xc09c1c7b375b5958
    ∷ short 0x3f367c17c4c5e46e 0xc09c18f4dd23f305
    ∷ short 0x3f467c17c4c5e46e 0xc09c11e37244658e
    ∷ short 0x3f567c17c4c5e46e 0xc09c03adb6b9288d
    ∷ short 0x3f667c17c4c5e46e 0xc09be6f6484dbf74
    ∷ short 0x3f767c17c4c5e46e 0xc09bac548f4cce6e
    ∷ short 0x3f867c17c4c5e46e 0xc09b322ddb374e8e
    ∷ short 0x3f967c17c4c5e46e 0xc09a299743181ccf
    ∷ short 0x3fa67c17c4c5e46e 0xc097c18c2ed1fece
    ∷ short 0x3fb67c17c4c5e46e 0xc0916af043b07380
    ∷ past 0x3fc67c17c4c5e46e 0x406414ea8f189d10
    ∷ past 0x3fc55e91b0ee662a 0x400c6a881b92f800
    ∷ short 0x3fbded54bada254c 0xc087edac395c6302
    ∷ short 0x3fc5543516a2e674 0xc000214ec2c41600
    ∷ past 0x3fc5596363c8a64f 0x3fe888f458c63800
    ∷ past 0x3fc557f62485faff 0x3f1709e69c000000
    ∷ short 0x3fc556159d9470b9 0xbff021c02b2d2800
    ∷ short 0x3fc557f619cd2963 0xbe4c77e000000000
    ∷ past 0x3fc557f61f299231 0x3f070902da000000
    ∷ past 0x3fc557f619cd935d 0x3d50000000000000
    ∷ short 0x3fc557f619cd5e60 0xbe3c780000000000
    ∷ short 0x3fc557f619cd78de 0xbe2c780000000000
    ∷ short 0x3fc557f619cd935c 0xbd50000000000000
    ∷ short 0x3fc557f619cd935c 0xbd50000000000000
    ∷ past 0x3fc557f619cd935d 0x3d50000000000000
    ∷ finds (found 0x3fc557f619cd935c 32)
    ∷ [])
unfolding of_bits to_bits neg add sub mul div lt eq ne beyond_one reduced_from nested c4_of c5_of at_reduced doublings quotients_of coefficients_of sums_of time_error_of radius_of anomaly_at sort_of evaluated_at trial_at onward outward halving rule.round inward history counted offered_at by_radius by_interval by_ends proposed nearer_end search_choosing
forward = refl

-- Back in time: μ = 42828.37 km^3/s^2, position (3500, 900, -1200) km, velocity (0.4, -3.2, 1.9) km/s, τ = -3100 s. After 21 outward points there are six rounds,
-- which take in turn the first, second, first, third, first and third proposal, and the last ends at an exact point.
backward :
    Tries (initial 0x40e4e98bd70a3d71 0x40adbfc5ea4411d5 0xc0ad600000000000 0xc020f81881529c32) (seconds 0xc0a8380000000000) (anomaly 0x3eaa0d1b33099109)
    (
    short 0x3eaa0d1b33099109 0x40a837fe7c7ff644
    ∷ short 0x3eba0d1b33099109 0x40a837fcf8ffd910
    ∷ short 0x3eca0d1b33099109 0x40a837f9f1ff6440
    ∷ short 0x3eda0d1b33099109 0x40a837f3e3fd9101
    ∷ short 0x3eea0d1b33099109 0x40a837e7c7f64400
    ∷ short 0x3efa0d1b33099109 0x40a837cf8fd90fe1
    ∷ short 0x3f0a0d1b33099109 0x40a8379f1f643e98
    ∷ short 0x3f1a0d1b33099109 0x40a8373e3d90f2fc
    ∷ short 0x3f2a0d1b33099109 0x40a8367c764390d4
    ∷ short 0x3f3a0d1b33099109 0x40a834f8d90c6a82
    ∷ short 0x3f4a0d1b33099109 0x40a831f16422e55c
    ∷ short 0x3f5a0d1b33099109 0x40a82be190158b6e
    ∷ short 0x3f6a0d1b33099109 0x40a81fbe3ca794fb
    ∷ short 0x3f7a0d1b33099109 0x40a80768d54517e8
    ∷ short 0x3f8a0d1b33099109 0x40a7d6826c05cfd1
    ∷ short 0x3f9a0d1b33099109 0x40a773c283aceb6e
    ∷ short 0x3faa0d1b33099109 0x40a6aa5276627098
    ∷ short 0x3fba0d1b33099109 0x40a506ab00d5f494
    ∷ short 0x3fca0d1b33099109 0x40a175b64656cfda
    ∷ short 0x3fda0d1b33099109 0x40922c746db661da
    ∷ past 0x3fea0d1b33099109 0xc09708ee203d0cf8
    ∷ past 0x3fe326969930d4a6 0xc034bbd6c6c3ca00
    ∷ short 0x3fde99d8e61d32d7 0x408725c4fe5deae0
    ∷ short 0x3fe2f4d7aa824cf8 0x4032e10280559a80
    ∷ past 0x3fe30db721d990cf 0xbfed3dd4fba27000
    ∷ past 0x3fe30c915c16677c 0xbefe5e1a80000000
    ∷ short 0x3fe300b4834c5a3a 0x4022e298e4abd200
    ∷ short 0x3fe30c9159b3fe8b 0x3e446f0000000000
    ∷ past 0x3fe30c915ae53303 0xbeee5b8c80000000
    ∷ past 0x3fe30c9159b431df 0xbd60000000000000
    ∷ short 0x3fe30c9159b41835 0x3e346f0000000000
    ∷ exactly 0x3fe30c9159b431de
    ∷ exactly 0x3fe30c9159b431de
    ∷ finds (found 0xbfe30c9159b431de 32)
    ∷ [])
unfolding of_bits to_bits neg add sub mul div lt eq ne beyond_one reduced_from nested c4_of c5_of at_reduced doublings quotients_of coefficients_of sums_of time_error_of radius_of anomaly_at sort_of evaluated_at trial_at onward outward halving rule.round inward history counted offered_at by_radius by_interval by_ends proposed nearer_end search_choosing
backward = refl

-- T-01 at place 0. At rest without a pull R is r0·ψ−τ. Here H is zero; the places tried are 0, 2^52, and 1 by the first proposal. In units of 2^-1074, the least double
-- above zero: with r0 = 1.5 and τ = −1, R is 1 at place 0 and, since 1.5 rounds to 2, −1 at place 1: place 0, and ψ keeps the sign of τ. With r0 = 3 and τ = 2, R is −2
-- at place 0 and 1 at place 1: place 1.
abbrev AtRest : (r0 tau psi : ℕ) → Type 0
AtRest r0 tau psi = search_of (initial 0 r0 0 0) (seconds tau) (anomaly 0) ≡ found psi 3

place_zero :
    AtRest 0x3ff8000000000000 0x8000000000000001 0x8000000000000000
    × AtRest 0x4008000000000000 0x0000000000000002 0x0000000000000001
unfolding of_bits to_bits neg add sub mul div lt eq ne beyond_one reduced_from nested c4_of c5_of at_reduced doublings quotients_of coefficients_of sums_of time_error_of radius_of anomaly_at sort_of evaluated_at trial_at onward outward halving rule.round inward history counted offered_at by_radius by_interval by_ends proposed nearer_end search_choosing
place_zero = (refl, refl)
