-- Refusals 4 to 8 of whole calls, computed here from the definitions, with all 15 words of each answer. Nearly all figures are powers of two, so that refusal
-- and points can be worked out from document 01 by hand; where rounding decides, the points come from an independent program. Document 01's marked cases are in
-- the table of crate `files_results`.
use mathlib.Core.Path.{◌≡◌, refl}
use mathlib.Core.List.{List, [], ◌∷◌, ◌++◌, map}
use Prim.Native.Nat.{ℕ}
use Rattle.states.specs.Call.{orbit_words, propagate_of, answer_words}
use Rattle.states.proofs.Computed.{state_answer, refused_with}

-- What is asked, and the refusal and the points of the answer.
record Row : Type 0 where
  words : List ℕ
  refusal : ℕ
  points : ℕ

-- Rows before others: of eight words; and of a position and a velocity on the x axis.
abbrev row : (mu x y z vx vy vz tau : ℕ) → (refusal points : ℕ) → List Row → List Row
row mu x y z vx vy vz tau refusal points rest = record { words = orbit_words mu x y z vx vy vz tau; refusal = refusal; points = points } ∷ rest

abbrev straight : (mu x vx tau : ℕ) → (refusal points : ℕ) → List Row → List Row
straight mu x vx tau = row mu x 0 0 vx 0 0 tau

-- 4 by H alone: |τ|/r0 = 2^1030 is infinite, and stays so times 2^−20. The other figures by which 4 is given are in Cases of crate `states_start`.
abbrev four : List Row
four = straight 0 0x3e10000000000000 0 0x7e70000000000000 4 0 []

-- "all 41 outward points are short", on in time and back. r0 = 1, σ0 = ∓2^400 and v² = 2^800 = (2·μ)/r0, so that α and L are zero, and c0 = c1 = 1, c2 = 1/2.
-- H is 2^−420, and the cube of every ψ vanishes. At ψ = 2^(k−420) R is then, times 2^420 and but for its sign, 2^k − 2^(2k−21) − 2^20: below zero for every k.
abbrev five : List Row
five =
    straight 0x71e0000000000000 0x3ff0000000000000 0xd8f0000000000000 0x26f0000000000000 5 41
    (straight 0x71e0000000000000 0x3ff0000000000000 0x58f0000000000000 0xa6f0000000000000 5 41 [])

-- "a point that the search tries is unreadable", at rest and with α zero. With μ = 0, r0 = 1 and τ = 2^352 the points from 2^332 to 2^341 are short; the cube
-- of 2^342 is infinite, and μ times it a NaN, so that R is one. With μ = −2^−1074, r0 = 2^10 and τ = 2^535 R is minus infinite, and short, from H = 2^505 to
-- 2^511; the square of 2^512 is infinite, and α times it a NaN.
abbrev six : List Row
six =
    straight 0 0x3ff0000000000000 0 0x55f0000000000000 6 11
    (straight 0x8000000000000001 0x4090000000000000 0 0x6160000000000000 6 8 [])

-- "r at the found ψ isn't greater than zero", straight at the centre with no pull. x = 8, vx = −3, τ = 3: up to ψ = 6 the points are short; at 12 r0·s1 and
-- σ0·s2 are above 2^52, so that their sum, 8/3, comes out as 3: R is zero, and so is r. x = 11, vx = 1, τ = −12: r is −1. The last was met in a comparison with
-- an independent program: r0·c0 is infinite, and σ0·s1 minus infinite, so that r is a NaN, while R is finite.
abbrev seven : List Row
seven =
    straight 0 0x4020000000000000 0xc008000000000000 0x4008000000000000 7 26
    (straight 0 0x4026000000000000 0x3ff0000000000000 0xc028000000000000 7 26
    (row 0 0x5d6204a92c57f38a 0 0 0x58b5f6655950ef78 0x8000000000000000 0 0xc66dd88e233d9e1a 7 71 []))

-- "a divisor under Results and partials is zero, or a figure of the answer isn't finite". The cube of r0 = 2^−400 is zero; ψ = 1 is exact, as in P10. And at
-- once, with τ zero: μ = 2^1000 and r0 = 2^−20, so that the acceleration is infinite.
abbrev eight : List Row
eight =
    straight 0 0x26f0000000000000 0 0x26f0000000000000 8 21
    (straight 0x7e70000000000000 0x3eb0000000000000 0 0 8 0 [])

-- Each row is answered as it says.
abbrev Answered : List Row → Type 0
Answered rows = map (λ (r : Row). answer_words (propagate_of r.words)) rows ≡ map (λ (r : Row). refused_with r.refusal r.points) rows

four_five_six_eight : Answered (four ++ (five ++ (six ++ eight)))
unfolding state_answer
four_five_six_eight = refl

sevens : Answered seven
unfolding state_answer
sevens = refl
