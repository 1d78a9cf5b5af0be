-- The constants of the series that no lower layer has, by their bit patterns; `whole_numbers` says that each is the number that its name says.
use Rattle.std.specs.Prelude.{refl, List, [], ◌∷◌, Float}
use Rattle.std.specs.Float.{binary64}
use Rattle.std.specs.Float.Ieee.{of_bits, of_int}
use Rattle.bits.specs.Arithmetic.{◌⊘◌, n1, n6, AreWhole}

-- "where 1/6 is the rounded quotient"
abbrev pub sixth : Float
sixth = n1 ⊘ n6

-- The divisor of the reduction, and the last divisors of c4 and of c5.
abbrev pub n4 : Float
n4 = of_bits binary64 0x4010000000000000

abbrev pub n24 : Float
n24 = of_bits binary64 0x4038000000000000

abbrev pub n120 : Float
n120 = of_bits binary64 0x405e000000000000

-- "For c4 the d are 30 56 90 132 182 240 306 380"
abbrev pub n30 : Float
n30 = of_bits binary64 0x403e000000000000

abbrev pub n56 : Float
n56 = of_bits binary64 0x404c000000000000

abbrev pub n90 : Float
n90 = of_bits binary64 0x4056800000000000

abbrev pub n132 : Float
n132 = of_bits binary64 0x4060800000000000

abbrev pub n182 : Float
n182 = of_bits binary64 0x4066c00000000000

abbrev pub n240 : Float
n240 = of_bits binary64 0x406e000000000000

abbrev pub n306 : Float
n306 = of_bits binary64 0x4073200000000000

abbrev pub n380 : Float
n380 = of_bits binary64 0x4077c00000000000

abbrev pub divisors4 : List Float
divisors4 = n30 ∷ n56 ∷ n90 ∷ n132 ∷ n182 ∷ n240 ∷ n306 ∷ n380 ∷ []

-- "For c5 they are 42 72 110 156 210 272 342 420"
abbrev pub n42 : Float
n42 = of_bits binary64 0x4045000000000000

abbrev pub n72 : Float
n72 = of_bits binary64 0x4052000000000000

abbrev pub n110 : Float
n110 = of_bits binary64 0x405b800000000000

abbrev pub n156 : Float
n156 = of_bits binary64 0x4063800000000000

abbrev pub n210 : Float
n210 = of_bits binary64 0x406a400000000000

abbrev pub n272 : Float
n272 = of_bits binary64 0x4071000000000000

abbrev pub n342 : Float
n342 = of_bits binary64 0x4075600000000000

abbrev pub n420 : Float
n420 = of_bits binary64 0x407a400000000000

abbrev pub divisors5 : List Float
divisors5 = n42 ∷ n72 ∷ n110 ∷ n156 ∷ n210 ∷ n272 ∷ n342 ∷ n420 ∷ []

whole_numbers :
    AreWhole
    ((n4, 4) ∷ (n24, 24) ∷ (n120, 120)
    ∷ (n30, 30) ∷ (n56, 56) ∷ (n90, 90) ∷ (n132, 132) ∷ (n182, 182) ∷ (n240, 240) ∷ (n306, 306) ∷ (n380, 380)
    ∷ (n42, 42) ∷ (n72, 72) ∷ (n110, 110) ∷ (n156, 156) ∷ (n210, 210) ∷ (n272, 272) ∷ (n342, 342) ∷ (n420, 420)
    ∷ [])
unfolding of_bits of_int
whole_numbers =
    (refl, (refl, (refl, (refl, (refl, (refl, (refl, (refl, (refl, (refl, (refl, (refl, (refl, (refl, (refl, (refl, (refl, (refl, (refl, tt)))))))))))))))))))
