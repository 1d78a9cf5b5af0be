-- Document 01: "Every operation rounds once, to nearest, ties to even."
-- `lib.Ieee` is the logic's account of IEEE 754; these are its operations at binary64, written as their usual signs in a circle, so that a formula here can be
-- held beside the document's. The signs bind and group as there: `⊗` and `⊘` before `⊕` and `⊖`, each from the left.
-- A constant is given by its bit pattern, as the code's literal is; `whole_numbers` says that each is the number that its name says.
use Rattle.std.specs.Prelude.{◌≡◌, refl, Bool, false, List, [], ◌∷◌, ℕ, pos, Float}
use Rattle.std.specs.Float.{nan, inf, fin, binary64}
use Rattle.std.specs.Float.Ieee.{add, sub, mul, div, of_bits, of_int}
use Rattle.std.specs.Float.Ieee.Scale.{finite}

infixl 6 ◌⊕◌ ◌⊖◌
infixl 7 ◌⊗◌ ◌⊘◌
abbrev pub ◌⊕◌ : Float → Float → Float
x ⊕ y = add binary64 x y

abbrev pub ◌⊖◌ : Float → Float → Float
x ⊖ y = sub binary64 x y

abbrev pub ◌⊗◌ : Float → Float → Float
x ⊗ y = mul binary64 x y

abbrev pub ◌⊘◌ : Float → Float → Float
x ⊘ y = div binary64 x y

-- The constants that more than one layer uses.
abbrev pub n0 : Float
n0 = of_bits binary64 0x0000000000000000

abbrev pub half : Float
half = of_bits binary64 0x3fe0000000000000

abbrev pub n1 : Float
n1 = of_bits binary64 0x3ff0000000000000

abbrev pub n2 : Float
n2 = of_bits binary64 0x4000000000000000

abbrev pub n6 : Float
n6 = of_bits binary64 0x4018000000000000

-- Neither a NaN nor an infinity.
abbrev pub is_finite : Float → Bool
is_finite x = finite x

-- |x|
abbrev pub magnitude : Float → Float
magnitude nan = nan
magnitude (inf s) = inf false
magnitude (fin s m e) = fin false m e

-- Each constant of a list is the whole number that stands beside it.
abbrev pub AreWhole : List (Float × ℕ) → Type 0
AreWhole [] = Unit {0}
AreWhole (c ∷ cs) = (c.0 ≡ of_int binary64 (pos c.1)) × AreWhole cs

whole_numbers : AreWhole ((n0, 0) ∷ (n1, 1) ∷ (n2, 2) ∷ (n6, 6) ∷ [])
unfolding of_bits of_int
whole_numbers = (refl, (refl, (refl, (refl, tt))))

half_is_half : half ≡ n1 ⊘ n2
unfolding of_bits div
half_is_half = refl
