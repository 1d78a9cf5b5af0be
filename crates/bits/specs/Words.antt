-- The words of doubles. Document 01: "Doubles are told apart by exponent field: 0 is zero or subnormal, 1 to 2046 normal, 2047 not finite."
use Rattle.std.specs.Prelude.{ℕ, zero, suc, ◌+◌, ◌*◌, ◌/◌, ◌%◌, ◌^◌, List, map, eqb, leb, Float}
use Rattle.std.specs.Float.{binary64}
use Rattle.std.specs.Float.Ieee.{to_bits}
use Rattle.bits.specs.Choice.{pick}
use Rattle.bits.specs.declared.words.Kind.{Kind}
use Rattle.bits.specs.declared.words.Kind.TheVariants as kind

-- The exponent field and the 52 digits of a word; what is left is its sign bit.
abbrev pub field_of : ℕ → ℕ
field_of w = w % 2 ^ 63 / 2 ^ 52

abbrev pub digits_of : ℕ → ℕ
digits_of w = w % 2 ^ 52

abbrev pub kind_of : ℕ → Kind
kind_of w =
    pick (eqb (field_of w) 0) kind.ZeroOrSubnormal
    (pick (leb (field_of w) 2046) kind.Normal
    kind.NotFinite)

-- The word of plus infinity: the words below it are those of the finite doubles with a clear sign bit, in the order of their values.
abbrev pub infinity : ℕ
infinity = 2047 * 2 ^ 52

-- The word of minus zero: it and all above have their sign bit set.
abbrev pub minus_zero : ℕ
minus_zero = 2 ^ 63

-- A finite double with a clear sign bit as a multiple of the smallest double above zero, 2 ^ -1074, by its exponent field and its digits.
abbrev pub scaled : ℕ → ℕ → ℕ
scaled zero t = t
scaled (suc x) t = (2 ^ 52 + t) * 2 ^ x

unfoldable pub units : ℕ → ℕ
units w = scaled (w / 2 ^ 52) (w % 2 ^ 52)

-- The words of a run of doubles.
abbrev pub words_of : List Float → List ℕ
words_of xs = map (to_bits binary64) xs

-- "Its place is the bits of |ψ| read as a whole number."
abbrev pub place_of : Float → ℕ
place_of x = to_bits binary64 x % 2 ^ 63
