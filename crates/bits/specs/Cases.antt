-- Some roots, evaluated from the definitions. Document 01's marked ones are in the table of crate `files_results`.
use Rattle.std.specs.Prelude.{◌≡◌, refl, ℕ}
use Rattle.std.specs.Float.Ieee.{of_bits, to_bits, div}
use Rattle.bits.specs.Arithmetic.{n1, n2, ◌⊘◌}
use Rattle.bits.specs.Words.{minus_zero}
use Rattle.bits.specs.Root.{root_refusal_of, root_word_of, root_of, root_refusal}

-- A word, the refusal and the root's word.
abbrev pub Gives : ℕ → ℕ → ℕ → Type 0
Gives word refusal root = (root_refusal_of word ≡ refusal) × (root_word_of word ≡ root)

-- The root of either zero is +0; the nearest double to the root of 2, as any table has it; the root of the largest double is 2^512 less one digit;
-- an infinity and a NaN are refused.
plus_zero : Gives 0 0 0
unfolding root_word_of
plus_zero = (refl, refl)

minus_zero_lem : Gives minus_zero 0 0
unfolding root_word_of
minus_zero_lem = (refl, refl)

two : Gives 0x4000_0000_0000_0000 0 0x3ff6_a09e_667f_3bcd
unfolding root_word_of
two = (refl, refl)

largest : Gives 0x7fef_ffff_ffff_ffff 0 0x5fef_ffff_ffff_ffff
unfolding root_word_of
largest = (refl, refl)

-- Subnormals by their leading zeros: the second from zero, whose power is odd, so that its root has the digits of the root of 2; 2^-1048; the largest,
-- 2^-1022 less one digit. Beside them 2^-1022, the first normal number.
second_from_zero : Gives 2 0 0x1e66_a09e_667f_3bcd
unfolding root_word_of
second_from_zero = (refl, refl)

middle_subnormal : Gives 0x0000_0000_0400_0000 0 0x1f30_0000_0000_0000
unfolding root_word_of
middle_subnormal = (refl, refl)

largest_subnormal : Gives 0x000f_ffff_ffff_ffff 0 0x1fff_ffff_ffff_ffff
unfolding root_word_of
largest_subnormal = (refl, refl)

first_normal : Gives 0x0010_0000_0000_0000 0 0x2000_0000_0000_0000
unfolding root_word_of
first_normal = (refl, refl)

infinite : Gives 0x7ff0_0000_0000_0000 9 0
unfolding root_word_of
infinite = (refl, refl)

nan : Gives 0x7ff8_0000_0000_0000 9 0
unfolding root_word_of
nan = (refl, refl)

-- The same for a double as a number: the root of 1/2 divided by 2 is 1/2.
quarter : (root_refusal (n1 ⊘ n2 ⊘ n2) ≡ 0) × (root_of (n1 ⊘ n2 ⊘ n2) ≡ n1 ⊘ n2)
unfolding root_of of_bits to_bits div
quarter = (refl, refl)
