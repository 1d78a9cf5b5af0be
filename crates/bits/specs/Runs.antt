-- Runs of words. A double crosses every border as its word, so a run of figures or divisors is searched as words (refusals 31 to 38, 4 and 8).
use Rattle.std.specs.Prelude.{Bool, true, false, not, ◌||◌, ◌&&◌, List, [], ◌∷◌, ℕ, ◌+◌, T, eqb, ltb, Float, length}
use Rattle.std.specs.Float.{binary64}
use Rattle.std.specs.Float.Ieee.{eq, fits, of_bits}
use Rattle.bits.specs.Choice.{pick}
use Rattle.bits.specs.Arithmetic.{n0, is_finite}
use Rattle.bits.specs.declared.runs.Sought.{Sought}
use Rattle.bits.specs.declared.runs.Sought.TheVariants as sought

-- "is zero", of either sign; "isn't finite".
abbrev pub is_sought_double : Sought → Float → Bool
is_sought_double sought.Zero x = eq x n0
is_sought_double sought.NotFinite x = not (is_finite x)

abbrev pub is_sought : Sought → ℕ → Bool
is_sought s word = is_sought_double s (of_bits binary64 word)

-- The number, from 0, of the first word that is sought; the length of a run that has none.
unfoldable pub first_of : Sought → List ℕ → ℕ
first_of s [] = 0
first_of s (w ∷ ws) = pick (is_sought s w) 0 (1 + first_of s ws)

-- "any of", "a divisor", "a figure": the run has one.
unfoldable pub has : Sought → List ℕ → Bool
has s words = ltb (first_of s words) (length words)

-- The same for doubles as numbers: whether one of them is sought. `sought_words` says that a run of their words has one exactly then.
unfoldable pub any_sought : Sought → List Float → Bool
any_sought s [] = false
any_sought s (x ∷ xs) = is_sought_double s x || any_sought s xs

-- Doubles that are binary64's, as every result of an operation is.
abbrev pub AllFit : List Float → Type 0
AllFit [] = Unit {0}
AllFit (x ∷ xs) = T (fits binary64 x) × AllFit xs

-- What a run holds after words were copied to it: the words, where it is as long, else its own.
unfoldable pub copied : (words run : List ℕ) → List ℕ
copied words run = pick (eqb (length run) (length words)) words run

-- Whether two runs have the same words and the same length; `same_words_lem` says that they are one run exactly then. Words are compared, not
-- doubles: zeros of different signs differ.
unfoldable pub same_words : (one other : List ℕ) → Bool
same_words [] [] = true
same_words [] (w ∷ ws) = false
same_words (v ∷ vs) [] = false
same_words (v ∷ vs) (w ∷ ws) = eqb v w && same_words vs ws
