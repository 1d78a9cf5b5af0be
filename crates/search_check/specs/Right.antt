-- Document 02, T-06: "the anomaly is +0 for zero τ, or otherwise has the sign of τ and is exact, or is the answer T-01 picks from its adjacent pair". The
-- anomaly is any word; τ is the interval that is searched: "T-04's reduction is made first".
use Rattle.std.specs.Prelude.{ℕ, ◌%◌, ◌^◌, ◌≤◌, ◌<◌, ◌≡◌, Bool, true, false, ◌⊎◌, eqb}
use Rattle.std.specs.Float.{binary64}
use Rattle.std.specs.Float.Ieee.{lt, eq, of_bits, to_bits}
use Rattle.bits.specs.Choice.{pick}
use Rattle.bits.specs.Arithmetic.{n0}
use Rattle.bits.specs.Words.{infinity, minus_zero}
use Rattle.series.specs.declared.figures.Anomaly.{Anomaly}
use Rattle.series.specs.declared.figures.Seconds.{Seconds}
use Rattle.search_points.specs.declared.figures.Initial.{Initial}
use Rattle.search_points.specs.Trial.{anomaly_at, has_sign, trial_at}
use Rattle.search_rule.specs.Rule.{Proposal}
use Rattle.search_rule.specs.RulePromise.{IsAnomaly}
use Rattle.search.specs.Search.{found_with, search_by}
use Rattle.search_check.specs.Passing.{passes}

-- "has the sign of τ": the sign bit of the word is set exactly where τ is below zero.
unfoldable pub has_sign_of : Seconds → (word : ℕ) → Bool
has_sign_of tau word = has_sign tau word

-- "Its place is the bits of |ψ| read as a whole number", of a word.
abbrev pub place_in : (word : ℕ) → ℕ
place_in word = word % 2 ^ 63

-- For a τ that is not zero. A place at or above 2047·2^52 is unreadable, and so does not pass.
unfoldable pub is_right_beyond_zero : Initial → Seconds → (word : ℕ) → Bool
is_right_beyond_zero i tau word = pick (has_sign_of tau word) (passes (trial_at i tau) (place_in word)) false

unfoldable pub is_right : Initial → Seconds → (word : ℕ) → Bool
is_right i tau word = pick (eq tau.0 n0) (eqb word 0) (is_right_beyond_zero i tau word)

-- ---- The same in the documents' words, without a test.

pub record HasSign (tau : Seconds) (word : ℕ) : Type 0 where
  pub below : lt tau.0 n0 ≡ true → minus_zero ≤ word
  pub above : lt tau.0 n0 ≡ false → word < minus_zero

-- "+0 for zero τ": τ is a zero of either sign, but the anomaly's sign bit is clear;
pub record RightAtZero (tau : Seconds) (word : ℕ) : Type 0 where
  pub no_interval : eq tau.0 n0 ≡ true
  pub plus_zero : word ≡ 0

-- "or otherwise has the sign of τ and is exact, or is the answer T-01 picks from its adjacent pair".
pub record RightBeyondZero (i : Initial) (tau : Seconds) (word : ℕ) : Type 0 where
  pub interval : eq tau.0 n0 ≡ false
  pub sign : HasSign tau word
  pub anomaly : IsAnomaly (trial_at i tau) (place_in word)

abbrev pub Right : Initial → Seconds → (word : ℕ) → Type 0
Right i tau word = RightAtZero tau word ⊎ RightBeyondZero i tau word

pub record RightSo (i : Initial) (tau : Seconds) (word : ℕ) : Type 0 where
  pub only : is_right i tau word ≡ true → Right i tau word
  pub all : Right i tau word → is_right i tau word ≡ true

abbrev pub RightExactly : Type 0
RightExactly = (i : Initial) (tau : Seconds) (word : ℕ) → RightSo i tau word

-- A right anomaly is a finite double; where τ is not zero, it is the ψ of its place, with the sign of τ.
pub record RightIs (i : Initial) (tau : Seconds) (word : ℕ) : Type 0 where
  pub readable : place_in word < infinity
  pub at_place : eq tau.0 n0 ≡ false → record { 0 = of_bits binary64 word } ≡ anomaly_at tau (place_in word)

abbrev pub RightMeans : Type 0
RightMeans = (i : Initial) (tau : Seconds) (word : ℕ) → word < 2 ^ 64 → Right i tau word → RightIs i tau word

-- ---- "Every row we ourselves answer must be accepted": what a search finds, whatever formula proposes its inner points, is right, and the double of its word.
pub record FoundRight (i : Initial) (tau : Seconds) (psi : Anomaly) : Type 0 where
  pub right : Right i tau (to_bits binary64 psi.0)
  pub same : record { 0 = of_bits binary64 (to_bits binary64 psi.0) } ≡ psi

abbrev pub FindsRight : Type 0
FindsRight = (pr : Proposal) (i : Initial) (tau : Seconds) (h psi : Anomaly) (n : ℕ) → search_by pr i tau h ≡ found_with psi n → FoundRight i tau psi
