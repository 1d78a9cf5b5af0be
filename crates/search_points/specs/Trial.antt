-- One trial point (document 01, "The search"): a place, its anomaly, and its sort.
use Rattle.std.specs.Prelude.{ℕ, Bool, leb, ltb, eqb, Float}
use Rattle.std.specs.Float.{nan, binary64}
use Rattle.std.specs.Float.Ieee.{neg, lt, eq, ne, of_bits}
use Rattle.bits.specs.Choice.{pick}
use Rattle.bits.specs.Arithmetic.{n0, is_finite}
use Rattle.bits.specs.Words.{infinity, minus_zero}
use Rattle.series.specs.Series.{first_l, coefficients_of, sums_of}
use Rattle.series.specs.declared.figures.Anomaly.{Anomaly}
use Rattle.series.specs.declared.figures.Seconds.{Seconds}
use Rattle.series.specs.declared.figures.Sums.{Sums}
use Rattle.search_points.specs.declared.figures.Initial.{Initial}
use Rattle.search_points.specs.declared.figures.Sort.{Sort}
use Rattle.search_points.specs.declared.figures.Sort.TheVariants.{Short, Past, Exact, Unreadable}
use Rattle.search_points.specs.declared.figures.Trial.{Trial}
use Rattle.search_points.specs.Residual.{time_error_of, terms_of}

-- "ψ has the sign of τ." The places from 2047·2^52 on are no finite double's.
unfoldable pub anomaly_at : Seconds → ℕ → Anomaly
anomaly_at tau place =
    record { 0 = pick (leb infinity place) nan (pick (lt tau.0 n0) (neg (of_bits binary64 place)) (of_bits binary64 place)) }

-- "has the sign of τ", of the word of a double: the sign bit is set exactly where τ is below zero.
abbrev pub has_sign : Seconds → (word : ℕ) → Bool
has_sign tau word = pick (lt tau.0 n0) (leb minus_zero word) (ltb word minus_zero)

-- "R NaN: unreadable; R = 0: exact; R with the sign opposite to τ: short; else past. An infinite R counts by its sign."
unfoldable pub sort_of : Seconds → Float → Sort
sort_of tau error =
    pick (ne error error) Unreadable
    (pick (eq error n0) Exact
    (pick (pick (lt tau.0 n0) (lt n0 error) (lt error n0)) (Short error)
    (Past error)))

-- A point sorted without an evaluation has no radius; nothing asks for it there.
abbrev pub unevaluated : Sort → Trial
unevaluated sort = record { sort = sort; terms = record { c0 = n0; s1 = n0; s2 = n0 } }

-- The point of ψ by its c0 and its sums, with what its radius is made of.
abbrev pub trial_of : Initial → Seconds → (c0 : Float) → Sums → Trial
trial_of i tau c0 s = record { sort = sort_of tau (time_error_of i tau s); terms = terms_of c0 s }

-- "L not finite": unreadable.
unfoldable pub evaluated_at : Initial → Seconds → Anomaly → Trial
evaluated_at i tau psi =
    pick (is_finite (first_l i.alpha psi))
    (trial_of i tau (coefficients_of i.alpha psi).c0 (sums_of psi (coefficients_of i.alpha psi)))
    (unevaluated Unreadable)

-- "Each trial point is sorted in this order: place 0 is short; ψ or L not finite, or R NaN: unreadable; .." Place 0 has R = −τ.
-- "A place at or above 2047·2^52 is unreadable."
unfoldable pub trial_at : Initial → Seconds → ℕ → Trial
trial_at i tau place =
    pick (eqb place 0) (unevaluated (Short (neg tau.0)))
    (pick (leb infinity place) (unevaluated Unreadable)
    (evaluated_at i tau (anomaly_at tau place)))
