-- The three proposals of document 01: "The proposals, from the last tried ψ with its R and r, are ψ−R/r; then ψ·(1−R/τ); then a−(Ra/(Rb−Ra))·(b−a), with a the
-- short end and b the past end. .. The first that is finite, has the sign of τ and lies strictly between the two places is tried; a zero divisor passes
-- on to the next; if none fits, no proposal is tried in that round."
-- A proposal is a place, where it fits.
use Rattle.std.specs.Prelude.{ℕ, Option, None, Some, Float}
use Rattle.std.specs.Option.{option_or}
use Rattle.std.specs.Float.{binary64}
use Rattle.std.specs.Float.Ieee.{eq, to_bits}
use Rattle.bits.specs.Choice.{pick}
use Rattle.bits.specs.Arithmetic.{◌⊖◌, ◌⊗◌, ◌⊘◌, n0, n1, is_finite}
use Rattle.bits.specs.Words.{place_of}
use Rattle.series.specs.declared.figures.Seconds.{Seconds}
use Rattle.search_points.specs.declared.figures.Initial.{Initial}
use Rattle.search_points.specs.Residual.{radius_of}
use Rattle.search_points.specs.Trial.{anomaly_at, has_sign}
use Rattle.search_rule.specs.declared.pair.End.{End}
use Rattle.search_rule.specs.declared.pair.Pair.{Pair}
use Rattle.search_rule.specs.Rule.{Proposal, is_inside}

-- "lies strictly between the two places"
abbrev pub inside_of : Pair → ℕ → Option ℕ
inside_of s place = pick (is_inside s place) (Some place) None

-- "finite, has the sign of τ and lies strictly between the two places"
unfoldable pub offered_at : Seconds → Pair → Float → Option ℕ
offered_at tau s x = pick (is_finite x) (pick (has_sign tau (to_bits binary64 x)) (inside_of s (place_of x)) None) None

-- The last tried ψ and its R: one of the two ends.
abbrev pub last_tried : Pair → End
last_tried s = pick s.last_is_past s.past s.short

-- "ψ−R/r"
abbrev pub by_radius_from : Seconds → Pair → (last : End) (r : Float) → Option ℕ
by_radius_from tau s last r = pick (eq r n0) None (offered_at tau s ((anomaly_at tau last.place).0 ⊖ last.error ⊘ r))

unfoldable pub by_radius : Initial → Seconds → Pair → Option ℕ
by_radius i tau s = by_radius_from tau s (last_tried s) (radius_of i s.terms)

-- "ψ·(1−R/τ)"
abbrev pub by_interval_from : Seconds → Pair → (last : End) → Option ℕ
by_interval_from tau s last = pick (eq tau.0 n0) None (offered_at tau s ((anomaly_at tau last.place).0 ⊗ (n1 ⊖ last.error ⊘ tau.0)))

unfoldable pub by_interval : Seconds → Pair → Option ℕ
by_interval tau s = by_interval_from tau s (last_tried s)

-- "a−(Ra/(Rb−Ra))·(b−a)"
abbrev pub by_ends_with : Seconds → Pair → (a ra b rb : Float) → Option ℕ
by_ends_with tau s a ra b rb = pick (eq (rb ⊖ ra) n0) None (offered_at tau s (a ⊖ (ra ⊘ (rb ⊖ ra)) ⊗ (b ⊖ a)))

unfoldable pub by_ends : Seconds → Pair → Option ℕ
by_ends tau s = by_ends_with tau s (anomaly_at tau s.short.place).0 s.short.error (anomaly_at tau s.past.place).0 s.past.error

-- "passes on to the next": the first that fits.
unfoldable pub proposed : Initial → Seconds → Pair → Option ℕ
proposed i tau s = option_or (by_radius i tau s) (option_or (by_interval tau s) (by_ends tau s))

-- As a proposal of the rule: it looks at the pair alone, which has the last tried point.
abbrev pub three_proposals : Initial → Seconds → Proposal
three_proposals i tau round tried s = proposed i tau s
