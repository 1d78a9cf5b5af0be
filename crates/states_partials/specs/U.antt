-- U: document 01, "Results and partials", where no revolution came off; document 02, T-04, where some did. "U must use the whole interval", in both.
use Rattle.std.specs.Prelude.{Bool, false, refl, List, [], ◌∷◌, Float, Option, Some, None}
use Rattle.std.specs.Float.{binary64}
use Rattle.std.specs.Float.Ieee.{eq, of_bits, of_int}
use Rattle.bits.specs.Choice.{pick}
use Rattle.bits.specs.Arithmetic.{◌⊕◌, ◌⊖◌, ◌⊗◌, ◌⊘◌, n0, n2, n6, AreWhole}
use Rattle.bits.specs.Words.{words_of}
use Rattle.bits.specs.Runs.{has}
use Rattle.bits.specs.declared.runs.Sought.TheVariants.{NotFinite}
use Rattle.series.specs.declared.figures.Anomaly.{Anomaly}
use Rattle.states_arcs.specs.declared.figures.Arc.{Arc}
use Rattle.states_partials.specs.declared.u.WholeAnomaly.{WholeAnomaly}
use Rattle.states_partials.specs.declared.u.WholeSums.{WholeSums}

abbrev pub n3 : Float
n3 = of_bits binary64 0x4008000000000000

whole_number : AreWhole ((n3, 3) ∷ [])
unfolding of_bits of_int
whole_number = (refl, tt)

-- ---- No revolution came off: "U = s2·τ + (μ·(c4−3·c5))·((((ψ·ψ)·ψ)·ψ)·ψ)"
unfoldable pub u_at_found : Arc → Float
u_at_found a =
    let psi = a.psi.0 in
    a.s.s2 ⊗ a.interval.whole.0 ⊕ (a.start.initial.mu ⊗ (a.c.c4 ⊖ n3 ⊗ a.c.c5)) ⊗ ((((psi ⊗ psi) ⊗ psi) ⊗ psi) ⊗ psi)

-- ---- Some came off. "whole anomaly ψ+n·Q"; "if that interval is zero, ψ is +0 with no points, and the whole anomaly is n·Q"
unfoldable pub whole_anomaly_of : Arc → (off : Anomaly) → WholeAnomaly
whole_anomaly_of a off = record { 0 = pick (eq a.interval.searched.0 n0) off.0 (a.psi.0 ⊕ off.0) }

-- "s4 = (s2−(ψ·ψ)/2)/α and s5 = (s3−((ψ·ψ)·ψ)/6)/α, s3 = (s1−ψ)/α, with the whole ψ throughout, but in U and here s1 and s2 are those found at the reduced ψ"
unfoldable pub whole_sums_of : Arc → WholeAnomaly → WholeSums
whole_sums_of a w =
    let alpha = a.start.initial.alpha in
    let psi = w.0 in
    let s3 = (a.s.s1 ⊖ psi) ⊘ alpha in
    record { psi = w; s3 = s3; s4 = (a.s.s2 ⊖ (psi ⊗ psi) ⊘ n2) ⊘ alpha; s5 = (s3 ⊖ ((psi ⊗ psi) ⊗ psi) ⊘ n6) ⊘ alpha }

-- "its second term becomes μ·(ψ·s4−3·s5)"
unfoldable pub u_at_whole : Arc → WholeSums → Float
u_at_whole a w = a.s.s2 ⊗ a.interval.whole.0 ⊕ a.start.initial.mu ⊗ (w.psi.0 ⊗ w.s4 ⊖ n3 ⊗ w.s5)

-- "a whole ψ, s3, s4, s5 or U"
abbrev pub u_figures : Arc → WholeSums → List Float
u_figures a w = w.psi.0 ∷ w.s3 ∷ w.s4 ∷ w.s5 ∷ u_at_whole a w ∷ []

-- ---- By what came off.
abbrev pub sums_with : Arc → (off : Anomaly) → WholeSums
sums_with a off = whole_sums_of a (whole_anomaly_of a off)

abbrev pub sums_by : Option Anomaly → Arc → Option WholeSums
sums_by (Some n) a = Some (sums_with a n)
sums_by None a = None

unfoldable pub sums_at_whole : Arc → Option WholeSums
sums_at_whole a = sums_by a.interval.off a

abbrev pub u_by : Option WholeSums → Arc → Float
u_by (Some w) a = u_at_whole a w
u_by None a = u_at_found a

unfoldable pub u_of : Arc → Float
u_of a = u_by (sums_at_whole a) a

-- "Refusals: 8 also for a whole ψ, s3, s4, s5 or U that isn't finite, when partials are asked for."
abbrev pub u_refused_by : Option WholeSums → Arc → Bool
u_refused_by (Some w) a = has NotFinite (words_of (u_figures a w))
u_refused_by None a = false

unfoldable pub u_refused : Arc → Bool
u_refused a = u_refused_by (sums_at_whole a) a
