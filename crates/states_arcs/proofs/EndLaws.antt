-- What `ended` leaves open, for the call above it.
use mathlib.Core.Path.{◌≡◌, refl}
use mathlib.Core.Bool.{Bool, true, false}
use mathlib.Core.Logic.{◌⊎◌, inl, inr}
use Rattle.std.specs.Prelude.{Ok, Err}
use Rattle.bits.specs.Choice.{pick}
use Rattle.bits.specs.Words.{words_of}
use Rattle.bits.specs.Runs.{has}
use Rattle.bits.specs.declared.runs.Sought.TheVariants.{Zero, NotFinite}
use Rattle.bits.specs.declared.refusal.Refusal.TheVariants.{RadiusNotPositive, EndNotFinite}
use Rattle.states_arcs.specs.Results.{results_of, end_divisors, figures_of, is_not_above, ended_of}
use Rattle.states_arcs.specs.declared.figures.Arc.{Arc}

-- An arc is refused by 7 or 8, or has its results.
pub seven_or_eight : (a : Arc) → (ended_of a ≡ Ok (results_of a)) ⊎ ((ended_of a ≡ Err RadiusNotPositive) ⊎ (ended_of a ≡ Err EndNotFinite))
unfolding ended_of
seven_or_eight a = go (is_not_above a.r) (has Zero (words_of (end_divisors a.start.initial.r0 a.r))) (has NotFinite (words_of (figures_of (results_of a))))
  where
    go : (seven zero bad : Bool) →
        let e = pick seven (Err RadiusNotPositive) (pick zero (Err EndNotFinite) (pick bad (Err EndNotFinite) (Ok (results_of a)))) in
        (e ≡ Ok (results_of a)) ⊎ ((e ≡ Err RadiusNotPositive) ⊎ (e ≡ Err EndNotFinite))
    go true zero bad = inr (inl refl)
    go false true bad = inr (inr refl)
    go false false true = inr (inr refl)
    go false false false = inl refl
