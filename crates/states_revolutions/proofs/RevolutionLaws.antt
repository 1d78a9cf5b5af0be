-- What is known of an interval however many revolutions come off: the whole of it is kept, and where none comes off all of it is searched.
use Rattle.std.proofs.Common.{◌≡◌, Bool, true, false, Option, Some, None, refl, ap}
use lib.Ieee.{Float, eq}
use Rattle.bits.specs.Choice.{pick}
use Rattle.bits.specs.Arithmetic.{◌⊕◌, ◌⊖◌, ◌⊗◌, ◌⊘◌, n0, half}
use Rattle.states_revolutions.specs.Floor.{floor_of}
use Rattle.states_revolutions.specs.Revolutions.{as_it_is, without_n, without_floor, without_revolutions, interval_of}
use Rattle.states_revolutions.specs.declared.figures.WholeInterval.{WholeInterval}
use Rattle.states_revolutions.specs.declared.figures.Revolution.{Revolution}
use Rattle.states_revolutions.specs.declared.figures.Interval.{Interval}

abbrev Parted : WholeInterval → Interval → Type 0
Parted whole d = (d.whole ≡ whole) × (d.off ≡ None → d ≡ as_it_is whole)

as_it_is_lem : (whole : WholeInterval) → Parted whole (as_it_is whole)
unfolding as_it_is
as_it_is_lem whole = (refl, λ e. refl)

without_n_lem : (n : Float) (v : Revolution) (whole : WholeInterval) → Parted whole (without_n n v whole)
unfolding without_n
without_n_lem n v whole = go (eq n n0)
  where
    go : (b : Bool) →
        Parted whole
        (pick b (as_it_is whole)
        (record {
          whole = whole;
          searched = record { 0 = whole.0 ⊖ n ⊗ v.period.0 };
          off = Some (record { 0 = n ⊗ v.anomaly.0 });
        }))
    go true = as_it_is_lem whole
    go false = (refl, λ e. absurd cc)

without_floor_lem : (n : Option Float) (v : Revolution) (whole : WholeInterval) → Parted whole (without_floor n v whole)
without_floor_lem (Some n) v whole = without_n_lem n v whole
without_floor_lem None v whole = as_it_is_lem whole

parted : (c : Option Revolution) (whole : WholeInterval) → Parted whole (interval_of c whole)
unfolding interval_of without_revolutions
parted (Some v) whole = without_floor_lem (floor_of (whole.0 ⊘ v.period.0 ⊕ half)) v whole
parted None whole = as_it_is_lem whole

-- The whole interval is what came in,
pub whole_kept : (c : Option Revolution) (whole : WholeInterval) → (interval_of c whole).whole ≡ whole
whole_kept c whole = (parted c whole).0

-- and "equal to tau where no revolution comes off": then all of it is searched.
pub nothing_off : (c : Option Revolution) (whole : WholeInterval) → (interval_of c whole).off ≡ None → interval_of c whole ≡ as_it_is whole
nothing_off c whole = (parted c whole).1

pub all_searched : (c : Option Revolution) (whole : WholeInterval) → (interval_of c whole).off ≡ None → (interval_of c whole).searched.0 ≡ whole.0
unfolding as_it_is
all_searched c whole e = ap (λ (d : Interval). d.searched.0) (nothing_off c whole e)
