-- Document 01: "Eight doubles come in: μ of any sign, x y z, vx vy vz, and the interval τ." They come as words, in this order.
use Rattle.std.specs.Prelude.{◌≡◌, true, false, List, [], ◌∷◌, ℕ, ◌+◌, ◌<◌, Float, get_or, Result, Ok, Err}
use Rattle.std.specs.Float.{binary64}
use Rattle.std.specs.Float.Ieee.{of_bits}
use Rattle.bits.specs.Choice.{pick}
use Rattle.bits.specs.Arithmetic.{is_finite}
use Rattle.bits.specs.Runs.{first_of, has}
use Rattle.bits.specs.declared.refusal.Refusal.{Refusal}
use Rattle.bits.specs.declared.refusal.Refusal.TheVariants.{
  MuNotFinite,
  XNotFinite,
  YNotFinite,
  ZNotFinite,
  VxNotFinite,
  VyNotFinite,
  VzNotFinite,
  TauNotFinite,
}
use Rattle.bits.specs.declared.runs.Sought.TheVariants.{NotFinite}
use Rattle.states_revolutions.specs.declared.figures.WholeInterval.{WholeInterval}
use Rattle.states_start.specs.declared.figures.Vector.{Vector}
use Rattle.states_start.specs.declared.figures.Orbit.{Orbit}
use Rattle.states_start.specs.declared.figures.Given.{Given}

-- The double of the k-th word, and the vector of the k-th word and the next two.
abbrev pub double_at : List ℕ → ℕ → Float
double_at words k = of_bits binary64 (get_or words k 0)

abbrev pub vector_at : List ℕ → ℕ → Vector
vector_at words k = record { x = double_at words k; y = double_at words (k + 1); z = double_at words (k + 2) }

abbrev pub orbit : List ℕ → Orbit
orbit words = record { mu = double_at words 0; state = record { position = vector_at words 1; velocity = vector_at words 4 } }

-- τ, the whole interval.
abbrev pub interval : List ℕ → WholeInterval
interval words = record { 0 = double_at words 7 }

-- T-05: "Give the first bad one by name, in the order μ, x, y, z, vx, vy, vz, τ." "31 to 38 replace 2, at its place".
abbrev pub figures : List Refusal
figures =
    MuNotFinite ∷ XNotFinite ∷ YNotFinite ∷ ZNotFinite
    ∷ VxNotFinite ∷ VyNotFinite ∷ VzNotFinite ∷ TauNotFinite
    ∷ []

-- The refusal of a figure by its number among the eight, from 0. Its own number is 31 + k: see `figure_number`.
abbrev pub figure_refusal : (k : ℕ) → Refusal
figure_refusal k = get_or figures k TauNotFinite

-- Document 01's refusal 2 was given where "any of the eight is NaN or infinite"; since T-05 it is that of the first such figure. Then there is no orbit.
unfoldable pub read_of : List ℕ → Result Given Refusal
read_of words =
    pick (has NotFinite words) (Err (figure_refusal (first_of NotFinite words))) (Ok (record { orbit = orbit words; whole = interval words }))

-- ---- The same in the documents' words, without a walk over the words. What the calls make of it is `NamesFigure` of crate `states`.

-- Document 01, refusal 2: "any of the eight is NaN or infinite".
pub record AnyBad (words : List ℕ) : Type 0 where
  pub figure : ℕ
  pub one_of_eight : figure < 8
  pub bad : is_finite (double_at words figure) ≡ false

-- T-05: "the first bad one".
pub record FirstBad (words : List ℕ) (figure : ℕ) : Type 0 where
  pub one_of_eight : figure < 8
  pub bad : is_finite (double_at words figure) ≡ false
  pub none_before : (k : ℕ) → k < figure → is_finite (double_at words k) ≡ true
