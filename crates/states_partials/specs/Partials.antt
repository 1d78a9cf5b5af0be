-- Document 01: "The 36 partials go to a lent run", as words, with the partials' part of refusals 1 and 8, and what T-04 adds to 8.
use Rattle.std.specs.Prelude.{not, List, ℕ, eqb, length, Result, Ok, Err}
use Rattle.bits.specs.Words.{words_of}
use Rattle.bits.specs.Runs.{has}
use Rattle.bits.specs.declared.runs.Sought.TheVariants.{Zero, NotFinite}
use Rattle.bits.specs.declared.refusal.Refusal.{Refusal}
use Rattle.bits.specs.declared.refusal.Refusal.TheVariants.{PartialsLength, EndNotFinite}
use Rattle.bits.specs.Choice.{pick}
use Rattle.states_arcs.specs.declared.figures.Arc.{Arc}
use Rattle.states_partials.specs.U.{u_refused}
use Rattle.states_partials.specs.Matrix.{matrix_divisors}
use Rattle.states_partials.specs.Entries.{entries_of}

-- Refusal 1: "the lent run isn't exactly 36 long". Refusal 8, of "the partials' own divisors and figures".
unfoldable pub partials_refusal : Arc → List ℕ → Result (Unit {0}) Refusal
partials_refusal arc run =
    pick (not (eqb (length run) 36)) (Err PartialsLength)
    (pick (has Zero (words_of (matrix_divisors arc.start.initial.r0 arc.r))) (Err EndNotFinite)
    (pick (u_refused arc) (Err EndNotFinite)
    (pick (has NotFinite (words_of (entries_of arc))) (Err EndNotFinite)
    (Ok tt))))

-- What the lent run holds afterwards: all of the partials or none.
abbrev pub lent_by : Result (Unit {0}) Refusal → Arc → List ℕ → List ℕ
lent_by (Ok u) arc run = words_of (entries_of arc)
lent_by (Err r) arc run = run

unfoldable pub lent_after : Arc → List ℕ → List ℕ
lent_after arc run = lent_by (partials_refusal arc run) arc run
