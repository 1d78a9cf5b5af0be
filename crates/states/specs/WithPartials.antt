-- Document 01, "Refusals in order of checking", for the call with partials: refusal 1 before all others, and 8 by the partials' own divisors and figures.
use Rattle.std.specs.Prelude.{not, List, ℕ, eqb, length, Result, Ok, Err}
use Rattle.bits.specs.Choice.{pick}
use Rattle.bits.specs.declared.refusal.Refusal.{Refusal}
use Rattle.bits.specs.declared.refusal.Refusal.TheVariants.{PartialsLength}
use Rattle.search_proposals.specs.Proposals.{three_proposals}
use Rattle.search.specs.Search.{Proposing}
use Rattle.states_arcs.specs.Results.{ended_of}
use Rattle.states_arcs.specs.declared.figures.Arc.{Arc}
use Rattle.states_arcs.specs.declared.figures.Results.{Results}
use Rattle.states_partials.specs.Partials.{partials_refusal, lent_after}
use Rattle.states_revolutions.specs.Revolutions.{interval_of}
use Rattle.states.specs.Call.{Reaching, Answering, Parting, refused, answered, searching, reached_words_by}

-- The answer, and what the lent run holds afterwards. Where nothing else is refused, refusal 8 by the partials' own divisors and figures.
abbrev pub written : (points : ℕ) → Results → Result (Unit {0}) Refusal → Answering
written n r (Err k) = refused k n
written n r (Ok u) = answered n r

unfoldable pub with_partials : Arc → (points : ℕ) → Results → List ℕ → Answering
with_partials arc n r run = written n r (partials_refusal arc run)

abbrev pub ended_with : Arc → (points : ℕ) → Result Results Refusal → List ℕ → Answering
ended_with arc n (Err k) run = refused k n
ended_with arc n (Ok r) run = with_partials arc n r run

abbrev pub lent_ended : Arc → Result Results Refusal → List ℕ → List ℕ
lent_ended arc (Err k) run = run
lent_ended arc (Ok r) run = lent_after arc run

abbrev pub partials_from : Reaching → List ℕ → Answering
partials_from (Err r) run = Err r
partials_from (Ok x) run = ended_with x.arc x.points (ended_of x.arc) run

abbrev pub lent_from : Reaching → List ℕ → List ℕ
lent_from (Err r) run = run
lent_from (Ok x) run = lent_ended x.arc (ended_of x.arc) run

-- Refusal 1, before all others: "partials are asked for and the lent run isn't exactly 36 long".
unfoldable pub partials_by : Parting → Proposing → List ℕ → List ℕ → Answering
partials_by pt pr words run = pick (not (eqb (length run) 36)) (refused PartialsLength 0) (partials_from (reached_words_by pt (searching pr) words) run)

unfoldable pub lent_by : Parting → Proposing → List ℕ → List ℕ → List ℕ
lent_by pt pr words run = pick (not (eqb (length run) 36)) run (lent_from (reached_words_by pt (searching pr) words) run)

-- The same by T-04's rule and the three proposals of document 01.
abbrev pub partials_of : List ℕ → List ℕ → Answering
partials_of = partials_by interval_of three_proposals

abbrev pub lent_of : List ℕ → List ℕ → List ℕ
lent_of = lent_by interval_of three_proposals
