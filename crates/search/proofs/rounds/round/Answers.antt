-- The proposed point first, where one fits; then the halving place, where that left a pair.
use Prim.Native.Nat.{ℕ}
use mathlib.Core.Path.{◌≡◌, sym, ◌∙◌}
use native.Mathlib.Omega.{arith}
use Rattle.series.specs.declared.figures.Seconds.{Seconds}
use Rattle.search_points.specs.declared.figures.Initial.{Initial}
use Rattle.search_points.specs.Trial.{trial_at}
use Rattle.search_rule.specs.declared.pair.Pair.{Pair}
use Rattle.search_rule.specs.declared.pair.Next.{Next}
use Rattle.search_rule.specs.Rule.{halving, round, counted, tried_first}
use Rattle.search_rule.proofs.Turns.{after, between_used, handed_on, round_turn, first_points}
use Rattle.search_proposals.specs.Proposals.{proposed}
use Rattle.search_proposals.proofs.Fits.{proposed_fits}
use Rattle.search.specs.Search.{round_at}
use Rattle.search.proofs.rounds.round.Goals as goal

begun : (i : Initial) (tau : Seconds) (s : Pair) (n : ℕ) {first : Next} → first ≡ counted n (tried_first (trial_at i tau) s (proposed i tau s))
    → after first (halving (trial_at i tau)) ≡ counted n (round_at i tau s)
unfolding round
begun i tau s n e = round_turn (trial_at i tau) n s (proposed i tau s) (proposed_fits s i tau) e

pub halved-requires : goal.halved-requires
halved-requires c =
    let used = between_used _ _ _ c.proposed-first.ensures c.in-Between.is in
    omega (arith, used, first_points (trial_at c.args.passage.initial c.args.passage.tau) c.args.pair (proposed c.args.passage.initial c.args.passage.tau c.args.pair))

pub returns-in-Between : goal.returns-in-Between
returns-in-Between c = c.halved.ensures ∙ begun _ _ _ _ (sym c.in-Between.is ∙ c.proposed-first.ensures)

pub returns-in_default : goal.returns-in_default
returns-in_default c = handed_on _ _ c.in_default.not-Between ∙ begun _ _ _ _ c.proposed-first.ensures
