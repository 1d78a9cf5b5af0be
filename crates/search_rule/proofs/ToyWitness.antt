-- What the rule's theorems ask for can be had: a trial function that is short by 2 below place 8, past by 1 from there to 2 ^ 63, and unreadable from there on.
use Prim.Native.Nat.{ℕ, ◌^◌, ◌<◌, ◌≤◌}
use mathlib.Core.Path.{◌≡◌, refl, ap, subst, sym, ◌∙◌}
use mathlib.Core.Bool.{Bool, true, false}
use native.Mathlib.Omega.{arith}
use borrow.Author.Tests.{lt-ltb, le-ltb, ltb-true, ltb-false}
use lib.Dec.{ltb}
use Rattle.bits.specs.Choice.{pick}
use lib.Ieee.{lt, of_bits}
use Rattle.bits.specs.Arithmetic.{n1, n2}
use Rattle.search_points.specs.declared.figures.Sort.{Sort}
use Rattle.search_points.specs.declared.figures.Sort.TheVariants.{Short, Past, Exact, Unreadable}
use Rattle.search_points.specs.Trial.{unevaluated}
use Rattle.search_rule.specs.declared.pair.End.{End}
use Rattle.search_rule.specs.Rule.{Trials, Proposal, Ending, between, exact, unreadable, all_short, history, ending_of}
use Rattle.search_rule.specs.Nearer.{is_smaller}
use Rattle.search_rule.specs.RulePromise.{Sorts, IsShort, out_point, Findable, IsFound, IsAnswer}
use Rattle.search_rule.proofs.Reach.{finds}
use Rattle.search_rule.proofs.Nearest.{chosen_so}

abbrev pub toy_sort : ℕ → Sort
toy_sort p = pick (ltb p 8) (Short n2) (pick (ltb p (2 ^ 63)) (Past n1) Unreadable)

abbrev pub toy : Trials
toy p = unevaluated (toy_sort p)

short_at : (p : ℕ) → p < 8 → toy_sort p ≡ Short n2
short_at p h = rw (lt-ltb p 8 h)

past_at : (p : ℕ) → 8 ≤ p → p < 2 ^ 63 → toy_sort p ≡ Past n1
past_at p h l = rw (le-ltb p 8 h, lt-ltb p (2 ^ 63) l)

top_at : (p : ℕ) → 2 ^ 63 ≤ p → toy_sort p ≡ Unreadable
top_at p h = let e : 8 ≤ p = omega arith in rw (le-ltb p 8 e, le-ltb p (2 ^ 63) h)

-- And what a sort says of its place.
abbrev Says : (p : ℕ) → Sort → Type 0
Says p (Short r) = (p < 8) × (r ≡ n2)
Says p (Past r) = (8 ≤ p) × (r ≡ n1)
Says p Exact = ⊥
Says p Unreadable = 2 ^ 63 ≤ p

says : (p : ℕ) {v : Sort} → toy_sort p ≡ v → Says p v
says p e = subst (Says p) e (go (ltb p 8) (ltb p (2 ^ 63)) refl refl)
  where
    go : (a b : Bool) → ltb p 8 ≡ a → ltb p (2 ^ 63) ≡ b → Says p (pick a (Short n2) (pick b (Past n1) Unreadable))
    go true b f g = (ltb-true p 8 f, refl)
    go false true f g = (ltb-false p 8 f, refl)
    go false false f g = ltb-false p (2 ^ 63) g

pub toy_sorts : Sorts toy n2
toy_sorts = record { zero_short = short_at 0 (omega arith); top_unreadable = top_at }

-- From place 1 on, the second outward point is the first that isn't short.
one_short : (i : ℕ) → i < 1 → IsShort (toy_sort (out_point 1 i))
one_short i h = let e : out_point 1 i < 8 = omega arith in subst IsShort (sym (short_at (out_point 1 i) e)) tt

second_past : IsShort (toy_sort (out_point 1 1)) → ⊥
second_past s = subst IsShort (past_at (out_point 1 1) (omega arith) (omega arith)) s

pub toy_findable : Findable toy 1
toy_findable =
    record {
      k = 1;
      first_not_short = record { among = omega arith; shorts = one_short; not_short = second_past };
      readable = λ q l e. let u = says q e in omega arith;
    }

-- So an anomaly is found there, whatever proposes.
pub toy_found : (pr : Proposal) → IsFound toy (ending_of (history toy pr 1 n2))
toy_found pr = finds toy pr 1 n2 toy_sorts toy_findable

-- And the past end, place 8, is answered: its error is the smaller one.
one_below_two : is_smaller n1 n2 ≡ true
unfolding lt of_bits
one_below_two = refl

toy_answer : (e : Ending) → IsFound toy e → IsAnswer e 8
toy_answer (between s) x =
    let short = says s.short.place x.short_is in
    let past = says s.past.place x.past_is in
    let smaller : is_smaller s.past.error s.short.error ≡ true = rw (short.1, past.1) one_below_two in
    let place : 8 ≡ s.past.place = omega (arith, short.0, past.0, x.adjacent) in
    place ∙ ap (λ (e : End). e.place) (sym ((chosen_so s.short s.past).past_nearer smaller))
toy_answer (exact p) x = absurd (says p x)
toy_answer unreadable x = absurd x
toy_answer all_short x = absurd x

pub toy_answers : (pr : Proposal) → IsAnswer (ending_of (history toy pr 1 n2)) 8
toy_answers pr = toy_answer (ending_of (history toy pr 1 n2)) (toy_found pr)
