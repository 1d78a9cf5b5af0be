-- The two refusals of the search, for any trial function and any proposal: it ends with all outward points short exactly when they are, and with an unreadable
-- point exactly when one was tried, which is then the last.
use Prim.Native.Nat.{ℕ, zero, suc, ◌+◌, ◌^◌}
use mathlib.Core.Path.{◌≡◌, refl, ap, subst}
use mathlib.Core.List.{List, [], ◌∷◌, ◌++◌}
use mathlib.Core.Logic.{◌⊎◌, inl, inr, ⊎_elim, ◌↔◌}
use native.Mathlib.Decide.{dec_lt}
use native.Mathlib.Omega.{arith}
use lib.Ieee.{Float}
use Rattle.search_points.specs.declared.figures.Sort.{Sort}
use Rattle.search_points.specs.declared.figures.Sort.TheVariants.{Short, Past, Exact, Unreadable}
use Rattle.search_points.specs.declared.figures.Trial.{Trial}
use Rattle.search_rule.specs.declared.pair.End.{End}
use Rattle.search_rule.specs.declared.pair.Pair.{Pair}
use Rattle.search_rule.specs.Rule.{Point, Trials, point_at, Proposal, Ending, between, exact, unreadable, all_short, History, tries, ends, points_in}
use Rattle.search_rule.specs.Rule.{ending_of, Sequel, onward, end_at, outward_by, going_on, outward, outward_part, moved_by, attempt, gap, is_wide, halfway}
use Rattle.search_rule.specs.Rule.{halving, round, inward, history}
use Rattle.search_rule.specs.RulePromise.{IsShort, out_point, ShortBefore, AllOutwardShort, FirstNotShort, EndsSo, SomeUnreadable, LastUnreadable}
use Rattle.search_rule.proofs.Counts.{points, pick_holds, round_holds}
use Rattle.search_rule.proofs.Rounds.{NoWider, inward_no_wider, is_short_lem}
use Rattle.search_rule.proofs.Reach.{out_point-zero, out_point-suc, on_short, history_reached, found}

-- ---- All outward points short.
abbrev NotAllShort : Ending → Type 0
NotAllShort (between s) = Unit {0}
NotAllShort (exact p) = Unit {0}
NotAllShort unreadable = Unit {0}
NotAllShort all_short = ⊥

-- All of n are short: the part ends so after n points, and no other follows.
outward_short : (ev : Trials) (n place : ℕ) (short : End) (tried : List Point) (f : Sequel) → ShortBefore ev place n
    → (ending_of (onward tried (outward ev n place short) f) ≡ all_short) × (points (onward tried (outward ev n place short) f) ≡ n)
unfolding ending_of points_in onward outward
outward_short ev zero place short tried f h = (refl, refl)
outward_short ev (suc n) place short tried f h =
    let o = on_short (ev place).sort short place (ev place) (outward ev n (place + 2 ^ 52)) (rw (out_point-zero place) at (h 0 (omega arith))) in
    let later : ShortBefore ev (place + 2 ^ 52) n = λ i l. rw (← out_point-suc place i) (h (suc i) (omega arith)) in
    let x = outward_short ev n (place + 2 ^ 52) (end_at place o.0) (tried ++ (point_at ev place ∷ [])) f later in
    rw o.2 (x.0, ap suc x.1)

-- An outward point from which it ends so is short.
short_step : (v : Sort) (short : End) (place : ℕ) (t : Trial) (next : End → History) → ending_of (going_on (outward_by v short place t) next) ≡ all_short
    → (r : Float) × (v ≡ Short r) × (ending_of (next (end_at place r)) ≡ all_short)
unfolding ending_of
short_step (Short r) short place t next e = (r, refl, e)
short_step (Past r) short place t next e = absurd (subst NotAllShort e tt)
short_step Exact short place t next e = absurd (subst NotAllShort e tt)
short_step Unreadable short place t next e = absurd (subst NotAllShort e tt)

short_outward : (ev : Trials) (n place : ℕ) (short : End) → ending_of (outward ev n place short) ≡ all_short → ShortBefore ev place n
unfolding ending_of outward
short_outward ev zero place short e i l = absurd (omega arith)
short_outward ev (suc n) place short e zero l =
    let x = short_step (ev place).sort short place (ev place) (outward ev n (place + 2 ^ 52)) e in
    rw (out_point-zero place, x.1) tt
short_outward ev (suc n) place short e (suc i) l =
    let x = short_step (ev place).sort short place (ev place) (outward ev n (place + 2 ^ 52)) e in
    rw (out_point-suc place i) (short_outward ev n (place + 2 ^ 52) (end_at place x.0) x.2 i (omega arith))

-- The rounds never end so.
moved_not : (v : Sort) (s : Pair) (p : ℕ) (t : Trial) → NotAllShort (moved_by v s p t)
moved_not (Short r) s p t = tt
moved_not (Past r) s p t = tt
moved_not Exact s p t = tt
moved_not Unreadable s p t = tt

inward_not : (ev : Trials) (pr : Proposal) (left k : ℕ) (tried : List Point) (s : Pair) → ending_of (inward ev pr left k tried s) ≡ all_short → ⊥
inward_not ev pr left k tried s e =
    subst (NoWider NotAllShort (1 + gap s)) e
    (inward_no_wider NotAllShort ev (λ s' p _ _ _. moved_not (ev p).sort s' p (ev p)) pr left k tried s (gap s) tt (omega arith))

onward_not : (tried : List Point) (h : History) (f : Sequel) → ((l : List Point) (s : Pair) → ending_of (f l s) ≡ all_short → ⊥)
    → ending_of (onward tried h f) ≡ all_short → ending_of h ≡ all_short
unfolding ending_of onward
onward_not tried (tries p h) f n e = onward_not (tried ++ (p ∷ [])) h f n e
onward_not tried (ends (between s)) f n e = absurd (n tried s e)
onward_not tried (ends (exact p)) f n e = e
onward_not tried (ends unreadable) f n e = e
onward_not tried (ends all_short) f n e = e

module _ (ev : Trials) (pr : Proposal) (first : ℕ) (error : Float) where
  -- Refusal 5: "all 41 outward points are short".
  pub all_short_lem : (ending_of (history ev pr first error) ≡ all_short) ↔ AllOutwardShort ev first
  unfolding history
  all_short_lem = (
    λ e. short_outward ev 41 first (end_at 0 error) (onward_not [] (outward_part ev first error) (inward ev pr 63 0) (inward_not ev pr 63 0) e),
    λ h. (outward_short ev 41 first (end_at 0 error) [] (inward ev pr 63 0) h).0,
  )

  -- With the 41 points used.
  pub all_short_points : AllOutwardShort ev first → points (history ev pr first error) ≡ 41
  unfolding history
  all_short_points h = (outward_short ev 41 first (end_at 0 error) [] (inward ev pr 63 0) h).1

-- ---- An unreadable point.

some_append : (ps : List Point) (p : Point) → p.trial.sort ≡ Unreadable → SomeUnreadable (ps ++ (p ∷ []))
some_append [] p e = inl e
some_append (q ∷ ps) p e = inr (some_append ps p e)

pub last_some : {ps : List Point} → LastUnreadable ps → SomeUnreadable ps
last_some l = rw l.all (some_append l.before l.last l.last_is)

abbrev NotUnreadable : Ending → Type 0
NotUnreadable (between s) = Unit {0}
NotUnreadable (exact p) = Unit {0}
NotUnreadable unreadable = ⊥
NotUnreadable all_short = Unit {0}

-- What follows a point of this sort: after an unreadable one, that end; after any other, a history of which F holds.
abbrev Follows : Sort → Type 0 → History → Type 0
Follows (Short r) F h = F
Follows (Past r) F h = F
Follows Exact F h = F
Follows Unreadable F h = h ≡ ends unreadable

follows : (v : Sort) {F : Type 0} {h : History} → Follows v F h → ((v ≡ Unreadable) × (h ≡ ends unreadable)) ⊎ ((v ≡ Unreadable → ⊥) × F)
follows (Short r) x = inr (λ e. (let z : ◌≡◌ {A = ℕ} 0 1 = cc in omega arith), x)
follows (Past r) x = inr (λ e. (let z : ◌≡◌ {A = ℕ} 0 1 = cc in omega arith), x)
follows Exact x = inr (λ e. (let z : ◌≡◌ {A = ℕ} 0 1 = cc in omega arith), x)
follows Unreadable x = inl (refl, x)

follows_so : (v : Sort) {F G : Type 0} {h g : History} → (F → G) → (h ≡ ends unreadable → g ≡ ends unreadable) → Follows v F h → Follows v G g
follows_so (Short r) f e x = f x
follows_so (Past r) f e x = f x
follows_so Exact f e x = f x
follows_so Unreadable f e x = e x

-- A history that stops at its first unreadable point, and ends so only there.
abbrev Fair : History → Type 0
Fair (tries p h) = Follows p.trial.sort (Fair h) h
Fair (ends e) = NotUnreadable e

-- What such a history says.
fair_unreadable : (h : History) → Fair h → SomeUnreadable (points_in h) → ending_of h ≡ unreadable
unfolding ending_of points_in
fair_unreadable (tries p h) f u =
    ⊎_elim (λ x. rw x.1) (λ x. ⊎_elim (λ y. absurd (x.0 y)) (fair_unreadable h x.1) u) (follows p.trial.sort f)
fair_unreadable (ends e) f u = absurd u

fair_last : (h : History) → Fair h → ending_of h ≡ unreadable → LastUnreadable (points_in h)
unfolding ending_of points_in
fair_last (tries p h) f e = ⊎_elim (λ x. one x.0 x.1) (λ x. more x.0 (fair_last h x.1 e)) (follows p.trial.sort f)
  where
    one : p.trial.sort ≡ Unreadable → h ≡ ends unreadable → LastUnreadable (p ∷ points_in h)
    one u x = record { before = []; last = p; all = rw x; last_is = u; readable_before = λ y. y }

    more : (p.trial.sort ≡ Unreadable → ⊥) → LastUnreadable (points_in h) → LastUnreadable (p ∷ points_in h)
    more r l =
        record {
          before = p ∷ l.before;
          last = l.last;
          all = ap (◌∷◌ p) l.all;
          last_is = l.last_is;
          readable_before = ⊎_elim r l.readable_before;
        }
fair_last (ends e) f u = absurd (subst NotUnreadable u f)

-- The history is such a one.
onward_fair : (tried : List Point) (h : History) (f : Sequel) → Fair h → ((l : List Point) (s : Pair) → Fair (f l s)) → Fair (onward tried h f)
unfolding onward
onward_fair tried (tries p h) f x g = follows_so p.trial.sort (λ y. onward_fair (tried ++ (p ∷ [])) h f y g) (λ e. rw e) x
onward_fair tried (ends (between s)) f x g = g tried s
onward_fair tried (ends (exact p)) f x g = x
onward_fair tried (ends unreadable) f x g = absurd x
onward_fair tried (ends all_short) f x g = x

module _ (ev : Trials) where
  attempt_fair : (s : Pair) (p : ℕ) → Fair (attempt ev s p)
  attempt_fair s p = go (ev p).sort
    where
      go : (v : Sort) → Follows v (Fair (ends (moved_by v s p (ev p)))) (ends (moved_by v s p (ev p)))
      go (Short r) = tt
      go (Past r) = tt
      go Exact = tt
      go Unreadable = refl

  halving_fair : (s : Pair) → Fair (halving ev s)
  unfolding halving
  halving_fair s = pick_holds Fair (is_wide s) (λ e. attempt_fair s (halfway s)) (λ e. tt)

  outward_fair : (k place : ℕ) (short : End) → Fair (outward ev k place short)
  unfolding outward
  outward_fair zero place short = tt
  outward_fair (suc k) place short = go (ev place).sort (outward ev k (place + 2 ^ 52)) (outward_fair k (place + 2 ^ 52))
    where
      go : (v : Sort) (next : End → History) → ((e : End) → Fair (next e))
          → Follows v (Fair (going_on (outward_by v short place (ev place)) next)) (going_on (outward_by v short place (ev place)) next)
      go (Short r) next f = f (end_at place r)
      go (Past r) next f = tt
      go Exact next f = tt
      go Unreadable next f = refl

  module _ (pr : Proposal) where
    round_fair : (k : ℕ) (tried : List Point) (s : Pair) → Fair (round ev pr k tried s)
    unfolding round
    round_fair k tried s =
        round_holds Fair ev tried s (pr k tried s) (λ p e. onward_fair tried (attempt ev s p) (λ _. halving ev) (attempt_fair s p) (λ _. halving_fair)) (halving_fair s)

    inward_fair : (left k : ℕ) (tried : List Point) (s : Pair) → Fair (inward ev pr left k tried s)
    unfolding inward
    inward_fair zero k tried s = tt
    inward_fair (suc left) k tried s =
        pick_holds Fair (is_wide s)
        (λ e. onward_fair tried (round ev pr k tried s) (inward ev pr left (k + 1)) (round_fair k tried s) (inward_fair left (k + 1)))
        (λ e. tt)

    module _ (first : ℕ) (error : Float) where
      history_fair : Fair (history ev pr first error)
      unfolding history
      history_fair = onward_fair [] (outward_part ev first error) (inward ev pr 63 0) (outward_fair 41 first (end_at 0 error)) (inward_fair 63 0)

      -- Refusal 6: "a point that the search tries is unreadable"; it is then the last, so that the points are those "used so far".
      pub unreadable_last : ending_of (history ev pr first error) ≡ unreadable → LastUnreadable (points_in (history ev pr first error))
      unreadable_last = fair_last (history ev pr first error) history_fair

      pub some_unreadable : (ending_of (history ev pr first error) ≡ unreadable) ↔ SomeUnreadable (points_in (history ev pr first error))
      some_unreadable = (λ e. last_some (unreadable_last e), fair_unreadable (history ev pr first error) history_fair)

-- ---- However it ends.

-- All of n outward points are short, or there is a first that isn't.
first_of : (ev : Trials) (first n : ℕ) → ShortBefore ev first n ⊎ ((k : ℕ) × FirstNotShort ev first n k)
first_of ev first zero = inl (λ i l. absurd (omega arith))
first_of ev first (suc n) =
    ⊎_elim
    (λ all. ⊎_elim (λ s. inl (up_to all s)) (λ x. inr (n, record { among = omega arith; shorts = all; not_short = x })) (is_short_lem (ev (out_point first n)).sort))
    (λ f. inr (f.0, record { among = omega (arith, f.1.among); shorts = f.1.shorts; not_short = f.1.not_short }))
    (first_of ev first n)
  where
    up_to : ShortBefore ev first n → IsShort (ev (out_point first n)).sort → ShortBefore ev first (suc n)
    up_to all s i l = elim (dec_lt i n) [
      | yes m ↦ all i m
      | no m ↦ let e : i ≡ n = omega arith in rw e s
    ]

pub ends_so : EndsSo
ends_so ev pr first error sorts =
    ⊎_elim
    (λ all. inr (inr ((all_short_lem ev pr first error).1 all)))
    (λ f.
    ⊎_elim inl (λ u. inr (inl u.0))
    (found ev (out_point first f.0) (ending_of (history ev pr first error)) (history_reached ev pr first error sorts f.0 f.1)))
    (first_of ev first 41)
