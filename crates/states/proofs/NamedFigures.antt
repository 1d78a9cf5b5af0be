-- T-05: both calls give the first figure that is NaN or infinite by its number, and no other input such a number.
use mathlib.Core.Path.{◌≡◌, refl, sym, ◌∙◌, ap, subst}
use mathlib.Core.Logic.{◌⊎◌, inl, inr, ⊎_elim}
use mathlib.Core.Bool.{Bool, true, false, not}
use mathlib.Core.List.{List}
use Prim.Native.Nat.{ℕ, ◌+◌, ◌<◌, ◌≤◌}
use native.Mathlib.Omega.{arith}
use borrow.Author.Tests.{eq-eqb, ne_eqb}
use lib.ListN.{length}
use Rattle.std.specs.Prelude.{Result, Ok, Err}
use Rattle.bits.specs.Choice.{pick}
use Rattle.bits.specs.Arithmetic.{is_finite}
use Rattle.bits.specs.Runs.{first_of}
use Rattle.bits.specs.declared.runs.Sought.TheVariants.{NotFinite}
use Rattle.bits.specs.Refusal.{number_of}
use Rattle.bits.specs.declared.refusal.Refusal.{Refusal}
use Rattle.bits.specs.declared.refusal.Refusal.TheVariants.{StartNotFinite}
use Rattle.search.specs.Search.{Finding, Proposing}
use Rattle.states_revolutions.specs.declared.figures.WholeInterval.{WholeInterval}
use Rattle.states_revolutions.specs.declared.figures.Interval.{Interval}
use Rattle.states_arcs.specs.Results.{results_of, ended_of}
use Rattle.states_arcs.specs.declared.figures.Results.{Results}
use Rattle.states_arcs.proofs.EndLaws.{seven_or_eight}
use Rattle.states_start.specs.Given.{double_at, figure_refusal, read_of, FirstBad}
use Rattle.states_start.specs.Initial.{begun_of, first_step_of}
use Rattle.states_start.specs.declared.figures.Orbit.{Orbit}
use Rattle.states_start.specs.declared.figures.Start.{Start}
use Rattle.states_start.specs.declared.figures.Given.{Given}
use Rattle.states_start.specs.declared.figures.Begun.{Begun}
use Rattle.states_start.proofs.StartLaws.{names_first, first_bad, refused_first, figure_number, FiniteBefore, first_at, three_or_four}
use Rattle.states.specs.Call.{searching, Parting, Reaching, Answering, refused, refusal_of, orbit_words, reached_found, reached_over_by, reached_from_by, reached_begun_by, reached_orbit_by, reached_read_by, reached_words_by, answer_from, propagate_by}
use Rattle.states.specs.WithPartials.{partials_from, partials_by}
use Rattle.states.specs.CallPromise.{NamesBad, NamesFigure, ByName, CallsName}
use Rattle.states.proofs.CallPromise.{FiveOrSix, five_or_six, Settled, settled, settled_with}

-- ---- The numbers that a call of eight finite words can give: 0, or 3 to 8.
abbrev Other : ℕ → Type 0
Other n = (n ≡ 0) ⊎ ((3 ≤ n) × (n ≤ 8))

abbrev OtherIn : Reaching → Type 0
OtherIn (Err r) = Other (number_of r.refusal)
OtherIn (Ok x) = Unit {0}

found_other : (s : Start) (d : Interval) (x : Finding) → FiveOrSix x → OtherIn (reached_found s d x)
unfolding reached_found
found_other s d (Ok f) h = tt
found_other s d (Err r) h = ⊎_elim (λ e. inr (omega arith, omega arith)) (λ e. inr (omega arith, omega arith)) h

module _ (pr : Proposing) (s : Start) (d : Interval) where
  over_other : OtherIn (reached_over_by (searching pr) s d)
  unfolding reached_over_by
  over_other = go (not (is_finite (first_step_of s.initial d.searched).0)) _ (found_other s d _ (five_or_six pr s.initial d.searched (first_step_of s.initial d.searched)))
    where
      go : (t : Bool) (x : Reaching) → OtherIn x → OtherIn (pick t (refused StartNotFinite 0) x)
      go true x h = inr (omega arith, omega arith)
      go false x h = h

module _ (pt : Parting) (pr : Proposing) where
  begun_other : (b : Result Begun Refusal) (whole : WholeInterval) → ((n : Refusal) → b ≡ Err n → (number_of n ≡ 3) ⊎ (number_of n ≡ 4))
      → OtherIn (reached_begun_by pt (searching pr) b whole)
  unfolding reached_from_by
  begun_other (Ok b) whole h = over_other pr b.start (pt b.course whole)
  begun_other (Err n) whole h = ⊎_elim (λ e. inr (omega arith, omega arith)) (λ e. inr (omega arith, omega arith)) (h n refl)

  orbit_other : (o : Orbit) (whole : WholeInterval) → OtherIn (reached_orbit_by pt (searching pr) o whole)
  unfolding reached_orbit_by
  orbit_other o whole = begun_other (begun_of o) whole (three_or_four o)

settled_other : (a : Answering) (n : ℕ) (r : Results) → Settled a n r → Other (refusal_of a)
settled_other a n r (inl e) = inl (ap refusal_of e)
settled_other a n r (inr (inl e)) = let k = ap refusal_of e in inr (omega arith, omega arith)
settled_other a n r (inr (inr e)) = let k = ap refusal_of e in inr (omega arith, omega arith)

answer_other : (x : Reaching) → OtherIn x → Other (refusal_of (answer_from x))
answer_other (Err r) h = h
answer_other (Ok x) h = settled_other _ x.points (results_of x.arc) (settled x.points (ended_of x.arc) (results_of x.arc) (seven_or_eight x.arc))

partials_other : (x : Reaching) (run : List ℕ) → length run ≡ 36 → OtherIn x → Other (refusal_of (partials_from x run))
partials_other (Err r) run l h = h
partials_other (Ok x) run l h =
    settled_other _ x.points (results_of x.arc) (settled_with x.arc x.points (ended_of x.arc) (results_of x.arc) run l (seven_or_eight x.arc))

-- ---- An answer that is a figure's refusal where the words are refused by it, and has one of the other numbers where they are not.
module _ (words : List ℕ) (eight : length words ≡ 8) (a : Answering)
    (by-figure : (n : Refusal) → read_of words ≡ Err n → a ≡ refused n 0)
    (by-orbit : (g : Given) → read_of words ≡ Ok g → Other (refusal_of a)) where
  first : ℕ
  first = first_of NotFinite words

  named : (k : ℕ) → FirstBad words k → a ≡ refused (figure_refusal k) 0
  named k f = by-figure (figure_refusal k) (names_first words eight k f)

  number : (k : ℕ) → FirstBad words k → refusal_of a ≡ 31 + k
  number k f = ap refusal_of (named k f) ∙ figure_number k f.one_of_eight

  -- Either the first bad figure's number, or another.
  either : FirstBad words first ⊎ Other (refusal_of a)
  unfolding first
  either = go (read_of words) refl
    where
      go : (r : Result Given Refusal) → read_of words ≡ r → FirstBad words (first_of NotFinite words) ⊎ Other (refusal_of a)
      go (Err n) e = inl (refused_first words eight n e).1
      go (Ok g) e = inr (by-orbit g e)

  told : (k : ℕ) → k < 8 → refusal_of a ≡ 31 + k → FirstBad words k
  told k l e = ⊎_elim
      (λ f. let same : first ≡ k = omega (arith, number first f) in subst (FirstBad words) same f)
      (λ o. ⊎_elim (λ z. absurd (omega arith)) (λ z. absurd (omega (arith, z.0, z.1))) o)
      either

  names_bad : NamesBad words a
  names_bad =
      record {
        named = named;
        numbered = number;
        told = told;
        refused_all = λ b. let f = first_bad words eight b in (omega (arith, number _ f), omega (arith, number _ f, f.one_of_eight));
        refused_only = λ l m. ⊎_elim
            (λ f. record { figure = first; one_of_eight = f.one_of_eight; bad = f.bad })
            (λ o. ⊎_elim (λ z. absurd (omega arith)) (λ z. absurd (omega (arith, z.1))) o)
            either;
        never_2 = λ e. ⊎_elim (λ f. omega (arith, number first f)) (λ o. ⊎_elim (λ z. omega arith) (λ z. omega (arith, z.0)) o) either;
      }

-- ---- Both calls are such answers.
module _ (pt : Parting) (pr : Proposing) (words : List ℕ) where
  reached_figure : (n : Refusal) → read_of words ≡ Err n → reached_words_by pt (searching pr) words ≡ refused n 0
  unfolding reached_words_by
  reached_figure n e = ap (reached_read_by pt (searching pr)) e

  reached_other : (g : Given) → read_of words ≡ Ok g → OtherIn (reached_words_by pt (searching pr) words)
  unfolding reached_words_by
  reached_other g e = subst OtherIn (sym (ap (reached_read_by pt (searching pr)) e)) (orbit_other pt pr g.orbit g.whole)

pub names_figure : NamesFigure
unfolding propagate_by partials_by
names_figure pt pr words eight =
    let x = reached_words_by pt (searching pr) words in (
      names_bad words eight (propagate_by pt pr words)
          (λ n e. ap answer_from (reached_figure pt pr words n e))
          (λ g e. answer_other x (reached_other pt pr words g e)),
      λ run h. names_bad words eight (partials_by pt pr words run)
          (λ n e. rw (eq-eqb (length run) 36 h) (ap (λ (y : Reaching). partials_from y run) (reached_figure pt pr words n e)))
          (λ g e. rw (eq-eqb (length run) 36 h) (partials_other x run h (reached_other pt pr words g e))),
      λ run h. rw (ne_eqb (length run) 36 h),
    )

-- ---- By name.
module _ (mu x y z vx vy vz tau : ℕ) (a : Answering) (names : NamesBad (orbit_words mu x y z vx vy vz tau) a) where
  abbrev eight : List ℕ
  eight = orbit_words mu x y z vx vy vz tau

  numbered : (k : ℕ) → k < 8 → FiniteBefore k eight → is_finite (double_at eight k) ≡ false → refusal_of a ≡ 31 + k
  numbered k l f b = names.numbered k (first_at eight k l f b)

  by_name : ByName mu x y z vx vy vz tau (refusal_of a)
  by_name =
      record {
        bad_mu = λ b. numbered 0 (omega arith) tt b;
        bad_x = λ m b. numbered 1 (omega arith) (m, tt) b;
        bad_y = λ m p b. numbered 2 (omega arith) (m, (p, tt)) b;
        bad_z = λ m p q b. numbered 3 (omega arith) (m, (p, (q, tt))) b;
        bad_vx = λ m p q r b. numbered 4 (omega arith) (m, (p, (q, (r, tt)))) b;
        bad_vy = λ m p q r u b. numbered 5 (omega arith) (m, (p, (q, (r, (u, tt))))) b;
        bad_vz = λ m p q r u v b. numbered 6 (omega arith) (m, (p, (q, (r, (u, (v, tt)))))) b;
        bad_tau = λ m p q r u v w b. numbered 7 (omega arith) (m, (p, (q, (r, (u, (v, (w, tt))))))) b;
      }

pub calls_name : CallsName
calls_name pt pr mu x y z vx vy vz tau =
    let names = names_figure pt pr (orbit_words mu x y z vx vy vz tau) refl in (
      by_name mu x y z vx vy vz tau (propagate_by pt pr (orbit_words mu x y z vx vy vz tau)) names.0,
      λ run h. by_name mu x y z vx vy vz tau (partials_by pt pr (orbit_words mu x y z vx vy vz tau) run) (names.1 run h),
    )
