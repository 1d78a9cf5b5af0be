-- The sorts mean what document 01 says of R.
use mathlib.Core.Path.{◌≡◌, refl, sym, ap, subst, ◌∙◌}
use mathlib.Core.Bool.{Bool, true, false}
use mathlib.Core.Logic.{◌⊎◌, inl, inr, ⊎_elim}
use Prim.Native.Nat.{ℕ, ◌≤◌, ◌<◌}
use native.Mathlib.Omega.{arith}
use borrow.Author.Tests.{eqb-true, leb-true, eq-eqb, ne_eqb, le-leb}
use lib.Dec.{eqb, leb}
use lib.Ieee.{Float, neg, eq, ne}
use Rattle.bits.specs.Choice.{pick}
use Rattle.bits.specs.Arithmetic.{n0, is_finite}
use Rattle.bits.specs.Words.{infinity}
use Rattle.series.specs.Series.{first_l, coefficients_of, sums_of}
use Rattle.series.specs.declared.figures.Anomaly.{Anomaly}
use Rattle.series.specs.declared.figures.Seconds.{Seconds}
use Rattle.search_points.specs.declared.figures.Initial.{Initial}
use Rattle.search_points.specs.declared.figures.Sort.{Sort}
use Rattle.search_points.specs.declared.figures.Sort.TheVariants.{Short, Past, Exact, Unreadable}
use Rattle.search_points.specs.declared.figures.Trial.{Trial}
use Rattle.search_points.specs.Residual.{time_error_of}
use Rattle.search_points.specs.Trial.{anomaly_at, sort_of, unevaluated, trial_of, evaluated_at, trial_at}
use Rattle.search_points.specs.Meaning.{error_at, is_opposite, error_of_place, l_of_place, SortsMean}
use Rattle.search_points.proofs.Points.{zero_same, opposite_sort, above_zero}

-- What a sort says of an error whose place is 0 or not, beyond the last number's or not, and whose L is finite or not.
abbrev Says : (tau : Seconds) (error : Float) (at_zero : Bool) (beyond : Bool) (finite : Bool) → Sort → Type 0
Says tau error z b f Exact = eq error n0 ≡ true
Says tau error z b f (Short r) = ((z ≡ true) × (r ≡ neg tau.0)) ⊎ ((r ≡ error) × (is_opposite tau r ≡ true))
Says tau error z b f (Past r) = (r ≡ error) × (ne r r ≡ false) × (eq r n0 ≡ false) × (is_opposite tau r ≡ false)
Says tau error z b f Unreadable = (b ≡ true) ⊎ ((f ≡ false) ⊎ (ne error error ≡ true))

by_tests : (tau : Seconds) (error : Float) (z b f nan zero opposite : Bool) → ne error error ≡ nan → eq error n0 ≡ zero → is_opposite tau error ≡ opposite →
    Says tau error z b f (pick nan Unreadable (pick zero Exact (pick opposite (Short error) (Past error))))
by_tests tau error z b f true zero opposite e g h = inr (inr e)
by_tests tau error z b f false true opposite e g h = g
by_tests tau error z b f false false true e g h = inr (refl, h)
by_tests tau error z b f false false false e g h = (refl, e, g, h)

sort_says : (tau : Seconds) (error : Float) (z b f : Bool) → Says tau error z b f (sort_of tau error)
unfolding sort_of
sort_says tau error z b f = by_tests tau error z b f (ne error error) (eq error n0) (is_opposite tau error) refl refl refl

-- And what the tests say of a sort; `opposite_sort` of Points says it of an opposite sign.
module _ (tau : Seconds) (error : Float) where
  pub nan_sort : ne error error ≡ true → sort_of tau error ≡ Unreadable
  unfolding sort_of
  nan_sort e = rw e

  pub zero_sort : eq error n0 ≡ true → sort_of tau error ≡ Exact
  unfolding sort_of
  zero_sort e = rw (zero_same error e, e)

  pub else_sort : ne error error ≡ false → eq error n0 ≡ false → is_opposite tau error ≡ false → sort_of tau error ≡ Past error
  unfolding sort_of
  else_sort e g h = rw (e, g, h)

module _ (i : Initial) (tau : Seconds) where
  same_error : (psi : Anomaly) → time_error_of i tau (sums_of psi (coefficients_of i.alpha psi)) ≡ error_at i tau psi
  unfolding time_error_of sums_of
  same_error psi = refl

  evaluated_says : (psi : Anomaly) (z b : Bool) → Says tau (error_at i tau psi) z b (is_finite (first_l i.alpha psi)) (evaluated_at i tau psi).sort
  unfolding evaluated_at
  evaluated_says psi z b = go (is_finite (first_l i.alpha psi))
    where
      go : (f : Bool) →
          Says tau (error_at i tau psi) z b f (pick f (trial_of i tau (coefficients_of i.alpha psi).c0 (sums_of psi (coefficients_of i.alpha psi))) (unevaluated Unreadable)).sort
      go true = subst (λ (r : Float). Says tau (error_at i tau psi) z b true (sort_of tau r)) (sym (same_error psi)) (sort_says tau (error_at i tau psi) z b true)
      go false = inr (inl refl)

  -- All that a place's sort says.
  abbrev SaysAt : (p : ℕ) → Sort → Type 0
  SaysAt p sort = Says tau (error_of_place i tau p) (eqb p 0) (leb infinity p) (is_finite (l_of_place i tau p)) sort

  trial_says : (p : ℕ) → SaysAt p (trial_at i tau p).sort
  unfolding trial_at
  trial_says p = go (eqb p 0) (leb infinity p)
    where
      go : (z b : Bool) → Says tau (error_of_place i tau p) z b (is_finite (l_of_place i tau p))
          (pick z (unevaluated (Short (neg tau.0))) (pick b (unevaluated Unreadable) (evaluated_at i tau (anomaly_at tau p)))).sort
      go true b = inl (refl, refl)
      go false true = inl refl
      go false false = evaluated_says (anomaly_at tau p) false false

  -- ---- The converse.
  at_zero : (p : ℕ) → p ≡ 0 → (trial_at i tau p).sort ≡ Short (neg tau.0)
  unfolding trial_at
  at_zero p e = rw (eq-eqb p 0 e)

  by_psi : (p : ℕ) → infinity ≤ p → (trial_at i tau p).sort ≡ Unreadable
  unfolding trial_at
  by_psi p h = rw (ne_eqb p 0 (λ e. omega arith), le-leb infinity p h)

  -- A place above 0 is sorted as its ψ is: by R where L is finite.
  evaluated_sort : (psi : Anomaly) {f : Bool} → is_finite (first_l i.alpha psi) ≡ f → (evaluated_at i tau psi).sort ≡ pick f (sort_of tau (error_at i tau psi)) Unreadable
  unfolding evaluated_at
  evaluated_sort psi e = go (is_finite (first_l i.alpha psi)) ∙ ap (λ (b : Bool). pick b (sort_of tau (error_at i tau psi)) Unreadable) e
    where
      go : (b : Bool) → (pick b (trial_of i tau (coefficients_of i.alpha psi).c0 (sums_of psi (coefficients_of i.alpha psi))) (unevaluated Unreadable)).sort
          ≡ pick b (sort_of tau (error_at i tau psi)) Unreadable
      go true = ap (sort_of tau) (same_error psi)
      go false = refl

  by_test : (p : ℕ) {f : Bool} → 0 < p → is_finite (l_of_place i tau p) ≡ f → (trial_at i tau p).sort ≡ pick f (sort_of tau (error_of_place i tau p)) Unreadable
  by_test p h e = ap (λ (t : Trial). t.sort) (sym (above_zero i tau p h)) ∙ evaluated_sort (anomaly_at tau p) e

  by_nan : (p : ℕ) → 0 < p → ne (error_of_place i tau p) (error_of_place i tau p) ≡ true → (trial_at i tau p).sort ≡ Unreadable
  by_nan p h e = go (is_finite (l_of_place i tau p)) refl
    where
      go : (f : Bool) → is_finite (l_of_place i tau p) ≡ f → (trial_at i tau p).sort ≡ Unreadable
      go true f = by_test p h f ∙ nan_sort tau (error_of_place i tau p) e
      go false f = by_test p h f

  pub sorts_mean : (p : ℕ) → SortsMean i tau p
  sorts_mean p =
      record {
        unreadable = λ e. ⊎_elim (λ b. inl (leb-true infinity p b)) inr (subst (SaysAt p) e (trial_says p));
        exact = λ e. subst (SaysAt p) e (trial_says p);
        short = λ r e. ⊎_elim (λ z. inl (eqb-true p 0 z.0, z.1)) inr (subst (SaysAt p) e (trial_says p));
        past = λ r e. subst (SaysAt p) e (trial_says p);
        is_short_at_zero = at_zero p;
        is_unreadable_by_psi = by_psi p;
        is_unreadable_by_l = λ a f. by_test p a f;
        is_unreadable_by_error = by_nan p;
        is_exact = λ a f e. by_test p a f ∙ zero_sort tau (error_of_place i tau p) e;
        is_short_lem = λ a f e. by_test p a f ∙ opposite_sort tau (error_of_place i tau p) e;
        is_past = λ a f e g h. by_test p a f ∙ else_sort tau (error_of_place i tau p) e g h;
      }
