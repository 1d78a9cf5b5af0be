-- What the code's proofs cite of one trial point: words with a sign, the four sorts by another order of tests, and places that need no test of their own.
use Prim.Native.Nat.{ℕ, zero, suc, ◌+◌, ◌/◌, ◌%◌, ◌^◌, ◌≤◌, ◌<◌}
use mathlib.Core.Path.{◌≡◌, refl, sym, ap, ◌∙◌}
use mathlib.Core.Bool.{Bool, true, false, not, cond, ◌&&◌, true≢false}
use mathlib.Core.Logic.{◌⊎◌, inl, inr, ⊎_elim}
use native.Mathlib.Omega.{arith}
use borrow.Author.Tests.{le-leb, lt-leb, ne_eqb}
use lib.Dec.{leb, eqb}
use lib.Ieee.{Float, is_nan, nan, inf, fin, binary64, neg, mul, lt, eq, ne, odd, of_fields, of_bits}
use Rattle.bits.specs.Choice.{pick}
use Rattle.bits.specs.Arithmetic.{◌⊗◌, n0, is_finite}
use Rattle.bits.specs.Words.{field_of, infinity}
use Rattle.bits.proofs.Line.{eq_neither}
use Rattle.bits.proofs.Order.{one_way, not_itself}
use Rattle.series.specs.declared.figures.Seconds.{Seconds}
use Rattle.search_points.specs.declared.figures.Initial.{Initial}
use Rattle.search_points.specs.declared.figures.Sort.TheVariants.{Short, Unreadable}
use Rattle.search_points.specs.Meaning.{is_opposite}
use Rattle.search_points.specs.Trial.{anomaly_at, sort_of, unevaluated, evaluated_at, trial_at}

-- ---- A word with its sign bit set is the negative of the word without it.
neg_odd : (d : ℕ) (q k l : ℕ) → odd d true q k l ≡ neg (odd d false q k l)
unfolding odd neg
neg_odd d zero k l = refl
neg_odd d (suc q) k l = refl

neg_fields : (x t : ℕ) → of_fields binary64 true x t ≡ neg (of_fields binary64 false x t)
unfolding of_fields neg
neg_fields zero t = neg_odd 53 t 0 1074
neg_fields (suc x) t = by_test (eqb (suc x) 2047)
  where
    special : (b : Bool) → cond b (inf true) nan ≡ neg (cond b (inf false) nan)
    special true = refl
    special false = refl

    by_test : (b : Bool) → cond b (cond (eqb t 0) (inf true) nan) (odd 53 true (2 ^ 52 + t) x 1074)
        ≡ neg (cond b (cond (eqb t 0) (inf false) nan) (odd 53 false (2 ^ 52 + t) x 1074))
    by_test true = special (eqb t 0)
    by_test false = neg_odd 53 (2 ^ 52 + t) x 1074

neg_word : (p : ℕ) → p < 2 ^ 63 → of_bits binary64 (p + 2 ^ 63) ≡ neg (of_bits binary64 p)
unfolding of_bits
neg_word p h =
    let s : leb (2 ^ 63) (p + 2 ^ 63) ≡ true = le-leb (2 ^ 63) (p + 2 ^ 63) (omega arith) in
    let u : leb (2 ^ 63) p ≡ false = lt-leb (2 ^ 63) p h in
    let m : (p + 2 ^ 63) % 2 ^ 63 ≡ p % 2 ^ 63 = omega arith in
    let d : (p + 2 ^ 63) % 2 ^ 52 ≡ p % 2 ^ 52 = omega arith in
    simp (s, u, m, d) (neg_fields (p % 2 ^ 63 / 2 ^ 52) (p % 2 ^ 52))

pub signed_word : (b : Bool) (p : ℕ) → p < 2 ^ 63 → of_bits binary64 (p + pick b (2 ^ 63) 0) ≡ pick b (neg (of_bits binary64 p)) (of_bits binary64 p)
signed_word true p h = neg_word p h
signed_word false p h = ap (of_bits binary64) (omega arith)

pub sign_bound : (b : Bool) → pick b (2 ^ 63) 0 ≤ 2 ^ 63
sign_bound true = omega arith
sign_bound false = omega arith

pub signed_field : (b : Bool) (p : ℕ) → p < infinity → field_of (p + pick b (2 ^ 63) 0) ≤ 2046
signed_field true p h = omega arith
signed_field false p h = omega arith

-- ---- A double above or below zero is neither a NaN nor a zero; one that is neither above nor below nor equal is a NaN.
nan_or_not : (x : Float) → (is_nan x ≡ false) ⊎ ((lt n0 x ≡ false) × (lt x n0 ≡ false) × (eq x n0 ≡ false) × (ne x x ≡ true))
unfolding of_bits lt eq ne is_nan
nan_or_not nan = inr (refl, refl, refl, refl)
nan_or_not (inf s) = inl refl
nan_or_not (fin s m e) = inl refl

module _ (x : Float) where
  -- A number is equal to itself, and to zero where it is neither above nor below.
  same : is_nan x ≡ false → ne x x ≡ false
  unfolding ne
  same n = rw (eq_neither x x n n, not_itself x)

  by_zero : is_nan x ≡ false → eq x n0 ≡ not (lt x n0) && not (lt n0 x)
  unfolding of_bits is_nan
  by_zero n = eq_neither x n0 n refl

  pub above : lt n0 x ≡ true → (ne x x ≡ false) × (eq x n0 ≡ false)
  above h = ⊎_elim (λ n. (same n, by_zero n ∙ rw (one_way n0 x h, h))) (λ z. absurd (true≢false (sym h ∙ z.0))) (nan_or_not x)

  pub under : lt x n0 ≡ true → (ne x x ≡ false) × (eq x n0 ≡ false)
  under h = ⊎_elim (λ n. (same n, by_zero n ∙ rw h)) (λ z. absurd (true≢false (sym h ∙ z.1))) (nan_or_not x)

  pub zero_same : eq x n0 ≡ true → ne x x ≡ false
  zero_same e = ⊎_elim same (λ z. absurd (true≢false (sym e ∙ z.2))) (nan_or_not x)

  pub neither : lt n0 x ≡ false → lt x n0 ≡ false → eq x n0 ≡ false → ne x x ≡ true
  neither g h e = ⊎_elim (λ n. absurd (true≢false (sym (by_zero n ∙ rw (g, h)) ∙ e))) (λ z. z.3) (nan_or_not x)

-- So an error with the sign opposite to tau, which is short, is told before the others.
pub opposite_sort : (tau : Seconds) (x : Float) → is_opposite tau x ≡ true → sort_of tau x ≡ Short x
unfolding sort_of
opposite_sort tau x e = let f = signed (lt tau.0 n0) e in simp (f.0, f.1, e)
  where
    signed : (back : Bool) → pick back (lt n0 x) (lt x n0) ≡ true → (ne x x ≡ false) × (eq x n0 ≡ false)
    signed true h = above x h
    signed false h = under x h

-- ---- A psi that is not finite leaves no finite L, so a place above 0 needs no test of its own.
beyond : (i : Initial) (tau : Seconds) (place : ℕ) → leb infinity place ≡ true → evaluated_at i tau (anomaly_at tau place) ≡ unevaluated Unreadable
unfolding evaluated_at anomaly_at mul
beyond i tau place h = simp (h, no_finite i.alpha)
  where
    no_finite : (alpha : Float) → is_finite (alpha ⊗ (nan ⊗ nan)) ≡ false
    no_finite nan = refl
    no_finite (inf s) = refl
    no_finite (fin s m e) = refl

pub above_zero : (i : Initial) (tau : Seconds) (place : ℕ) → 0 < place → evaluated_at i tau (anomaly_at tau place) ≡ trial_at i tau place
unfolding trial_at
above_zero i tau place h = rw (ne_eqb place 0 (λ e. omega arith)) (by_test (leb infinity place) refl)
  where
    by_test : (b : Bool) → leb infinity place ≡ b
        → evaluated_at i tau (anomaly_at tau place) ≡ pick b (unevaluated Unreadable) (evaluated_at i tau (anomaly_at tau place))
    by_test true e = beyond i tau place e
    by_test false e = refl
