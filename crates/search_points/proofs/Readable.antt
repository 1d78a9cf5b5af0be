-- Where |α| is at most 1 and no other figure is beyond 2 ^ 1018, every place up to that of 1 is readable: |L| is at most 1, so that it is not divided, and no
-- sum or product on the way to R is infinite.
use Prim.Native.Nat.{ℕ, ◌+◌, ◌^◌, ◌≤◌, ◌<◌}
use mathlib.Core.Path.{◌≡◌, refl, sym, subst, ◌∙◌}
use mathlib.Core.Bool.{Bool, true, false, true≢false}
use mathlib.Core.List.{List, [], ◌∷◌}
use mathlib.Core.Logic.{⊎_elim}
use native.Mathlib.Omega.{arith}
use native.Mathlib.Nat.{le_of_mul-le-mul_right, mul-le-mul_right}
use borrow.Author.Tests.{lt-leb}
use lib.Pow.{pow_pos}
use lib.Ieee.{Float, nan, inf, fin, binary64, down, neg, div, lt, of_bits}
use lib.Ieee.Exact.{HasValue}
use Rattle.bits.specs.Choice.{pick}
use Rattle.bits.specs.Arithmetic.{◌⊕◌, ◌⊗◌, ◌⊘◌, half, n0, n1}
use Rattle.bits.specs.Words.{infinity, units}
use Rattle.bits.proofs.Doubles.{value}
use Rattle.bits.proofs.Units.{grows}
use Rattle.series.specs.Constants.{sixth, n24, n120, divisors4, divisors5}
use Rattle.series.specs.Series.{first_l, reduced_from, reduced, nested, c4_of, c5_of, at_reduced, coefficients_from, coefficients_of}
use Rattle.series.specs.declared.figures.Anomaly.{Anomaly}
use Rattle.series.specs.declared.figures.Coefficients.{Coefficients}
use Rattle.series.specs.declared.figures.Seconds.{Seconds}
use Rattle.search_points.specs.declared.figures.Initial.{Initial}
use Rattle.search_points.specs.declared.figures.Sort.TheVariants.{Unreadable}
use Rattle.search_points.specs.Trial.{anomaly_at, trial_at}
use Rattle.search_points.specs.Meaning.{error_at}
use Rattle.search_points.proofs.SortLaws.{sorts_mean}
use Rattle.series.proofs.Reduction.{Within, ends}
use Rattle.search_points.proofs.Bounds.{AtLeast, wider, within_finite, within_no_nan, within_neg, product, total, difference, quotient}

-- ---- The constants of the series.
abbrev Divisors : List Float → Type 0
Divisors [] = Unit {0}
Divisors (d ∷ ds) = AtLeast 1 d × Divisors ds

one : Within 0 n1
unfolding of_bits
one = omega arith

a_half : Within 0 half
unfolding of_bits
a_half = omega arith

a_sixth : Within 0 sixth
unfolding of_bits div
a_sixth = omega arith

by_24 : AtLeast 1 n24
unfolding of_bits
by_24 = omega arith

by_120 : AtLeast 1 n120
unfolding of_bits
by_120 = omega arith

by_fours : Divisors divisors4
unfolding of_bits
by_fours = (omega arith, (omega arith, (omega arith, (omega arith, (omega arith, (omega arith, (omega arith, (omega arith, tt))))))))

by_fives : Divisors divisors5
unfolding of_bits
by_fives = (omega arith, (omega arith, (omega arith, (omega arith, (omega arith, (omega arith, (omega arith, (omega arith, tt))))))))

-- ---- The coefficients of an L whose magnitude is at most 1.
module _ (l : Float) (h : Within 0 l) where
  nested_within : (ds : List Float) → Divisors ds → Within 1 (nested l ds)
  unfolding nested
  nested_within [] t = wider 0 1 n1 (omega arith) one
  nested_within (d ∷ ds) t =
      let p = product 0 1 l (nested l ds) (omega arith) h (nested_within ds t.1) in
      total 0 n1 ((l ⊗ nested l ds) ⊘ d) (omega arith) one (quotient 0 1 (l ⊗ nested l ds) d (omega arith) p t.0)

  c4_within : Within 0 (c4_of l)
  unfolding c4_of
  c4_within = quotient 0 1 (nested l divisors4) n24 (omega arith) (nested_within divisors4 by_fours) by_24

  c5_within : Within 0 (c5_of l)
  unfolding c5_of
  c5_within = quotient 0 1 (nested l divisors5) n120 (omega arith) (nested_within divisors5 by_fives) by_120

  abbrev Small : Coefficients → Type 0
  Small c = Within 2 c.c1 × Within 1 c.c2 × Within 1 c.c3

  at_reduced_lem : Small (at_reduced l)
  unfolding at_reduced
  at_reduced_lem =
      let c3 = total 0 sixth (l ⊗ c5_of l) (omega arith) a_sixth (product 0 0 l (c5_of l) (omega arith) h c5_within) in
      let c2 = total 0 half (l ⊗ c4_of l) (omega arith) a_half (product 0 0 l (c4_of l) (omega arith) h c4_within) in (
        total 1 n1 (l ⊗ (sixth ⊕ l ⊗ c5_of l)) (omega arith) (wider 0 1 n1 (omega arith) one) (product 0 1 l (sixth ⊕ l ⊗ c5_of l) (omega arith) h c3),
        c2,
        c3,
      )

  small : Small (coefficients_from l (reduced l))
  unfolding reduced_from
  small = subst (λ (again : Bool). Small (coefficients_from l (reduced_from 512 again l 0))) (sym (ends l h)) at_reduced_lem

-- ---- The time error.
pub record Moderate (b : ℕ) (i : Initial) (tau : Seconds) : Type 0 where
  pub alpha : Within 0 i.alpha
  pub r0 : Within b i.r0
  pub sigma0 : Within b i.sigma0
  pub mu : Within b i.mu
  pub time : Within b tau.0

module _ (b : ℕ) (i : Initial) (tau : Seconds) (few : b ≤ 1018) (m : Moderate b i tau) (psi : Anomaly) (h : Within 0 psi.0) where
  square : Within 0 (psi.0 ⊗ psi.0)
  square = product 0 0 psi.0 psi.0 (omega arith) h h

  l_within : Within 0 (first_l i.alpha psi)
  l_within = product 0 0 i.alpha (psi.0 ⊗ psi.0) (omega arith) m.alpha square

  error_within : Within (b + 2 + 1 + 1 + 1) (error_at i tau psi)
  unfolding coefficients_of
  error_within =
      let x = psi.0 in
      let c = coefficients_of i.alpha psi in
      let s = small (first_l i.alpha psi) l_within in
      let p1 = product b 2 i.r0 (x ⊗ c.c1) (omega arith) m.r0 (product 0 2 x c.c1 (omega arith) h s.0) in
      let p2 = product b 1 i.sigma0 ((x ⊗ x) ⊗ c.c2) (omega arith) m.sigma0 (product 0 1 (x ⊗ x) c.c2 (omega arith) square s.1) in
      let cube = product 0 0 (x ⊗ x) x (omega arith) square h in
      let p3 = product b 1 i.mu (((x ⊗ x) ⊗ x) ⊗ c.c3) (omega arith) m.mu (product 0 1 ((x ⊗ x) ⊗ x) c.c3 (omega arith) cube s.2) in
      let first = i.r0 ⊗ (x ⊗ c.c1) in
      let second = i.sigma0 ⊗ ((x ⊗ x) ⊗ c.c2) in
      let third = i.mu ⊗ (((x ⊗ x) ⊗ x) ⊗ c.c3) in
      let two = total (b + 2) first second (omega arith) p1 (wider (b + 1) (b + 2) second (omega arith) p2) in
      let three = total (b + 2 + 1) (first ⊕ second) third (omega arith) two (wider (b + 1) (b + 2 + 1) third (omega arith) p3) in
      difference (b + 2 + 1 + 1) ((first ⊕ second) ⊕ third) tau.0 (omega arith) three (wider b (b + 2 + 1 + 1) tau.0 (omega arith) m.time)

-- ---- The places up to that of 1.
abbrev pub place_of_one : ℕ
place_of_one = 0x3ff0000000000000

ones : units place_of_one ≡ 2 ^ 1074
unfolding units
ones = refl

of_value : (x : Float) (a c : ℕ) → 0 < c → HasValue x false a c → a ≤ c → Within 0 x
of_value nan a c C v h = absurd v
of_value (inf s) a c C v h = absurd v
of_value (fin s m e) a c C v h = le_of_mul-le-mul_right (omega (arith, v.1, mul-le-mul_right (down e) h)) C

up_to_one : (tau : Seconds) (p : ℕ) → p ≤ place_of_one → Within 0 (anomaly_at tau p).0
unfolding anomaly_at
up_to_one tau p h = rw (lt-leb infinity p (omega arith)) (go (lt tau.0 n0))
  where
    w : Within 0 (of_bits binary64 p)
    w = of_value (of_bits binary64 p) (units p) (2 ^ 1074) (pow_pos 1074) (value p (omega arith)) (subst (λ (u : ℕ). units p ≤ u) ones (grows p place_of_one h))

    go : (back : Bool) → Within 0 (pick back (neg (of_bits binary64 p)) (of_bits binary64 p))
    go true = within_neg 0 (of_bits binary64 p) w
    go false = w

pub readable : (b : ℕ) (i : Initial) (tau : Seconds) → b ≤ 1018 → Moderate b i tau → (p : ℕ) → p ≤ place_of_one → (trial_at i tau p).sort ≡ Unreadable → ⊥
readable b i tau few m p h e =
    let psi = anomaly_at tau p in
    let w = up_to_one tau p h in
    let l = first_l i.alpha psi in
    let error = error_at i tau psi in
    ⊎_elim
    (λ g. omega arith)
    (⊎_elim
    (λ f. true≢false (sym (within_finite 0 l (l_within b i tau few m psi w)) ∙ f))
    (λ n. true≢false (sym n ∙ within_no_nan (b + 2 + 1 + 1 + 1) error (error_within b i tau few m psi w))))
    ((sorts_mean i tau p).unreadable e)
